-- How the texts of values are read.
use Rattle.std.proofs.Common.{◌≡◌, ◌↔◌, ℕ, ◌≤◌, List, [], ◌∷◌, length, Bool, false, None, Err}
use Rattle.std.proofs.Common.{Global, String, map, refl, sym, ◌∙◌, ap, string_bytes}
use Rattle.std.specs.Prelude.{◌==◌, IsTrue, unwrap_or, slice_get, option_map}
use Rattle.std.specs.Str.{str_eq_ignore_ascii_case, str_to_ascii_lowercase, trim}
use Rattle.std.specs.Char.{to_ascii_lowercase}
use Rattle.std.proofs.lemmas.Bool.Decides.{same_from_decides}
use Rattle.std.proofs.lemmas.Slice.Eq.{bytes_eq-Decides}
use Rattle.std.proofs.lemmas.Option.{slice_get-map, slice_get_past}
use Rattle.xlsx_sections.specs.Words.{number_text, plain, lacks_string, wrong_truth}
use Rattle.xlsx_values.specs.Value.{shared_value, truth_value, trimmed_truth, lower_truth}

pub decided : (b : Bool) (text other : List ℕ)
    → (IsTrue b ↔ (map to_ascii_lowercase text ≡ map to_ascii_lowercase other))
    → b ≡ str_eq_ignore_ascii_case text other
decided b text other same =
    same_from_decides b (str_eq_ignore_ascii_case text other) (same.0, same.1)
    (bytes_eq-Decides (str_to_ascii_lowercase text) (str_to_ascii_lowercase other))

-- a place past the strings has none
pub no_string : (strings : List (String Global)) (text : List ℕ) (place : ℕ)
    → (length text == 0) ≡ false → place ≡ unwrap_or (number_text text) 0 → length strings ≤ place
    → shared_value (map string_bytes strings) text ≡ Err (plain lacks_string)
no_string strings [] place some is past = absurd (cc)
no_string strings (b ∷ bs) place some is past =
    let none : slice_get (map string_bytes strings) place ≡ None =
    slice_get-map string_bytes strings place
    ∙ ap (option_map string_bytes) (slice_get_past strings place past) in
    rw (← is, none) refl

no_truth_trimmed : (written trimmed : List ℕ) → (length trimmed == 0) ≡ false
    → lower_truth (str_to_ascii_lowercase trimmed) ≡ None
    → trimmed_truth written trimmed ≡ Err (plain (wrong_truth written))
no_truth_trimmed written [] some none = absurd (cc)
no_truth_trimmed written (b ∷ bs) some none = rw none refl

-- a text that names no boolean is refused
pub no_truth : (text trimmed copy : List ℕ) → trimmed ≡ trim text → copy ≡ text
    → (length trimmed == 0) ≡ false → lower_truth (str_to_ascii_lowercase trimmed) ≡ None
    → truth_value text ≡ Err (plain (wrong_truth copy))
no_truth text trimmed copy is same some none =
    ap (trimmed_truth text) (sym is) ∙ no_truth_trimmed text trimmed some none
    ∙ ap (λ (written : List ℕ). Err (plain (wrong_truth written))) (sym same)
