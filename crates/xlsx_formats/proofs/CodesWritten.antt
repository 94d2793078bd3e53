-- The codes that are kept are those of some number formats.
use Rattle.std.proofs.Common.{◌≡◌, ℕ, List, [], ◌∷◌, Bool, Some, None, refl, sym, ◌∙◌, ap, String}
use Rattle.std.proofs.Common.{Global, string_bytes}
use Rattle.std.specs.Prelude.{option_map, if◌then◌else◌, cond}
use Rattle.std.specs.BTreeMap.{is_at}
use Rattle.std.specs.Cmp.Lexicographic.{slice_cmp}
use Rattle.std.specs.Map.{lookup}
use Rattle.std.specs.Option.{option_or}
use Rattle.std.specs.Ordering.{nat_cmp}
use Rattle.std.specs.Str.{bytes_eq}
use Rattle.std.proofs.lemmas.Bool.Decides.{same_from_decides}
use Rattle.std.proofs.lemmas.Map.Text.{is_eq-slice_cmp}
use Rattle.std.proofs.lemmas.Slice.Eq.{bytes_eq-Decides}
use Rattle.xlsx_formats.specs.FormatCodes.{code_of, code_written, formats_at, formats_kept}
use Rattle.xlsx_formats.specs.FormatCodes.{AreCodes}
use Rattle.xlsx_formats.specs.declared.format_codes.FormatCodes.{FormatCodes}
use Rattle.xlsx_formats.specs.declared.kept_code.KeptCode.{KeptCode}
use Rattle.xlsx_formats.proofs.CodesKept.{code_behind, code_chosen}

bytes_turned : (first second : List ℕ) → bytes_eq first second ≡ bytes_eq second first
bytes_turned first second =
    let turned = bytes_eq-Decides second first in
    same_from_decides (bytes_eq first second) (bytes_eq second first)
    (bytes_eq-Decides first second)
    (λ is. sym (turned.0 is), λ same. turned.1 (sym same))

entries_written : (id : List ℕ) (entries : List (String Global × KeptCode))
    → option_map code_of
    (lookup (is_at (λ (key : String Global). slice_cmp nat_cmp id (string_bytes key))) entries)
    ≡ code_written id (formats_at entries)
entries_written id [] = refl
entries_written id (entry ∷ entries) =
    let key = string_bytes entry.0 in
    let others = lookup (is_at (λ (key : String Global). slice_cmp nat_cmp id (string_bytes key)))
    entries in
    ap (λ (same : Bool). option_map code_of (cond same (Some entry.1) others))
    (is_eq-slice_cmp id key ∙ bytes_turned id key)
    ∙ code_chosen code_of (bytes_eq key id) entry.1 others
    ∙ ap (option_or (if bytes_eq key id then Some (code_of entry.1) else None))
    (entries_written id entries)
    ∙ sym (code_behind id (formats_at entries)
    (record { id = key; code = code_of entry.1 }))

pub codes_written : (kept : FormatCodes) → AreCodes (formats_kept kept) kept
codes_written kept id = entries_written id kept.by_id.entries
