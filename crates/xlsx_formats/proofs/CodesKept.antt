-- How the code of one more format is kept.
use Rattle.std.proofs.Common.{◌≡◌, ℕ, List, [], ◌∷◌, ◌++◌, Bool, true, false, Option, Some, None}
use Rattle.std.proofs.Common.{refl, sym, ◌∙◌, ap}
use Rattle.std.specs.Prelude.{cond, option_map, if◌then◌else◌}
use Rattle.std.specs.Option.{option_or}
use Rattle.xlsx_formats.specs.FormatCodes.{WrittenFormat, code_if, code_written}

or_or : {A : Type 0} (first second third : Option A) → option_or (option_or first second) third
    ≡ option_or first (option_or second third)
or_or None second third = refl
or_or (Some a) second third = refl

or_none : {A : Type 0} (first : Option A) → option_or first None ≡ first
or_none None = refl
or_none (Some a) = refl

-- the code of an id, with one more format behind the others
pub code_behind : (id : List ℕ) (formats : List WrittenFormat) (format : WrittenFormat)
    → code_written id (formats ++ format ∷ [])
    ≡ option_or (code_if id format) (code_written id formats)
code_behind id [] format = sym (or_none (code_if id format))
code_behind id (first ∷ others) format =
    ap (λ (code : Option (List ℕ)). option_or code (code_if id first))
    (code_behind id others format)
    ∙ or_or (code_if id format) (code_written id others) (code_if id first)

pub code_chosen : {X : Type 0} (view : X → List ℕ) (is : Bool) (code : X) (kept : Option X)
    → option_map view (cond is (Some code) kept)
    ≡ option_or (if is then Some (view code) else None) (option_map view kept)
code_chosen view true code kept = refl
code_chosen view false code kept = refl
