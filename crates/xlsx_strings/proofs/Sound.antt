-- Shared strings that can be read have no cause of a refusal.
use Rattle.std.proofs.Common.{◌≡◌, ℕ, List, [], Ok, Err, sym, ◌∙◌, codes}
use Rattle.part_events.specs.Words.{Event, Part, part_of}
use Rattle.xlsx_error.specs.declared.error.XlsxError.{XlsxError}
use Rattle.xlsx_sections.specs.Words.{IsInsideRefused, PartSection, inside_of, OptionalPartCause}
use Rattle.xlsx_sections.specs.Words.{Refusal}
use Rattle.xlsx_sections.proofs.Sound.{no_cause_if_sound}
use Rattle.xlsx_strings.specs.Strings.{strings_in, end_in_strings, HasStrings}

never : (strings : List (List ℕ)) (s : PartSection) → strings_in (inside_of s) ≡ Ok strings
    → (refusal : Refusal) → IsInsideRefused strings_in s refusal → ⊥
never strings s is refusal refuses =
    let both : Ok strings ≡ Err refusal = sym is ∙ refuses in absurd (cc)

pub no_strings_cause : (parts : List Part) (path : List ℕ) (strings : List (List ℕ))
    (error : XlsxError) → HasStrings parts path strings
    → OptionalPartCause (codes "sst") end_in_strings (IsInsideRefused strings_in)
    (part_of parts path) error → ⊥
no_strings_cause parts path strings error has cause =
    no_cause_if_sound (codes "sst") path parts (strings ≡ [])
    (λ (inside : List Event). strings_in inside ≡ Ok strings) end_in_strings
    (IsInsideRefused strings_in) error has (never strings) cause
