-- Styles that can be read have no cause of a refusal.
use Rattle.std.proofs.Common.{◌≡◌, ℕ, List, [], Result, Ok, Err, codes}
use Rattle.std.specs.Prelude.{IsOkAnd}
use Rattle.part_events.specs.Words.{Event, Part, part_of}
use Rattle.xlsx_error.specs.declared.error.XlsxError.{XlsxError}
use Rattle.cell_data.specs.declared.format.CellFormat.{CellFormat}
use Rattle.cell_styles.specs.declared.color.Color.{Color}
use Rattle.xlsx_sections.specs.Words.{IsInsideRefused, inside_of, OptionalPartCause, Refusal}
use Rattle.xlsx_sections.proofs.Sound.{no_cause_if_sound}
use Rattle.xlsx_formats.specs.Formattings.{StyleSaid}
use Rattle.xlsx_stylesheet.specs.StyleSheet.{cell_formats_in, end_in_styles, AreStyles, HasStyles}

never : {A : Type 0} (answer : Result A Refusal) (P : A → Type 0) → IsOkAnd answer P
    → (refusal : Refusal) → answer ≡ Err refusal → ⊥
never (Ok a) P holds refusal refuses = absurd (cc)
never (Err own) P holds refusal refuses = holds

pub no_styles_cause : (theme : List Color) (parts : List Part) (path : List ℕ)
    (formats : List CellFormat) (styles : List StyleSaid) (error : XlsxError)
    → HasStyles theme parts path formats styles
    → OptionalPartCause (codes "styleSheet") end_in_styles
    (IsInsideRefused (cell_formats_in theme)) (part_of parts path) error → ⊥
no_styles_cause theme parts path formats styles error has cause =
    no_cause_if_sound (codes "styleSheet") path parts ((formats ≡ []) × (styles ≡ []))
    (λ (inside : List Event). IsOkAnd (cell_formats_in theme inside) (AreStyles formats styles))
    end_in_styles (IsInsideRefused (cell_formats_in theme)) error has
    (λ s. never (cell_formats_in theme (inside_of s)) (AreStyles formats styles)) cause
