-- How a side of a border is refused.
use Rattle.std.proofs.Common.{◌≡◌, List, Ok, codes, length, sym, ◌∙◌, ap}
use Rattle.part_events.specs.Words.{Tag, start, Reading, IsReading}
use Rattle.xlsx_error.specs.declared.error.XlsxError.{XlsxError}
use Rattle.cell_styles.specs.declared.border.BorderStyle.{BorderStyle}
use Rattle.cell_styles.specs.declared.color.Color.{Color}
use Rattle.xlsx_sections.specs.Words.{ElementReadFails, IsInsideRefused, always, inside_of}
use Rattle.xlsx_sections.specs.Words.{section_left}
use Rattle.xlsx_sections.proofs.Refused.{refused_as}
use Rattle.xlsx_sections.proofs.SectionsRead.{same_tag}
use Rattle.xlsx_styles.specs.Borders.{color_in, colored, side_by, side_line, side_of}

-- a color that is refused refuses its side
pub side_fails : (theme : List Color) (tag own : Tag) (style : BorderStyle) (old new : Reading)
    (error : XlsxError) → IsReading old → start own ≡ old.source.current
    → side_line own ≡ Ok style
    → ElementReadFails (always (codes "border side")) (color_in theme) old new error
    → start tag ≡ old.source.current
    → ElementReadFails (always (codes "border side")) (side_of theme tag) old new error
side_fails theme tag own style old new error is here line fails there =
    refused_as (length old.names) old (always (codes "border side"))
    (IsInsideRefused (color_in theme)) (IsInsideRefused (side_of theme tag)) new error
    (λ refusal refuses.
    ap (side_by theme (inside_of (section_left (length old.names) old)))
    (ap side_line (same_tag (there ∙ sym here)) ∙ line)
    ∙ ap (colored style) refuses)
    fails
