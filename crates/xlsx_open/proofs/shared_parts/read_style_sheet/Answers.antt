use Rattle.std.proofs.Common.{ℕ, List, map, ◌∙◌, subst, codes}
use Rattle.std.specs.Prelude.{IfOk, IfErr}
use Rattle.part_events.specs.Words.{Uses, event_count}
use Rattle.xlsx_error.specs.declared.error.XlsxError.TheVariants.{Io}
use Rattle.xlsx_sections.specs.Words.{IsInsideRefused, OptionalPartFails, ReadsToEnd}
use Rattle.xlsx_formats.specs.Formattings.{style_said}
use Rattle.xlsx_stylesheet.specs.StyleSheet.{cell_formats_in, end_in_styles, HasStyles}
use Rattle.xlsx_open.proofs.shared_parts.read_style_sheet.Goals as goal

pub returns-clause-uses : goal.returns-clause-uses
returns-clause-uses g c =
    let old = c.args.xml.now.source in
    let new = c.read_styles.new.xml.source in
    subst (λ (part : List ℕ). Uses (event_count old.parts part) Io c.read_styles.result old new)
    (c.as_str.ensures.value ∙ c.in_ok-part.ensures) c.read_styles.ensures.uses

pub returns-clause-styles : goal.returns-clause-styles
returns-clause-styles g c = λ told.
    let old = c.args.xml.now.source in
    let theme = c.args.theme_colors.now in
    subst (λ (part : List ℕ). IfOk c.read_styles.result (λ sheet.
    HasStyles theme old.parts part sheet.formats.items (map style_said sheet.styles.items)))
    (c.as_str.ensures.value ∙ c.in_ok-part.ensures) (c.read_styles.ensures.styles told)

pub returns-clause-err : goal.returns-clause-err
returns-clause-err g c =
    let old = c.args.xml.now.source in
    let new = c.read_styles.new.xml.source in
    let theme = c.args.theme_colors.now in
    subst (λ (part : List ℕ). IfErr c.read_styles.result
    (OptionalPartFails (codes "styleSheet") end_in_styles (IsInsideRefused (cell_formats_in theme))
    part old new)) (c.as_str.ensures.value ∙ c.in_ok-part.ensures) c.read_styles.ensures.err

pub returns-clause-to_end : goal.returns-clause-to_end
returns-clause-to_end g c =
    let old = c.args.xml.now.source in
    let new = c.read_styles.new.xml.source in
    subst (λ (part : List ℕ). ReadsToEnd (codes "styleSheet") part c.read_styles.result old new)
    (c.as_str.ensures.value ∙ c.in_ok-part.ensures) c.read_styles.ensures.to_end
