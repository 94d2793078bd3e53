use Rattle.std.proofs.Common.{Result, ap, codes}
use Rattle.part_events.specs.Words.{tag_of, element_at}
use Rattle.cell_styles.specs.declared.border.Border.{Border}
use Rattle.xlsx_sections.specs.Words.{IsInsideRefused, always, Refusal, in_element}
use Rattle.xlsx_sections.proofs.ElementsSaid.{element_changed, element_change_refused}
use Rattle.xlsx_sections.proofs.SectionsRead.{leaves_further}
use Rattle.xlsx_sections.proofs.StartsSaid.{at_start, own_refused, own_step_refused}
use Rattle.xlsx_styles.specs.Borders.{side_of, side_placed, border_change, border_of, end_in_side}
use Rattle.xlsx_styles.specs.Borders.{end_in_border}
use Rattle.xlsx_styles.proofs.ElementsTold.{refused_inside}
use Rattle.xlsx_styles.proofs.StepErrors.{border_step}
use Rattle.xlsx_styles.proofs.border.parse_border.Goals as goal

pub returns-in_err-_at : goal.returns-in_err-_at
returns-in_err-_at g c =
    let old = c.args.xml.now in
    let refused = IsInsideRefused (border_of c.args.theme_colors.now c.args.diagonal_down
    c.args.diagonal_up) in
    record {
      borders = refused_inside c.from_residual.result c.from_residual.ensures.1
          (leaves_further c.sides.invariant.keeps.section.reads c.in_err-_at.ensures.reads)
          (own_step_refused old end_in_border refused c.next_element_in.new.xml.source _
          c.depth-base.ensures
          (c.in_err-_at.ensures.refused old end_in_side c.sides.invariant.keeps))
          (border_step _ c.in_err-_at.ensures.kind);
    }

pub sides-preserved : goal.sides-preserved
sides-preserved g c =
    let old = c.args.xml.now in
    let new = c.next_element_in.new.xml in
    let down = c.args.diagonal_down in
    let up = c.args.diagonal_up in
    let tag = tag_of c.start_tag.result in
    let found = at_start _ c.start_tag.ensures
    (rw c.in-Some.is at (c.in_ok-_at.ensures.step old c.sides.invariant.keeps)) in
    element_changed (border_change c.args.theme_colors.now down up) c.sides.invariant found
    c.in_ok-border.ensures.reads
    (λ told. rw (c.place_side.ensures, c.side_of-side.ensures)
    (ap (λ (answer : Result Border Refusal).
    side_placed down up tag c.sides.borders
    (in_element (element_at c.depth-base.result tag new) answer))
    (c.in_ok-border.ensures.says told tag c.start_tag.ensures)))

pub returns-in_err-border : goal.returns-in_err-border
returns-in_err-border g c =
    let old = c.args.xml.now in
    let last = c.read_side.new.xml.source in
    let theme = c.args.theme_colors.now in
    let down = c.args.diagonal_down in
    let up = c.args.diagonal_up in
    let tag = tag_of c.start_tag.result in
    let found = at_start _ c.start_tag.ensures
    (rw c.in-Some.is at (c.in_ok-_at.ensures.step old c.sides.invariant.keeps)) in
    let error = c.in_err-border.field-0.0 in
    record {
      borders = refused_inside c.from_residual-in_err-border.result
          c.from_residual-in_err-border.ensures.1
          (leaves_further c.sides.invariant.keeps.section.reads
          (leaves_further c.in_ok-_at.ensures.reads c.in_err-border.ensures.reads))
          (own_refused old end_in_border (IsInsideRefused (border_of theme down up)) last error
          c.depth-base.ensures
          (element_change_refused (codes "border") (λ own. always (codes "border side"))
          (side_of theme tag) (border_change theme down up) last error c.sides.invariant found
          (λ refusal is. ap (side_placed down up tag c.sides.borders) is)
          (c.in_err-border.ensures.err tag c.start_tag.ensures)))
          c.in_err-border.ensures.kind;
    }
