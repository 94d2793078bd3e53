use Rattle.std.proofs.Common.{◌∙◌, ap, map}
use Rattle.cell_data.specs.Words.{value_of_data, cells_gathered, with_meaning}
use Rattle.xlsx_cells.specs.Words.{styled_meaning, styled_entries}
use Rattle.xlsx_open.specs.Words.{shared_said}
use Rattle.xlsx_core.specs.ShownSheet.{shown_value, shown_cells}
use Rattle.xlsx_core.proofs.StandingRanges.{area_meant}
use Rattle.xlsx_core.proofs.shown_table.shown_in_area.Goals as goal

pub in_area-requires-clause-inside : goal.in_area-requires-clause-inside
in_area-requires-clause-inside c =
    c.in_ok-own.ensures.places c.args.area ∙ c.in_ok-kept.ensures.inside

pub returns : goal.returns
returns c =
    let shared = shared_said c.args.shared.now in
    let is_1904 = c.args.is_1904 in
    let header = c.args.header_row in
    let area = c.args.area in
    let all = cells_gathered c.args.cells in
    record {
      cells = ap (map (with_meaning value_of_data)) c.in_area.ensures.cells
          ∙ c.in_ok-own.ensures.texts
          ∙ ap (shown_cells shared is_1904) (ap styled_entries c.in_ok-kept.ensures.last
          ∙ area_meant styled_meaning header area all)
          ∙ area_meant (shown_value shared is_1904) header area (styled_entries all);
      bounds = c.in_area.ensures.bounds;
      blank = ap value_of_data c.in_area.ensures.blank;
    }
