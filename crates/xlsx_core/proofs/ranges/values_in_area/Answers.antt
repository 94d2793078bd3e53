use Rattle.std.proofs.Common.{◌∙◌, ap, map, string_bytes}
use Rattle.cell_data.specs.Words.{value_of_data, value_of_data_ref, cells_gathered, with_meaning}
use Rattle.xlsx_values.specs.Words.{resolved}
use Rattle.xlsx_cells.specs.Words.{with_texts, value_entries}
use Rattle.xlsx_core.proofs.StandingRanges.{area_meant}
use Rattle.xlsx_core.proofs.ranges.values_in_area.Goals as goal

pub in_area-requires-clause-inside : goal.in_area-requires-clause-inside
in_area-requires-clause-inside c =
    c.in_ok-own.ensures.places c.args.area ∙ c.in_ok-kept.ensures.inside

pub returns : goal.returns
returns c =
    let header = c.args.header_row in
    let area = c.args.area in
    let strings = map string_bytes c.args.strings.now in
    let all = cells_gathered c.args.cells in
    record {
      cells = ap (map (with_meaning value_of_data)) c.in_area.ensures.cells
          ∙ c.in_ok-own.ensures.texts
          ∙ ap (with_texts strings) (ap value_entries c.in_ok-kept.ensures.last
          ∙ area_meant value_of_data_ref header area all)
          ∙ area_meant (resolved strings) header area (value_entries all);
      bounds = c.in_area.ensures.bounds;
      blank = ap value_of_data c.in_area.ensures.blank;
    }
