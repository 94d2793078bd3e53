use Rattle.std.proofs.Common.{◌∙◌, ap, map}
use Rattle.cell_data.specs.Words.{value_of_data_ref, cells_gathered, with_meaning}
use Rattle.xlsx_core.proofs.StandingRanges.{area_meant}
use Rattle.xlsx_core.proofs.ranges.places_in_area.Goals as goal

pub returns : goal.returns
returns c = record {
  cells = ap (map (with_meaning value_of_data_ref))
      (c.in_area.ensures.cells ∙ c.in_ok-kept.ensures.last)
      ∙ area_meant value_of_data_ref c.args.header_row c.args.area (cells_gathered c.args.cells);
  bounds = c.in_area.ensures.bounds;
  blank = ap value_of_data_ref c.in_area.ensures.blank;
}
