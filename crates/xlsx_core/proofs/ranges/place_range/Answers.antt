use Rattle.std.proofs.Common.{◌∙◌, ap, refl}
use Rattle.cell_data.specs.Words.{nothing, value_of_data_ref, cells_gathered}
use Rattle.cell_data.specs.declared.value.DataRef.TheVariants.{Empty}
use Rattle.sorted_cells.specs.Words.{kept_cells}
use Rattle.xlsx_cells.specs.Words.{value_entries}
use Rattle.xlsx_core.proofs.StandingRanges.{kept_below, last_meant, standing_range}
use Rattle.xlsx_core.proofs.ranges.place_range.Goals as goal

pub returns : goal.returns
returns c =
    let header = c.args.header_row in
    let all = cells_gathered c.args.cells in
    let kept = kept_cells c.in_ok-kept.kept in
    standing_range value_of_data_ref header (value_entries all) kept Empty nothing
    c.range_of.result c.range_of.ensures (kept_below header kept c.in_ok-kept.ensures.inside)
    (ap value_entries c.in_ok-kept.ensures.last ∙ last_meant value_of_data_ref header all) refl
