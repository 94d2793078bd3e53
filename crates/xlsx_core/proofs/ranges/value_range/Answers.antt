use Rattle.std.proofs.Common.{◌≡◌, ◌∙◌, ap, map, refl, string_bytes}
use Rattle.cell_refs.specs.Words.{last_of_each}
use Rattle.cell_data.specs.Words.{nothing, value_of_data, value_of_data_ref, cells_gathered}
use Rattle.cell_data.specs.Words.{with_meaning}
use Rattle.cell_data.specs.declared.value.Data.TheVariants.{Empty}
use Rattle.sorted_cells.specs.Words.{kept_cells}
use Rattle.xlsx_values.specs.Words.{resolved}
use Rattle.xlsx_cells.specs.Words.{with_texts, value_entries}
use Rattle.xlsx_core.specs.Worksheets.{area_below, below_header}
use Rattle.xlsx_core.proofs.StandingRanges.{kept_below, last_meant, standing_range}
use Rattle.xlsx_core.proofs.ranges.value_range.Goals as goal

pub range_of-requires : goal.range_of-requires
range_of-requires c =
    c.in_ok-own.ensures.places (area_below c.args.header_row) ∙ c.in_ok-kept.ensures.inside

pub returns : goal.returns
returns c =
    let header = c.args.header_row in
    let strings = map string_bytes c.args.strings.now in
    let all = cells_gathered c.args.cells in
    let own = kept_cells c.in_ok-own.own in
    let last : map (with_meaning value_of_data) own
    ≡ last_of_each (below_header header (with_texts strings (value_entries all))) =
    c.in_ok-own.ensures.texts
    ∙ ap (with_texts strings) (ap value_entries c.in_ok-kept.ensures.last
    ∙ last_meant value_of_data_ref header all)
    ∙ last_meant (resolved strings) header (value_entries all) in
    standing_range value_of_data header (with_texts strings (value_entries all)) own Empty nothing
    c.range_of.result c.range_of.ensures
    (kept_below header own (c.in_ok-own.ensures.places (area_below header)
    ∙ c.in_ok-kept.ensures.inside))
    last refl
