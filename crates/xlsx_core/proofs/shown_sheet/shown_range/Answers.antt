use Rattle.std.proofs.Common.{◌≡◌, ◌∙◌, ap, map, refl}
use Rattle.cell_refs.specs.Words.{last_of_each}
use Rattle.cell_data.specs.Words.{nothing, value_of_data, cells_gathered, with_meaning}
use Rattle.cell_data.specs.declared.value.Data.TheVariants.{Empty}
use Rattle.cell_data.specs.declared.value.HeaderRow.TheVariants.{FirstNonEmptyRow}
use Rattle.sorted_cells.specs.Words.{kept_cells}
use Rattle.xlsx_cells.specs.Words.{styled_meaning, styled_entries}
use Rattle.xlsx_open.specs.Words.{shared_said}
use Rattle.xlsx_core.specs.ShownSheet.{shown_value, shown_cells}
use Rattle.xlsx_core.specs.Worksheets.{area_below, below_header}
use Rattle.xlsx_core.proofs.StandingRanges.{kept_below, last_meant, standing_range}
use Rattle.xlsx_core.proofs.shown_sheet.shown_range.Goals as goal

pub range_of-requires : goal.range_of-requires
range_of-requires c =
    c.in_ok-own.ensures.places (area_below FirstNonEmptyRow) ∙ c.in_ok-kept.ensures.inside

pub returns : goal.returns
returns c =
    let shared = shared_said c.args.shared.now in
    let is_1904 = c.args.is_1904 in
    let header = FirstNonEmptyRow in
    let all = cells_gathered c.args.cells in
    let own = kept_cells c.in_ok-own.own in
    let last : map (with_meaning value_of_data) own
    ≡ last_of_each (below_header header (shown_cells shared is_1904 (styled_entries all))) =
    c.in_ok-own.ensures.texts
    ∙ ap (shown_cells shared is_1904) (ap styled_entries c.in_ok-kept.ensures.last
    ∙ last_meant styled_meaning header all)
    ∙ last_meant (shown_value shared is_1904) header (styled_entries all) in
    standing_range value_of_data header (shown_cells shared is_1904 (styled_entries all)) own Empty
    nothing c.range_of.result c.range_of.ensures
    (kept_below header own (c.in_ok-own.ensures.places (area_below header)
    ∙ c.in_ok-kept.ensures.inside))
    last refl
