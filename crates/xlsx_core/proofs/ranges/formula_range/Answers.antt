use Rattle.std.proofs.Common.{[], ◌∙◌, ap, string_bytes}
use Rattle.cell_data.specs.Words.{cells_gathered}
use Rattle.cell_data.specs.declared.value.HeaderRow.TheVariants.{FirstNonEmptyRow}
use Rattle.sorted_cells.specs.Words.{kept_cells}
use Rattle.xlsx_formulas.specs.Words.{text_of_formula}
use Rattle.xlsx_cells.specs.Words.{formula_entries}
use Rattle.xlsx_core.specs.Worksheets.{area_below}
use Rattle.xlsx_core.proofs.StandingRanges.{kept_below, last_meant, standing_range}
use Rattle.xlsx_core.proofs.ranges.formula_range.Goals as goal

pub range_of-requires : goal.range_of-requires
range_of-requires c =
    c.in_ok-own.ensures.places (area_below FirstNonEmptyRow) ∙ c.in_ok-kept.ensures.inside

pub returns : goal.returns
returns c =
    let all = cells_gathered c.args.cells in
    let own = kept_cells c.in_ok-own.own in
    standing_range string_bytes FirstNonEmptyRow (formula_entries all) own c.new.result []
    c.range_of.result c.range_of.ensures
    (kept_below FirstNonEmptyRow own (c.in_ok-own.ensures.places (area_below FirstNonEmptyRow)
    ∙ c.in_ok-kept.ensures.inside))
    (c.in_ok-own.ensures.texts ∙ ap formula_entries c.in_ok-kept.ensures.last
    ∙ last_meant text_of_formula FirstNonEmptyRow all)
    c.new.ensures.bytes
