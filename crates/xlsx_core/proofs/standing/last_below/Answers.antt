use Rattle.std.proofs.Common.{◌∙◌, ap}
use Rattle.std.specs.List.{filter}
use Rattle.cell_refs.specs.Words.{is_in_area}
use Rattle.cell_data.specs.Words.{cells_gathered}
use Rattle.xlsx_core.specs.Worksheets.{area_below}
use Rattle.cell_data.specs.declared.value.HeaderRow.TheVariants.{Row}
use Rattle.xlsx_core.proofs.StandingRanges.{last_from, last_whole, kept_inside}
use Rattle.xlsx_core.proofs.standing.last_below.Goals as goal

pub returns-in_default-clause-last : goal.returns-in_default-clause-last
returns-in_default-clause-last g c = rw c.in_default.is c.in_ok-kept.ensures

pub returns-in_default-clause-inside : goal.returns-in_default-clause-inside
returns-in_default-clause-inside g c =
    rw c.in_default.is
    (last_whole (cells_gathered c.args.cells) _ c.requires c.in_ok-kept.ensures)

pub returns-clause-last : goal.returns-clause-last
returns-clause-last g c =
    rw c.in-Row.is
    (c.keep_area.ensures
    ∙ ap (filter (λ cell. is_in_area (area_below (Row c.in-Row.first)) cell.0)) c.in_ok-kept.ensures
    ∙ last_from c.in-Row.first (cells_gathered c.args.cells) c.requires)

pub returns-clause-inside : goal.returns-clause-inside
returns-clause-inside g c =
    rw c.in-Row.is (kept_inside c.in-Row.first _ _ c.keep_area.ensures)
