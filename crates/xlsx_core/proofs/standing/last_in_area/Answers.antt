use Rattle.std.proofs.Common.{◌∙◌, ap, Some}
use Rattle.std.specs.List.{filter}
use Rattle.cell_refs.specs.Words.{is_in_area, lie_inside}
use Rattle.cell_data.proofs.Areas.{filter_all}
use Rattle.sorted_cells.specs.Words.{kept_cells}
use Rattle.xlsx_core.proofs.standing.last_in_area.Goals as goal

pub returns-clause-last : goal.returns-clause-last
returns-clause-last g c =
    c.keep_area.ensures
    ∙ ap (filter (λ cell. is_in_area c.args.area cell.0)) c.in_ok-kept.ensures.last

pub returns-clause-inside : goal.returns-clause-inside
returns-clause-inside g c =
    ap (lie_inside (Some c.args.area)) c.keep_area.ensures
    ∙ filter_all (is_in_area c.args.area) (kept_cells c.in_ok-kept.kept)
