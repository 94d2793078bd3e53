use Rattle.std.proofs.Common.{rules, ◌≡◌, Some, None, ap, sym, ◌∙◌}
use Rattle.std.specs.FinMap.{find}
use Rattle.cell_refs.specs.Words.{position_cmp}
use Rattle.cell_data.specs.Words.{cells_of}
use Rattle.xlsx_check.specs.Evaluation.{number_in}
use Rattle.xlsx_check.proofs.Placing.{placed_some, placed_none}
use Rattle.xlsx_check.proofs.values.number_at.Goals as goal

pub returns-in-Some : goal.returns-in-Some
returns-in-Some c =
    let found : Some c.in-Some.value.now
    ≡ find position_cmp c.args.pos (cells_of c.args.values.now) =
    search rules in
    c.number_in.ensures
    ∙ ap number_in (sym (placed_some c.args.pos c.args.values.now c.in-Some.value.now found))

pub returns-in-None : goal.returns-in-None
returns-in-None c =
    let found : None ≡ find position_cmp c.args.pos (cells_of c.args.values.now) = search rules in
    c.zero.ensures ∙ ap number_in (sym (placed_none c.args.pos c.args.values.now found))
