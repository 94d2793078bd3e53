use Rattle.std.proofs.Common.{All, sym, ◌∙◌, subst}
use Rattle.list_lines.specs.Inside.{IsCellOfWorksheet}
use Rattle.xlsx_precedents.proofs.Standing.{dependents_stand}
use Rattle.xlsx_precedents.proofs.lines.push_dependents.Goals as goal

pub push_positions-appended-requires : goal.push_positions-appended-requires
push_positions-appended-requires c =
    subst (λ cells. All IsCellOfWorksheet cells)
    (sym (c.deref.ensures.value ∙ c.in_ok-found.ensures))
    (dependents_stand c.in_ok-index.index c.args.pos c.in_ok-index.ensures.sheet)
