use Rattle.std.proofs.Common.{◌∙◌, ap, is_some, List, None, Option, ℕ}
use Rattle.std.specs.List.{slice_index_or}
use Rattle.calculation_order.proofs.CyclesBy.{on_cycle_by}
use Rattle.calculation_order.proofs.cycles.Cycles.is_on_cycle.Goals as goal

pub returns : goal.returns
returns c edges within same =
    c.is_some.ensures
    ∙ ap is_some (c.first.ensures
    ∙ ap (λ (l : List (Option ℕ)). slice_index_or l c.args.formula None) same)
    ∙ on_cycle_by edges within c.args.formula
