use Rattle.std.proofs.Common.{◌≡◌, ◌∙◌, ap}
use Rattle.std.proofs.lemmas.Result.{IfOk-weaker}
use Rattle.calculation_order.specs.Edges.{order_of}
use Rattle.calculation_order.specs.Links.{told_edges}
use Rattle.calculation_order.specs.Turns.{by_turns}
use Rattle.calculation_order.proofs.InRounds.{order_by_turns}
use Rattle.calculation_order.proofs.SameNeeds.{order_same, told_same}
use Rattle.calculation_order.proofs.links.Links.order.Goals as goal

pub returns : goal.returns
returns c edges so =
    let linked = c.args.self.now in
    let turns = c.in_ok-turns.turns.items in
    IfOk-weaker c.by_turns.result (λ order. order.items ≡ by_turns c.deref.result.now)
    (λ order. order.items ≡ order_of edges)
    (λ order is. is
    ∙ ap by_turns c.deref.ensures.value
    ∙ order_by_turns (told_edges linked) turns c.in_ok-turns.ensures
    ∙ order_same (told_edges linked) edges (told_same edges linked so))
    c.by_turns.ensures
