use Rattle.std.proofs.Common.{◌≡◌, ◌∙◌, List, ℕ, filter, length, ap}
use Rattle.std.specs.Prelude.{nat_lt}
use Rattle.std.proofs.lemmas.Result.{IfOk-weaker}
use Rattle.calculation_order.specs.Edges.{dependents_of, numbers_below}
use Rattle.calculation_order.specs.Links.{told_edges}
use Rattle.calculation_order.specs.Turns.{asks_at, turn_at}
use Rattle.calculation_order.proofs.InTurns.{found_are_dependents}
use Rattle.calculation_order.proofs.SameNeeds.{dependents_same, linked_within, told_same}
use Rattle.calculation_order.proofs.SameNeeds.{told_within}
use Rattle.calculation_order.proofs.links.Links.dependents.Goals as goal

abbrev found_of : List ℕ → List ℕ
found_of turns =
    filter (λ n. nat_lt (turn_at (length turns) turns n) (length turns))
    (numbers_below (length turns))

pub returns : goal.returns
returns c edges so =
    let linked = c.args.self.now in
    let asks = asks_at c.args.asks.now in
    let turns = c.in_ok-turns.turns.items in
    IfOk-weaker c.found_numbers.result (λ numbers. numbers.items ≡ found_of c.deref.result.now)
    (λ numbers. numbers.items ≡ dependents_of asks edges)
    (λ numbers is. is
    ∙ ap found_of c.deref.ensures.value
    ∙ found_are_dependents asks (told_edges linked) (told_within linked) turns c.in_ok-turns.ensures
    ∙ dependents_same (told_edges linked) edges (told_within linked)
    (linked_within edges linked so) (told_same edges linked so) asks)
    c.found_numbers.ensures
