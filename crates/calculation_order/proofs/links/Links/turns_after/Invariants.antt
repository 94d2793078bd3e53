use Rattle.std.proofs.Common.{◌≡◌, map}
use Rattle.calculation_order.specs.Edges.{numbers_below}
use Rattle.calculation_order.specs.Links.{told_edges}
use Rattle.calculation_order.specs.Turns.{asks_at, turn_after}
use Rattle.calculation_order.proofs.links.Links.turns_after.Given as goal

abbrev pub invariant-loop-number : goal.invariant-loop-number
invariant-loop-number l =
    l.after.items
    ≡ map (turn_after l.waiting (asks_at l.asks) (told_edges l.self) l.turns)
    (numbers_below l.number)
