use Rattle.std.proofs.Common.{◌≡◌}
use Rattle.calculation_order.specs.Links.{told_edges}
use Rattle.calculation_order.specs.Turns.{asks_at}
use Rattle.calculation_order.proofs.Standing.{turns_within}
use Rattle.calculation_order.proofs.links.Links.plain_turns.Given as goal

abbrev pub invariant-loop-time : goal.invariant-loop-time
invariant-loop-time l =
    l.turns.items ≡ turns_within l.waiting (asks_at l.asks) (told_edges l.self) l._time
