use Rattle.std.proofs.Common.{◌≡◌, ◌-◌, length}
use Rattle.calculation_order.specs.Edges.{needs_of, reached_within}
use Rattle.calculation_order.proofs.plain_cycles.reached.Given as goal

abbrev pub invariant-loop : goal.invariant-loop
invariant-loop l = record {
  numbers : reached_within (length l.links.links - l.counter) l.links.links l.numbers.items
      ≡ reached_within (length l.links.links) l.links.links
      (needs_of l.links.links l.vertex);
}
