use Rattle.std.proofs.Common.{map}
use Rattle.calculation_order.specs.Cycles.{AreFirsts, AreCyclesKept}
use Rattle.calculation_order.proofs.cycles.Cycles.lists.Given as goal

abbrev pub invariant-loop-formula : goal.invariant-loop-formula
invariant-loop-formula l = record {
  kept : AreFirsts l.self → AreCyclesKept l.self l.formula (map (λ list. list.items) l.lists.items)
      l.places.items;
}
