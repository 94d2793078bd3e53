use Rattle.std.proofs.Common.{◌≡◌, map}
use Rattle.calculation_order.specs.Components.{first_among}
use Rattle.calculation_order.specs.Edges.{numbers_below}
use Rattle.calculation_order.proofs.plain_cycles.firsts_plainly.Given as goal

abbrev pub invariant-loop-formula : goal.invariant-loop-formula
invariant-loop-formula l = record {
  firsts : l.firsts.items ≡ map (first_among l.links) (numbers_below l.formula);
}
