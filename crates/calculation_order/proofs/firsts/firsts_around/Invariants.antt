use Rattle.std.proofs.Common.{◌≡◌, map}
use Rattle.calculation_order.specs.Components.{first_around, HasHeads}
use Rattle.calculation_order.specs.Edges.{numbers_below}
use Rattle.calculation_order.proofs.firsts.firsts_around.Given as goal

abbrev pub invariant-loop-vertex : goal.invariant-loop-vertex
invariant-loop-vertex l = record {
  firsts : l.firsts.items ≡ map (first_around l.links.links l.found l.links.formulas)
      (numbers_below l.vertex);
  heads : HasHeads l.links l.found 0 l.heads.items;
}
