use Rattle.std.proofs.Common.{◌≤◌}
use Rattle.calculation_order.specs.Components.{HasHeads}
use Rattle.calculation_order.proofs.firsts.heads.Given as goal

abbrev pub invariant-loop-vertex : goal.invariant-loop-vertex
invariant-loop-vertex l = record {
  within : l.vertex ≤ l.links.formulas;
  heads : HasHeads l.links l.found l.vertex l.heads.items;
}

abbrev pub decreases-loop-vertex : goal.decreases-loop-vertex
decreases-loop-vertex l = l.vertex
