use Rattle.std.proofs.Common.{◌≤◌, length}
use Rattle.calculation_order.specs.Turns.{AreJoined, turn_at}
use Rattle.calculation_order.proofs.links.Links.join_groups.Given as goal

abbrev pub invariant-loop-vertex : goal.invariant-loop-vertex
invariant-loop-vertex l = record {
  joined : AreJoined l.waiting l.self (turn_at l.self.formulas l.fn.behind) l.behind l.vertex;
  within : l.vertex ≤ length l.self.links;
}

abbrev pub decreases-loop-vertex : goal.decreases-loop-vertex
decreases-loop-vertex l = l.vertex
