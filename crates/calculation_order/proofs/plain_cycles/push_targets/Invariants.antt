use Rattle.std.proofs.Common.{◌≡◌, drop}
use Rattle.std.specs.List.{flat_map}
use Rattle.calculation_order.specs.Edges.{needs_of, with_numbers}
use Rattle.calculation_order.proofs.plain_cycles.push_targets.Given as goal

abbrev pub invariant-loop-vertex : goal.invariant-loop-vertex
invariant-loop-vertex l = record {
  numbers : with_numbers l.numbers.items
      (flat_map (needs_of l.links.links) (drop l.vertex-index l.vertex-items))
      ≡ with_numbers l.initial.numbers.items
      (flat_map (needs_of l.links.links) l.initial.numbers.items);
}
