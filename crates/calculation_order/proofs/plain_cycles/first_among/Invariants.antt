use Rattle.std.proofs.Common.{◌≡◌, ◌-◌, filter}
use Rattle.std.specs.List.{range_with_len}
use Rattle.calculation_order.specs.Edges.{are_together, first_of}
use Rattle.calculation_order.specs.Components.{first_among}
use Rattle.calculation_order.proofs.plain_cycles.first_among.Given as goal

abbrev pub invariant-loop-formula : goal.invariant-loop-formula
invariant-loop-formula l = record {
  first : first_of (filter (are_together l.links.links l.vertex)
      (range_with_len l.formula (l.links.formulas - l.formula)))
      ≡ first_among l.links l.vertex;
}
