use Rattle.std.proofs.Common.{◌≡◌, ◌<◌, ℕ, true, length}
use Rattle.std.specs.List.{list_all}
use Rattle.calculation_order.specs.Edges.{needs_of}
use Rattle.calculation_order.specs.Links.{may_lead_to}
use Rattle.calculation_order.proofs.links.Links.is_grouped.Given as goal

abbrev pub invariant-loop-vertex : goal.invariant-loop-vertex
invariant-loop-vertex l =
    (v : ℕ) → v < l.vertex
    → list_all (may_lead_to l.self.formulas (length l.self.links) v) (needs_of l.self.links
    v) ≡ true
