use Rattle.std.proofs.Common.{◌≡◌, drop}
use Rattle.std.specs.List.{list_all}
use Rattle.calculation_order.specs.Links.{may_lead_to}
use Rattle.calculation_order.proofs.links.all_go_on.Given as goal

abbrev pub invariant-loop-target : goal.invariant-loop-target
invariant-loop-target l =
    list_all (may_lead_to l.formulas l.most l.vertex) (drop l.target-index l.targets)
    ≡ list_all (may_lead_to l.formulas l.most l.vertex) l.targets
