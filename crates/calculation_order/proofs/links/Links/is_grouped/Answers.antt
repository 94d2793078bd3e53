use Rattle.std.proofs.Common.{◌∙◌, refl, arith}
use Rattle.std.proofs.lemmas.Bool.{both_ways, false≢true}
use Rattle.calculation_order.proofs.Grouped.{grouped_from, passes_grouped}
use Rattle.calculation_order.proofs.links.Links.is_grouped.Goals as goal

pub returns-then-not-leads_on : goal.returns-then-not-leads_on
returns-then-not-leads_on c = (
  λ e. absurd (false≢true e),
  λ grouped. absurd (both_ways c.leads_on.result
      c.if-not-leads_on.true
      (c.leads_on.ensures ∙ passes_grouped c.args.self.now grouped c.loop-vertex.vertex)),
)

pub returns : goal.returns
returns c = (
  λ e. grouped_from c.args.self.now (omega arith)
      (λ v vertex. c.loop-vertex.invariant v (omega arith)),
  λ grouped. refl,
)
