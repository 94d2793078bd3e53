use Rattle.std.proofs.Common.{◌∙◌, ◌+◌, ◌-◌, ap, arith, Bool, cond, filter, Option, Some, sym, ℕ}
use Rattle.std.specs.List.{range_with_len}
use Rattle.calculation_order.specs.Edges.{are_together, first_of}
use Rattle.calculation_order.proofs.Members.{first_step}
use Rattle.calculation_order.proofs.plain_cycles.first_among.Goals as goal

pub loop-formula-preserved : goal.loop-formula-preserved
loop-formula-preserved c =
    let links = c.args.links.now in
    let start = c.loop-formula.formula in
    let rest : Option ℕ = first_of (filter (are_together links.links c.args.vertex)
    (range_with_len (start + 1) (links.formulas - (start + 1)))) in
    record {
      first = sym (first_step (are_together links.links c.args.vertex) start links.formulas
          (omega arith)
          ∙ ap (λ (b : Bool). cond b (Some start) rest)
          (sym c.in_ok-are_together.ensures ∙ c.if-branch.false))
          ∙ c.loop-formula.invariant.first;
    }

pub returns-then-branch : goal.returns-then-branch
returns-then-branch c =
    let links = c.args.links.now in
    let start = c.loop-formula.formula in
    let rest : Option ℕ = first_of (filter (are_together links.links c.args.vertex)
    (range_with_len (start + 1) (links.formulas - (start + 1)))) in
    sym (first_step (are_together links.links c.args.vertex) start links.formulas (omega arith)
    ∙ ap (λ (b : Bool). cond b (Some start) rest)
    (sym c.in_ok-are_together.ensures ∙ c.if-branch.true))
    ∙ c.loop-formula.invariant.first
