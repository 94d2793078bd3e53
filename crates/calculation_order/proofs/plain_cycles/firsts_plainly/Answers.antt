use Rattle.std.proofs.Common.{◌∙◌, ◌++◌, ◌∷◌, [], ap, List, Option, sym, ℕ}
use Rattle.calculation_order.specs.Components.{first_among}
use Rattle.calculation_order.proofs.Members.{map_below_more}
use Rattle.calculation_order.proofs.plain_cycles.firsts_plainly.Goals as goal

pub loop-formula-preserved : goal.loop-formula-preserved
loop-formula-preserved c = record {
  firsts = c.in_ok-push.ensures.items
      ∙ ap (λ (o : Option ℕ). c.loop-formula.firsts.items ++ o ∷ []) c.in_ok-first_among.ensures
      ∙ ap (λ (l : List (Option ℕ)). l ++ first_among c.args.links.now c.loop-formula.formula ∷ [])
      c.loop-formula.invariant.firsts
      ∙ sym (map_below_more (first_among c.args.links.now) c.loop-formula.formula);
}
