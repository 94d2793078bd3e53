use Rattle.std.proofs.Common.{◌∙◌, ◌++◌, ◌∷◌, [], ap, List, Option, sym, ℕ}
use Rattle.calculation_order.specs.Components.{first_around}
use Rattle.calculation_order.proofs.Members.{map_below_more}
use Rattle.calculation_order.proofs.firsts.firsts_around.Goals as goal

pub loop-vertex-preserved : goal.loop-vertex-preserved
loop-vertex-preserved c =
    let links = c.args.links.now in
    let first : ℕ → Option ℕ = first_around links.links c.args.found.now links.formulas in
    let old : List (Option ℕ) = c.loop-vertex.firsts.items in
    record {
      firsts = c.in_ok-push.ensures.items
          ∙ ap (λ (o : Option ℕ). old ++ o ∷ []) c.first_around.ensures
          ∙ ap (λ (l : List (Option ℕ)). l ++ first c.loop-vertex.vertex ∷ [])
          c.loop-vertex.invariant.firsts
          ∙ sym (map_below_more first c.loop-vertex.vertex);
      heads = c.loop-vertex.invariant.heads;
    }
