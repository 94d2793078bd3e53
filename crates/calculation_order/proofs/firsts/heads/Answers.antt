use Rattle.std.proofs.Common.{◌≡◌, ◌∙◌, ◌+◌, ◌-◌, ℕ, arith, subst, sym, slice_set, Some}
use Rattle.calculation_order.specs.Components.{HasHeads}
use Rattle.calculation_order.proofs.Certain.{root_at}
use Rattle.calculation_order.proofs.HeadsKept.{kept_heads, new_heads}
use Rattle.calculation_order.proofs.SameNeeds.{leads_within}
use Rattle.calculation_order.proofs.firsts.heads.Goals as goal

pub index_mut-requires : goal.index_mut-requires
index_mut-requires c =
    let within = c.requires.grouped.formulas in
    let root = root_at c.args.links.now.links (leads_within c.args.links.now c.requires.grouped)
    c.args.found.now c.requires.certain (c.loop-vertex.vertex - 1) (omega arith) in
    let size = c.loop-vertex.invariant.heads.size in
    omega arith

pub loop-vertex-preserved-then-leads_around : goal.loop-vertex-preserved-then-leads_around
loop-vertex-preserved-then-leads_around c =
    let vertex : c.loop-vertex.vertex ≡ (c.loop-vertex.vertex - 1) + 1 = omega arith in
    let within = c.requires.grouped.formulas in
    let root = root_at c.args.links.now.links (leads_within c.args.links.now c.requires.grouped)
    c.args.found.now c.requires.certain (c.loop-vertex.vertex - 1) (omega arith) in
    record {
      within = omega arith;
      heads = subst (λ (r : ℕ). HasHeads c.args.links.now c.args.found.now
          (c.loop-vertex.vertex - 1) (slice_set c.loop-vertex.heads.items r
          (Some (c.loop-vertex.vertex - 1)))) (sym c.rank.ensures)
          (new_heads c.args.links.now c.args.found.now (c.loop-vertex.vertex - 1)
          c.loop-vertex.heads.items (omega arith)
          (subst (λ (n : ℕ). HasHeads c.args.links.now c.args.found.now n
          c.loop-vertex.heads.items) vertex c.loop-vertex.invariant.heads)
          (sym c.leads_around.ensures ∙ c.if-leads_around.true) root);
    }

pub loop-vertex-preserved : goal.loop-vertex-preserved
loop-vertex-preserved c =
    let vertex : c.loop-vertex.vertex ≡ (c.loop-vertex.vertex - 1) + 1 = omega arith in
    record {
      within = omega arith;
      heads = kept_heads c.args.links.now c.args.found.now (c.loop-vertex.vertex - 1)
          c.loop-vertex.heads.items (omega arith)
          (subst (λ (n : ℕ). HasHeads c.args.links.now c.args.found.now n
          c.loop-vertex.heads.items) vertex c.loop-vertex.invariant.heads)
          (sym c.leads_around.ensures ∙ c.if-leads_around.false);
    }
