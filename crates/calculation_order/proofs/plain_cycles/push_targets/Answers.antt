use Rattle.std.proofs.Common.{◌≡◌, ◌∙◌, ◌+◌, ap, arith, drop, flat_map, List, suc, get_or, sym, ℕ}
use Rattle.std.proofs.Common.{◌∷◌}
use Rattle.std.proofs.Math.Seq.{drop-cons}
use Rattle.calculation_order.specs.Edges.{needs_of, with_numbers}
use Rattle.calculation_order.proofs.Members.{with_both}
use Rattle.calculation_order.proofs.plain_cycles.push_targets.Goals as goal

pub loop-vertex-preserved : goal.loop-vertex-preserved
loop-vertex-preserved c =
    let links = c.args.links.now.links in
    let items = c.deref-vertex-items.result.now in
    let at = c.loop-vertex.vertex-index in
    let old : List ℕ = c.loop-vertex.numbers.items in
    let rest : List ℕ = flat_map (needs_of links) (drop (at + 1) items) in
    let next : suc at ≡ at + 1 = omega arith in
    let cut = drop-cons items at 0 (omega arith)
    ∙ ap (λ (n : ℕ). get_or items at 0 ∷ drop n items) next in
    record {
      numbers = ap (λ (ns : List ℕ). with_numbers ns rest) c.in_ok-push_numbers.ensures
          ∙ ap (λ (ns : List ℕ). with_numbers (with_numbers old ns) rest) c.of.ensures
          ∙ sym (with_both old (needs_of links (get_or items at 0)) rest)
          ∙ ap (λ (ns : List ℕ). with_numbers old (flat_map (needs_of links) ns)) (sym cut)
          ∙ c.loop-vertex.invariant.numbers;
    }
