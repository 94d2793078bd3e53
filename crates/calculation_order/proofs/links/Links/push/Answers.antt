use Rattle.std.proofs.Common.{◌≡◌, ◌∙◌, ℕ, List, [], ◌∷◌, ◌++◌, length, drop, true, sym, ap, subst}
use Rattle.std.proofs.Common.{arith}
use Rattle.std.proofs.lemmas.List.{length-append}
use Rattle.calculation_order.specs.KeptLinks.{cut_at, last_link_end, rise_within}
use Rattle.calculation_order.specs.Links.{with_link}
use Rattle.calculation_order.proofs.CutLinks.{begun_more, cut_kept, rise_more}
use Rattle.calculation_order.proofs.links.Links.push.Goals as goal

pub invariant_of-self-2 : goal.invariant_of-self-2
invariant_of-self-2 c =
    let old = c.self.inside.targets.items in
    subst (λ (ts : List ℕ). rise_within (length ts) 0 c.self.inside.ends.items ≡ true)
    (sym c.in_ok-push.ensures.items)
    (rise_more (length old) (length (old ++ c.args.vertex ∷ [])) 0 c.self.inside.ends.items
    (omega (arith, length-append old (c.args.vertex ∷ []))) c.self.invariant)

pub returns-clause-ok : goal.returns-clause-ok
returns-clause-ok c =
    let old = c.self.inside.targets.items in
    let more = c.args.vertex ∷ [] in
    let ends = c.self.inside.ends.items in
    let formulas = c.self.inside.formulas in
    ap (λ (ts : List ℕ). record {
      formulas = formulas;
      links = cut_at ts 0 ends;
      begun = drop (last_link_end 0 ends) ts;
    }) c.in_ok-push.ensures.items
    ∙ (λ i. record {
      formulas = formulas;
      links = cut_kept old more 0 ends c.self.invariant i;
      begun = begun_more old more 0 ends c.self.invariant i;
    })
    ∙ ap (λ linked. with_link linked c.args.vertex) c.self.view_is
