use Rattle.std.proofs.Common.{◌≡◌, ◌∙◌, ℕ, List, [], ◌∷◌, ◌++◌, length, drop, true, sym, ap, subst}
use Rattle.calculation_order.specs.KeptLinks.{cut_at, last_link_end, rise_within}
use Rattle.calculation_order.specs.Links.{with_closed}
use Rattle.calculation_order.proofs.CutLinks.{begun_closed, cut_closed, rise_closed}
use Rattle.calculation_order.proofs.links.Links.close.Goals as goal

ends_are : (c : goal.In_ok-push) → c.push.new.self.items
    ≡ c.self.inside.ends.items ++ length c.self.inside.targets.items ∷ []
ends_are c =
    c.in_ok-push.ensures.items
    ∙ ap (λ (n : ℕ). c.self.inside.ends.items ++ n ∷ [])
    (c.len.ensures ∙ c.self.inside.targets.ok.0)

pub invariant_of-self-2 : goal.invariant_of-self-2
invariant_of-self-2 c =
    let ts = c.self.inside.targets.items in
    subst (λ (ends : List ℕ). rise_within (length ts) 0 ends ≡ true) (sym (ends_are c))
    (rise_closed (length ts) 0 c.self.inside.ends.items c.self.invariant)

pub returns-clause-ok : goal.returns-clause-ok
returns-clause-ok c =
    let ts = c.self.inside.targets.items in
    let formulas = c.self.inside.formulas in
    ap (λ (ends : List ℕ). record {
      formulas = formulas;
      links = cut_at ts 0 ends;
      begun = drop (last_link_end 0 ends) ts;
    }) (ends_are c)
    ∙ (λ i. record {
      formulas = formulas;
      links = cut_closed ts 0 c.self.inside.ends.items i;
      begun = begun_closed ts 0 c.self.inside.ends.items i;
    })
    ∙ ap with_closed c.self.view_is
