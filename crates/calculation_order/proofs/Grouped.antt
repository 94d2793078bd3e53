-- The formulas for which vertices stand, where groups lead on.
use Rattle.std.proofs.Common.{◌≡◌, ◌∙◌, ◌⊎◌, inl, inr, ℕ, zero, suc, ◌+◌, ◌<◌, ◌≤◌, ◌&&◌, ◌||◌}
use Rattle.std.proofs.Common.{true, List, [], ◌∷◌, ◌++◌, length, get_or, refl, sym, subst, arith}
use Rattle.std.proofs.Common.{flat_map}
use Rattle.std.specs.List.{list_all}
use Rattle.std.specs.Prelude.{nat_lt}
use Rattle.std.proofs.lemmas.Bool.{and_from, and_parts, cond-false, cond-true, cond_both}
use Rattle.std.proofs.lemmas.Bool.{false≢true, le-ltb, lt-ltb, ltb-true, or_cases}
use Rattle.calculation_order.specs.Edges.{is_number_of, needs_of}
use Rattle.calculation_order.specs.Links.{AreGrouped, Linked, may_lead_to, lead_on_from, leads_on}
use Rattle.calculation_order.specs.Links.{members, members_within}
use Rattle.calculation_order.proofs.Members.{all_at, all_from, in_cons, in_head, in_tail}
use Rattle.calculation_order.proofs.Members.{of_flat_map}

-- what a link leads to, where each vertex from a number on leads on
leads_at : (formulas most from : ℕ) (links : List (List ℕ))
    → lead_on_from formulas most from links ≡ true → (v w : ℕ)
    → is_number_of (get_or links v []) w ≡ true
    → (nat_lt w most && (nat_lt (v + from) formulas || leads_on formulas (v + from) w)) ≡ true
leads_at formulas most from [] leads v w is = absurd (false≢true is)
leads_at formulas most from (ws ∷ rest) leads zero w is =
    let goes = λ (to : ℕ). nat_lt to most && (nat_lt from formulas || leads_on formulas from to) in
    let first = all_at goes ws (and_parts (list_all goes ws)
    (lead_on_from formulas most (suc from) rest) leads).0 w is in
    let same : from ≡ 0 + from = omega arith in
    subst (λ (n : ℕ). (nat_lt w most && (nat_lt n formulas || leads_on formulas n w)) ≡ true) same
    first
leads_at formulas most from (ws ∷ rest) leads (suc v) w is =
    let goes = λ (to : ℕ). nat_lt to most && (nat_lt from formulas || leads_on formulas from to) in
    let later = leads_at formulas most (suc from) rest
    (and_parts (list_all goes ws) (lead_on_from formulas most (suc from) rest) leads).1 v w is in
    let same : v + suc from ≡ suc v + from = omega arith in
    subst (λ (n : ℕ). (nat_lt w most && (nat_lt n formulas || leads_on formulas n w)) ≡ true) same
    later

module _ (linked : Linked) (grouped : AreGrouped linked) where
  -- a link leads to a vertex, and from a group to a formula, or on
  pub link_to : (v w : ℕ) → is_number_of (needs_of linked.links v) w ≡ true
      → (w < length linked.links)
      × ((v < linked.formulas) ⊎ ((w < linked.formulas) ⊎ (v < w)))
  link_to v w is =
      let leads = leads_at linked.formulas (length linked.links) 0 linked.links grouped.lead_on v w
      is in
      let parts = and_parts (nat_lt w (length linked.links))
      (nat_lt (v + 0) linked.formulas || leads_on linked.formulas (v + 0) w) leads in (
        ltb-true w (length linked.links) parts.0,
        elim (or_cases (nat_lt (v + 0) linked.formulas) (leads_on linked.formulas (v + 0) w)
            parts.1) [
              | inl e ↦ inl (let below = ltb-true (v + 0) linked.formulas e in omega arith)
              | inr e ↦ inr (elim (or_cases (nat_lt w linked.formulas) (nat_lt (v + 0) w) e) [
                | inl formula ↦ inl (ltb-true w linked.formulas formula)
                | inr on ↦ inr (let behind = ltb-true (v + 0) w on in omega arith)
              ])
            ],
      )

-- ---- the test

from_each : (formulas most from : ℕ) (links : List (List ℕ))
    → ((v : ℕ) → v < length links
    → list_all (may_lead_to formulas most (v + from)) (get_or links v []) ≡ true)
    → lead_on_from formulas most from links ≡ true
from_each formulas most from [] each = refl
from_each formulas most from (ws ∷ rest) each =
    let same : 0 + from ≡ from = omega arith in
    and_from _ _
    (subst (λ (n : ℕ). list_all (may_lead_to formulas most n) ws ≡ true) same
    (each 0 (omega arith)))
    (from_each formulas most (suc from) rest (λ v vertex.
    let next : suc v + from ≡ v + suc from = omega arith in
    subst (λ (n : ℕ). list_all (may_lead_to formulas most n) (get_or rest v []) ≡ true) next
    (each (suc v) (omega arith))))

-- links are grouped where each vertex passes
pub grouped_from : (linked : Linked) → linked.formulas ≤ length linked.links
    → ((v : ℕ) → v < length linked.links
    → list_all (may_lead_to linked.formulas (length linked.links) v) (needs_of linked.links
    v) ≡ true)
    → AreGrouped linked
grouped_from linked formulas each = record {
  formulas = formulas;
  lead_on = from_each linked.formulas (length linked.links) 0 linked.links (λ v vertex.
      let same : v ≡ v + 0 = omega arith in
      subst (λ (n : ℕ). list_all (may_lead_to linked.formulas (length linked.links) n)
      (get_or linked.links v []) ≡ true) same (each v vertex));
}

-- and each passes where they are
pub passes_grouped : (linked : Linked) → AreGrouped linked → (v : ℕ)
    → list_all (may_lead_to linked.formulas (length linked.links) v) (needs_of linked.links
    v) ≡ true
passes_grouped linked grouped v =
    let goes = may_lead_to linked.formulas (length linked.links) in
    let same : v + 0 ≡ v = omega arith in
    all_from (goes v) (needs_of linked.links v) (λ w is.
    subst (λ (n : ℕ). goes n w ≡ true) same
    (leads_at linked.formulas (length linked.links) 0 linked.links grouped.lead_on v w is))

flat_map_same : (f g : ℕ → List ℕ) (ns : List ℕ)
    → ((n : ℕ) → is_number_of ns n ≡ true → f n ≡ g n) → flat_map f ns ≡ flat_map g ns
flat_map_same f g [] same = refl
flat_map_same f g (n ∷ ns) same =
    let rest = flat_map_same f g ns (λ m is. same m (in_tail n ns m is)) in
    λ i. same n (in_head n ns) i ++ rest i

within_formula : (linked : Linked) (turns v : ℕ) → 0 < turns → v < linked.formulas
    → members_within turns linked v ≡ v ∷ []
within_formula linked zero v some below = absurd (omega arith)
within_formula linked (suc turns) v some below =
    cond-true (nat_lt v linked.formulas) (v ∷ [])
    (flat_map (members_within turns linked) (needs_of linked.links v))
    (lt-ltb v linked.formulas below)

within_group : (linked : Linked) (turns v : ℕ) → linked.formulas ≤ v
    → members_within (suc turns) linked v
    ≡ flat_map (members_within turns linked) (needs_of linked.links v)
within_group linked turns v above =
    cond-false (nat_lt v linked.formulas) (v ∷ [])
    (flat_map (members_within turns linked) (needs_of linked.links v))
    (le-ltb v linked.formulas above)

below_within : (linked : Linked) (turns v n : ℕ)
    → is_number_of (members_within turns linked v) n ≡ true → n < linked.formulas
below_within linked zero v n = λ is. absurd (false≢true is)
below_within linked (suc turns) v n =
    cond_both (nat_lt v linked.formulas) (v ∷ [])
    (flat_map (members_within turns linked) (needs_of linked.links v))
    (λ (ms : List ℕ). is_number_of ms n ≡ true → n < linked.formulas)
    (λ formula is. elim (in_cons v [] n is) [
      | inl e ↦ (let below = ltb-true v linked.formulas formula in omega arith)
      | inr e ↦ absurd (false≢true e)
    ])
    (λ group is.
    let by = of_flat_map (members_within turns linked) (needs_of linked.links v) n is in
    below_within linked turns by.0 n by.2)

-- vertices stand for formulas
pub members_below : (linked : Linked) (v n : ℕ) → is_number_of (members linked v) n ≡ true
    → n < linked.formulas
unfolding members
members_below linked v n is = below_within linked (suc (length linked.links)) v n is

-- a formula stands for itself
pub members_formula : (linked : Linked) (v : ℕ) → v < linked.formulas
    → members linked v ≡ v ∷ []
unfolding members
members_formula linked v below =
    within_formula linked (suc (length linked.links)) v (omega arith) below

module _ (linked : Linked) (grouped : AreGrouped linked) where
  -- of turns there are enough for the groups behind one
  within_same : (a b v : ℕ) → linked.formulas ≤ v → v < length linked.links
      → length linked.links < v + a → length linked.links < v + b
      → members_within a linked v ≡ members_within b linked v
  within_same zero b v group vertex enough more = absurd (omega arith)
  within_same (suc a) zero v group vertex enough more = absurd (omega arith)
  within_same (suc a) (suc b) v group vertex enough more =
      within_group linked a v group
      ∙ flat_map_same (members_within a linked) (members_within b linked)
      (needs_of linked.links v) (λ w is. let to = link_to linked grouped v w is in elim to.1 [
        | inl e ↦ absurd (omega arith)
        | inr e ↦ elim e [
          | inl formula ↦ within_formula linked a w (omega arith) formula
              ∙ sym (within_formula linked b w (omega arith) formula)
          | inr on ↦ within_same a b w (omega arith) to.0 (omega arith) (omega arith)
        ]
      ])
      ∙ sym (within_group linked b v group)

  -- a group stands for those for which its links do
  pub members_group : (v : ℕ) → linked.formulas ≤ v → v < length linked.links
      → members linked v ≡ flat_map (members linked) (needs_of linked.links v)
  unfolding members
  members_group v group vertex =
      let len = length linked.links in
      within_group linked len v group
      ∙ flat_map_same (members_within len linked) (members_within (suc len) linked)
      (needs_of linked.links v) (λ w is. let to = link_to linked grouped v w is in elim to.1 [
        | inl e ↦ absurd (omega arith)
        | inr e ↦ elim e [
          | inl formula ↦ within_formula linked len w (omega arith) formula
              ∙ sym (within_formula linked (suc len) w (omega arith) formula)
          | inr on ↦ within_same len (suc len) w (omega arith) to.0 (omega arith) (omega arith)
        ]
      ])
