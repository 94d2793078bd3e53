-- What formulas reach by links they reach by the edges that the links tell, and no more.
use Rattle.std.proofs.Common.{◌≡◌, ◌∙◌, ◌⊎◌, inl, inr, ℕ, zero, suc, ◌<◌, ◌≤◌, Bool, true, List, []}
use Rattle.std.proofs.Common.{◌∷◌, length, sym, ap, subst, arith, flat_map}
use Rattle.std.specs.Prelude.{nat_lt, ◌&&◌}
use Rattle.std.specs.List.{list_all}
use Rattle.std.proofs.lemmas.Bool.{cases_lt, false≢true, cond_both}
use Rattle.std.proofs.lemmas.List.{get_or_past}
use Rattle.calculation_order.specs.Edges.{are_together, is_number_of, needs_of, reached}
use Rattle.calculation_order.specs.Links.{AreGrouped, AreLinked, Linked, linked_from, members}
use Rattle.calculation_order.specs.Links.{members_within}
use Rattle.calculation_order.proofs.Grouped.{members_formula, members_group}
use Rattle.calculation_order.proofs.SameNeeds.{leads_within, linked_within}
use Rattle.calculation_order.proofs.Members.{all_at, all_from, in_cons, in_flat_map, in_head}
use Rattle.calculation_order.proofs.Members.{of_flat_map, same_tests}
use Rattle.calculation_order.proofs.Reaching.{reached_closed, reached_itself, reached_through}
use Rattle.calculation_order.proofs.Reaching.{reached_within_set}

module _ (linked : Linked) (so : AreGrouped linked) where
  abbrev links : List (List ℕ)
  links = linked.links

  -- one that leads anywhere is a vertex
  vertex_of : (v w : ℕ) → is_number_of (needs_of links v) w ≡ true → v < length links
  vertex_of v w is =
      elim (cases_lt v (length links)) [
        | inl e ↦ e
        | inr e ↦ absurd (false≢true
            (subst (λ (ns : List ℕ). is_number_of ns w ≡ true) (get_or_past links v [] e) is))
      ]

  -- what a vertex stands for is itself or reached
  member_reached : (turns v m : ℕ) → is_number_of (members_within turns linked v) m ≡ true
      → (v ≡ m) ⊎ (is_number_of (reached links v) m ≡ true)
  member_reached zero v m is = absurd (false≢true is)
  member_reached (suc turns) v m is =
      cond_both (nat_lt v linked.formulas) (v ∷ [])
      (flat_map (members_within turns linked) (needs_of links v))
      (λ (ms : List ℕ). is_number_of ms m ≡ true
      → (v ≡ m) ⊎ (is_number_of (reached links v) m ≡ true))
      (λ formula own. elim (in_cons v [] m own) [
        | inl e ↦ inl e
        | inr none ↦ absurd (false≢true none)
      ])
      (λ group own. inr (
      let by = of_flat_map (members_within turns linked) (needs_of links v) m own in
      elim (member_reached turns by.0 m by.2) [
        | inl e ↦ reached_itself links v m
            (subst (λ (k : ℕ). is_number_of (needs_of links v) k ≡ true) e by.1)
        | inr e ↦ reached_through links (leads_within linked so) v by.0 m
            (reached_itself links v by.0 by.1) e
      ])) is

  -- what a group leads to stands for no other formulas
  member_through : (v w m : ℕ) → linked.formulas ≤ v
      → is_number_of (needs_of links v) w ≡ true → is_number_of (members linked w) m ≡ true
      → is_number_of (members linked v) m ≡ true
  member_through v w m group is own =
      subst (λ (ns : List ℕ). is_number_of ns m ≡ true)
      (sym (members_group linked so v group (vertex_of v w is)))
      (in_flat_map (members linked) (needs_of links v) w m is own)

  module _ (edges : List (List ℕ)) (same : AreLinked edges linked) where
    -- what the edges say is linked, of any number
    edge_linked : (n m : ℕ) → is_number_of (needs_of edges n) m ≡ true
        → (n < linked.formulas) × (is_number_of (linked_from linked n) m ≡ true)
    edge_linked n m is =
        elim (cases_lt n linked.formulas) [
          | inl below ↦ (below, sym (same.same n m below) ∙ is)
          | inr past ↦ absurd (false≢true (subst (λ (ns : List ℕ). is_number_of ns m ≡ true)
              (get_or_past edges n [] (let size = same.size in omega arith)) is))
        ]

    edge_reached : (n m : ℕ) → is_number_of (needs_of edges n) m ≡ true
        → is_number_of (reached links n) m ≡ true
    unfolding members
    edge_reached n m is =
        let found = edge_linked n m is in
        let by = of_flat_map (members linked) (needs_of links n) m found.1 in
        elim (member_reached (suc (length links)) by.0 m by.2) [
          | inl e ↦ reached_itself links n m
              (subst (λ (k : ℕ). is_number_of (needs_of links n) k ≡ true) e by.1)
          | inr e ↦ reached_through links (leads_within linked so) n by.0 m
              (reached_itself links n by.0 by.1) e
        ]

    -- what is reached by the edges is reached by the links
    by_links : (n m : ℕ) → is_number_of (reached edges n) m ≡ true
        → is_number_of (reached links n) m ≡ true
    by_links n m is =
        reached_within_set edges (is_number_of (reached links n))
        (λ k j there needed. reached_through links (leads_within linked so) n k j there
        (edge_reached k j needed)) n (edge_reached n) m is

    -- all formulas that a vertex stands for are reached by the edges
    abbrev are_reached : ℕ → ℕ → Bool
    are_reached n v = list_all (is_number_of (reached edges n)) (members linked v)

    -- what a formula leads to stands for what it needs
    needed_reached : (n k v : ℕ) → k < linked.formulas
        → ((j : ℕ) → is_number_of (needs_of edges k) j ≡ true
        → is_number_of (reached edges n) j ≡ true)
        → is_number_of (needs_of links k) v ≡ true → are_reached n v ≡ true
    needed_reached n k v below each is =
        all_from (is_number_of (reached edges n)) (members linked v) (λ j own.
        each j (same.same k j below
        ∙ in_flat_map (members linked) (needs_of links k) v j is own))

    -- a step from what is reached
    step_reached : (n k v : ℕ) → are_reached n k ≡ true
        → is_number_of (needs_of links k) v ≡ true → are_reached n v ≡ true
    step_reached n k v all is =
        elim (cases_lt k linked.formulas) [
          | inl own ↦ needed_reached n k v own
              (λ j by. reached_closed edges (linked_within edges linked same) n k j
              (all_at (is_number_of (reached edges n)) (members linked k) all k
              (subst (λ (ns : List ℕ). is_number_of ns k ≡ true)
              (sym (members_formula linked k own)) (in_head k []))) by) is
          | inr group ↦ all_from (is_number_of (reached edges n)) (members linked v) (λ j by.
              all_at (is_number_of (reached edges n)) (members linked k) all j
              (member_through k v j group is by))
        ]

    -- a formula that is reached by the links is reached by the edges
    by_edges : (n m : ℕ) → n < linked.formulas → m < linked.formulas
        → is_number_of (reached links n) m ≡ true → is_number_of (reached edges n) m ≡ true
    by_edges n m from to is =
        all_at (is_number_of (reached edges n)) (members linked m)
        (reached_within_set links (are_reached n) (step_reached n) n
        (λ v needed. needed_reached n n v from (reached_itself edges n) needed) m is) m
        (subst (λ (ns : List ℕ). is_number_of ns m ≡ true)
        (sym (members_formula linked m to)) (in_head m []))

    -- formulas reach the same ones by links and by edges
    pub same_reached : (n m : ℕ) → n < linked.formulas → m < linked.formulas
        → is_number_of (reached links n) m ≡ is_number_of (reached edges n) m
    same_reached n m from to =
        same_tests _ _ (by_edges n m from to) (by_links n m)

    pub same_together : (n m : ℕ) → n < linked.formulas → m < linked.formulas
        → are_together links n m ≡ are_together edges n m
    same_together n m from to =
        ap (λ (a : Bool). a && is_number_of (reached links m) n) (same_reached n m from to)
        ∙ ap (λ (b : Bool). is_number_of (reached edges n) m && b) (same_reached m n to from)
