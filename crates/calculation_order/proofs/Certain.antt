-- Vertices of one component reach each other, and others don't.
use Rattle.std.proofs.Common.{◌≡◌, ◌∙◌, ◌⊎◌, inl, inr, ℕ, zero, suc, ◌<◌, ◌≤◌, ◌==◌, ◌&&◌, ◌||◌}
use Rattle.std.proofs.Common.{Bool, true, List, [], ◌∷◌, length, refl, sym, ap, subst, arith}
use Rattle.std.proofs.Common.{ltb-true, le-leb, leb-true}
use Rattle.std.specs.Prelude.{nat_le, slice_get}
use Rattle.std.specs.List.{list_any, slice_index_or}
use Rattle.std.proofs.lemmas.Bool.{and_from, and_parts, cases_lt, eq-eqb, eqb-true, false≢true}
use Rattle.std.proofs.lemmas.Bool.{or_cases, or_left, or_right}
use Rattle.std.proofs.lemmas.List.{get_or_past}
use Rattle.calculation_order.specs.Components.{FoundComponents, are_certain, falls, have_one_rank}
use Rattle.calculation_order.specs.Components.{is_certain, is_in_component, is_led_to, is_nearer}
use Rattle.calculation_order.specs.Components.{is_this_vertex, leads_around, mark_of, rank_of}
use Rattle.calculation_order.specs.Components.{root_of}
use Rattle.calculation_order.specs.Edges.{are_together, is_number_of, needs_of, numbers_below}
use Rattle.calculation_order.specs.Edges.{reached}
use Rattle.calculation_order.specs.OrderLaws.{are_within}
use Rattle.calculation_order.proofs.Members.{all_at, any_at, any_from, in_below, in_head, in_tail}
use Rattle.calculation_order.proofs.Members.{same_tests}
use Rattle.calculation_order.proofs.Reaching.{reached_closed, reached_itself, reached_through}
use Rattle.calculation_order.proofs.Reaching.{reached_within_set, within_at}

-- the one at a place is among them
at_place : (ns : List ℕ) (k v : ℕ) → is_this_vertex (slice_get ns k) v ≡ true
    → is_number_of ns v ≡ true
at_place [] k v is = absurd (false≢true is)
at_place (n ∷ ns) zero v is =
    subst (λ (m : ℕ). is_number_of (n ∷ ns) m ≡ true) (eqb-true n v is) (in_head n ns)
at_place (n ∷ ns) (suc k) v is = in_tail n ns v (at_place ns k v is)

module _ (links : List (List ℕ)) (within : are_within links ≡ true) (found : FoundComponents)
    (certain : are_certain links found ≡ true) where
  -- one vertex is another, or reaches it
  abbrev leads_to : ℕ → ℕ → Type 0
  leads_to v w = (v ≡ w) ⊎ (is_number_of (reached links v) w ≡ true)

  then_reached : (u v w : ℕ) → is_number_of (needs_of links u) v ≡ true → leads_to v w
      → is_number_of (reached links u) w ≡ true
  then_reached u v w is (inl e) =
      reached_itself links u w (subst (λ (k : ℕ). is_number_of (needs_of links u) k ≡ true) e is)
  then_reached u v w is (inr on) =
      reached_through links within u v w (reached_itself links u v is) on

  then_leads : (u v w : ℕ) → leads_to u v → leads_to v w → leads_to u w
  then_leads u v w (inl e) on = subst (λ (k : ℕ). leads_to k w) (sym e) on
  then_leads u v w (inr is) (inl e) =
      inr (subst (λ (k : ℕ). is_number_of (reached links u) k ≡ true) e is)
  then_leads u v w (inr is) (inr on) = inr (reached_through links within u v w is on)

  at_vertex : (v : ℕ) → v < length links → is_certain links found v ≡ true
  at_vertex v below =
      all_at (is_certain links found) (numbers_below (length links)) certain v
      (in_below (length links) v below)

  from_below : (v w : ℕ) → is_number_of (needs_of links v) w ≡ true → v < length links
  from_below v w is =
      elim (cases_lt v (length links)) [
        | inl e ↦ e
        | inr e ↦ absurd (false≢true
            (subst (λ (ns : List ℕ). is_number_of ns w ≡ true) (get_or_past links v [] e) is))
      ]

  -- numbers fall along a link
  step_falls : (v w : ℕ) → is_number_of (needs_of links v) w ≡ true
      → rank_of found w ≤ rank_of found v
  step_falls v w is =
      leb-true (rank_of found w) (rank_of found v)
      (all_at (λ w. nat_le (rank_of found w) (rank_of found v)) (needs_of links v)
      (and_parts (falls links found v) _ (at_vertex v (from_below v w is))).0 w is)

  reach_falls : (v w : ℕ) → is_number_of (reached links v) w ≡ true
      → rank_of found w ≤ rank_of found v
  reach_falls v w is =
      leb-true (rank_of found w) (rank_of found v)
      (reached_within_set links (λ m. nat_le (rank_of found m) (rank_of found v))
      (λ k m least by. le-leb _ _ (let less = leb-true _ _ least in
      let step = step_falls k m by in omega arith)) v
      (λ m by. le-leb _ _ (step_falls v m by)) w is)

  joined_at : (v : ℕ) → v < length links
      → (root_of found v ≡ v) ⊎ ((is_led_to links found v ≡ true)
      × (is_nearer found v (slice_get (needs_of links v) (mark_of found v).next) ≡ true))
  joined_at v below =
      elim (or_cases (root_of found v == v) _ (and_parts (is_in_component links found v) _
      (and_parts (falls links found v) _ (at_vertex v below)).1).0) [
        | inl e ↦ inl (eqb-true _ v e)
        | inr e ↦ inr (and_parts (is_led_to links found v) _ e)
      ]

  same_root : (u v : ℕ) → have_one_rank found v u ≡ true → root_of found u ≡ root_of found v
  same_root u v same =
      ap (λ (r : ℕ). slice_index_or found.roots r 0) (eqb-true _ _ same)

  -- the root leads to each vertex of its component
  from_root : (most v : ℕ) → (mark_of found v).depth < most → v < length links
      → leads_to (root_of found v) v
  from_root zero v less below = absurd (omega arith)
  from_root (suc most) v less below =
      elim (joined_at v below) [
        | inl e ↦ inl e
        | inr both ↦
            (let u = (mark_of found v).from in
            let parts =
            and_parts (is_this_vertex (slice_get (needs_of links u) (mark_of found v).by) v)
            _ both.0 in
            let others = and_parts (have_one_rank found v u) _ parts.1 in
            let by : is_number_of (needs_of links u) v ≡ true =
            at_place (needs_of links u) (mark_of found v).by v parts.0 in
            let deep : (mark_of found u).depth < (mark_of found v).depth =
            ltb-true _ _ others.1 in
            then_leads (root_of found v) u v
            (subst (λ (r : ℕ). leads_to r u) (same_root u v others.0)
            (from_root most u (omega arith) (from_below u v by)))
            (inr (reached_itself links u v by)))
      ]

  next_of : (v : ℕ) (ns : List ℕ) (k : ℕ) → is_nearer found v (slice_get ns k) ≡ true
      → (w : ℕ) × (is_number_of ns w ≡ true) × (have_one_rank found v w ≡ true)
      × ((mark_of found w).back < (mark_of found v).back)
  next_of v [] k is = absurd (false≢true is)
  next_of v (n ∷ ns) zero is =
      let parts = and_parts (have_one_rank found v n) _ is in
      (n, in_head n ns, parts.0, ltb-true _ _ parts.1)
  next_of v (n ∷ ns) (suc k) is =
      let rest = next_of v ns k is in
      (rest.0, in_tail n ns rest.0 rest.1, rest.2, rest.3)

  -- each vertex leads to the root of its component
  to_root : (most v : ℕ) → (mark_of found v).back < most → v < length links
      → leads_to v (root_of found v)
  to_root zero v less below = absurd (omega arith)
  to_root (suc most) v less below =
      elim (joined_at v below) [
        | inl e ↦ inl (sym e)
        | inr both ↦
            (let next = next_of v (needs_of links v) (mark_of found v).next both.1 in
            let w = next.0 in
            let same = next.2 in
            then_leads v w (root_of found v) (inr (reached_itself links v w next.1))
            (subst (λ (r : ℕ). leads_to w r) (same_root w v same)
            (to_root most w (let nearer = next.3 in omega arith)
            (within_at links within v w next.1))))
      ]

  -- vertices of one component lead to each other
  lead_on : (v w : ℕ) → v < length links → w < length links → rank_of found v ≡ rank_of found w
      → leads_to v w
  lead_on v w from to same =
      then_leads v (root_of found v) w
      (to_root (suc (mark_of found v).back) v (omega arith) from)
      (subst (λ (r : ℕ). leads_to r w)
      (sym (same_root v w (eq-eqb (rank_of found v) (rank_of found w) same)))
      (from_root (suc (mark_of found w).depth) w (omega arith) to))

  abbrev leads_by : ℕ → ℕ → Bool
  leads_by m k = k == m || is_number_of (reached links k) m

  -- a link, and then others
  step_on : (v k m : ℕ) → list_any (leads_by k) (needs_of links v) ≡ true
      → is_number_of (needs_of links k) m ≡ true
      → list_any (leads_by m) (needs_of links v) ≡ true
  step_on v k m some by =
      let one = any_from (leads_by k) (needs_of links v) some in
      any_at (leads_by m) (needs_of links v) one.0 one.1
      (or_right _ _ (elim (or_cases (one.0 == k) _ one.2) [
        | inl e ↦ reached_itself links one.0 m
            (subst (λ (j : ℕ). is_number_of (needs_of links j) m ≡ true)
            (sym (eqb-true one.0 k e)) by)
        | inr e ↦ reached_closed links within one.0 k m e by
      ]))

  -- the first link on the way to one that is reached
  first_link : (v w : ℕ) → is_number_of (reached links v) w ≡ true
      → (k : ℕ) × (is_number_of (needs_of links v) k ≡ true) × leads_to k w
  first_link v w is =
      let some = reached_within_set links (λ m. list_any (leads_by m) (needs_of links v))
      (step_on v) v (λ m by. any_at (leads_by m) (needs_of links v) m by
      (or_left _ _ (eq-eqb m m refl))) w is in
      let one = any_from (leads_by w) (needs_of links v) some in (
        one.0,
        one.1,
        elim (or_cases (one.0 == w) _ one.2) [
          | inl e ↦ inl (eqb-true one.0 w e)
          | inr e ↦ inr e
        ],
      )

  leads_falls : (v w : ℕ) → leads_to v w → rank_of found w ≤ rank_of found v
  leads_falls v w (inl e) =
      subst (λ (k : ℕ). rank_of found k ≤ rank_of found v) e (omega arith)
  leads_falls v w (inr is) = reach_falls v w is

  -- one that reaches another with its number leads to one of that number
  around : (v w : ℕ) → is_number_of (reached links v) w ≡ true
      → rank_of found w ≡ rank_of found v → leads_around links found v ≡ true
  around v w is same =
      let first = first_link v w is in
      let k = first.0 in
      let falls : rank_of found k ≤ rank_of found v = step_falls v k first.1 in
      let on : rank_of found w ≤ rank_of found k = leads_falls k w first.2 in
      any_at (have_one_rank found v) (needs_of links v) k first.1
      (eq-eqb (rank_of found k) (rank_of found v) (omega arith))

  by_rank : (v w : ℕ) → are_together links v w ≡ true
      → (have_one_rank found v w && leads_around links found v) ≡ true
  by_rank v w is =
      let both = and_parts (is_number_of (reached links v) w) _ is in
      let one : rank_of found w ≤ rank_of found v = reach_falls v w both.0 in
      let other : rank_of found v ≤ rank_of found w = reach_falls w v both.1 in
      let same : rank_of found w ≡ rank_of found v = omega arith in
      and_from _ _ (eq-eqb _ _ same) (around v w both.0 same)

  -- one that leads around reaches each of its number
  reaches : (v w : ℕ) → v < length links → w < length links
      → rank_of found w ≡ rank_of found v → leads_around links found v ≡ true
      → is_number_of (reached links v) w ≡ true
  reaches v w from to same some =
      let one = any_from (have_one_rank found v) (needs_of links v) some in
      let k = one.0 in
      then_reached v k w one.1 (lead_on k w (within_at links within v k one.1) to
      (eqb-true (rank_of found k) (rank_of found v) one.2 ∙ sym same))

  by_both : (v w : ℕ) → v < length links → w < length links
      → (have_one_rank found v w && leads_around links found v) ≡ true
      → are_together links v w ≡ true
  by_both v w from to is =
      let both = and_parts (have_one_rank found v w) _ is in
      let same = eqb-true (rank_of found w) (rank_of found v) both.0 in
      let there = reaches v w from to same both.1 in
      and_from _ _ there (elim (lead_on w v to from same) [
        | inl e ↦ subst (λ (k : ℕ). is_number_of (reached links k) v ≡ true) (sym e)
            (reaches v v from from refl both.1)
        | inr e ↦ e
      ])

  -- two vertices reach each other exactly where they have one number, and one leads around
  pub together_by_rank : (v w : ℕ) → v < length links → w < length links
      → are_together links v w ≡ (have_one_rank found v w && leads_around links found v)
  together_by_rank v w from to =
      same_tests _ _ (by_rank v w) (by_both v w from to)

  pub root_at : (v : ℕ) → v < length links → rank_of found v < length found.roots
  root_at v below =
      ltb-true _ _ (and_parts (is_in_component links found v) _
      (and_parts (falls links found v) _ (at_vertex v below)).1).1

  -- those of one component lead around, or none does
  pub around_alike : (v w : ℕ) → v < length links → w < length links
      → rank_of found w ≡ rank_of found v → leads_around links found v ≡ true
      → leads_around links found w ≡ true
  around_alike v w from to same some =
      around w v (elim (lead_on w v to from same) [
        | inl e ↦ subst (λ (k : ℕ). is_number_of (reached links k) v ≡ true) (sym e)
            (reaches v v from from refl some)
        | inr e ↦ e
      ]) (sym same)
