-- What a formula needs, itself or through others: nothing else is needed by those.
use Rattle.std.proofs.Common.{◌≡◌, ◌∙◌, ◌⊎◌, inl, inr, ℕ, zero, suc, ◌<◌, Bool, true, List, []}
use Rattle.std.proofs.Common.{length, refl, sym, ap, subst, arith, flat_map, ltb-true}
use Rattle.std.specs.List.{list_all}
use Rattle.std.specs.Prelude.{nat_lt}
use Rattle.std.proofs.lemmas.Bool.{false≢true, cases_Bool, cases_lt}
use Rattle.std.proofs.lemmas.List.{get_or_past}
use Rattle.std.proofs.lemmas.List.Sums.{AllPass-from_list_all}
use Rattle.calculation_order.specs.Edges.{is_number_of, needs_of, reached, reached_within}
use Rattle.calculation_order.specs.Edges.{with_numbers}
use Rattle.calculation_order.specs.OrderLaws.{are_within}
use Rattle.calculation_order.proofs.Members.{all_at, fails_at, in_below, in_flat_map, of_flat_map}
use Rattle.calculation_order.proofs.Members.{in_with_numbers, new_with_numbers, of_with_numbers}
use Rattle.calculation_order.proofs.Members.{same_with_numbers}
use Rattle.calculation_order.proofs.Settling.{stepped, settles, size_below, size_bound, size_grows}

-- one step more
abbrev more_of : List (List ℕ) → List ℕ → List ℕ
more_of edges ns = with_numbers ns (flat_map (needs_of edges) ns)

reached_by_steps : (turns : ℕ) (edges : List (List ℕ)) (ns : List ℕ)
    → reached_within turns edges ns ≡ stepped (more_of edges) turns ns
unfolding reached_within
reached_by_steps zero edges ns = refl
reached_by_steps (suc turns) edges ns = reached_by_steps turns edges (more_of edges ns)

-- a formula needs formulas alone
pub within_at : (edges : List (List ℕ)) → are_within edges ≡ true → (n m : ℕ)
    → is_number_of (needs_of edges n) m ≡ true → m < length edges
within_at edges within n m is =
    elim (cases_lt n (length edges)) [
      | inl e ↦ ltb-true m (length edges) (all_at (λ k. nat_lt k (length edges)) (needs_of edges n)
          (AllPass-from_list_all (λ (ns : List ℕ). list_all (λ k. nat_lt k (length edges)) ns)
          edges within n [] e) m is)
      | inr e ↦ absurd (false≢true
          (subst (λ (ns : List ℕ). is_number_of ns m ≡ true) (get_or_past edges n [] e) is))
    ]

-- what is needed by those of a set is in it, and so is what is reached from it
pub stays_within : (edges : List (List ℕ)) (p : ℕ → Bool)
    → ((k m : ℕ) → p k ≡ true → is_number_of (needs_of edges k) m ≡ true → p m ≡ true)
    → (turns : ℕ) (ns : List ℕ) → ((n : ℕ) → is_number_of ns n ≡ true → p n ≡ true) → (n : ℕ)
    → is_number_of (reached_within turns edges ns) n ≡ true → p n ≡ true
unfolding reached_within
stays_within edges p closed zero ns each n is = each n is
stays_within edges p closed (suc turns) ns each n is =
    stays_within edges p closed turns (more_of edges ns)
    (λ m new. elim (of_with_numbers ns (flat_map (needs_of edges) ns) m new) [
      | inl old ↦ each m old
      | inr own ↦ (let by = of_flat_map (needs_of edges) ns m own in
          closed by.0 m (each by.0 by.1) by.2)
    ]) n is

-- what one reaches is in each set that has what it needs, and what those in it need
pub reached_within_set : (edges : List (List ℕ)) (p : ℕ → Bool)
    → ((k m : ℕ) → p k ≡ true → is_number_of (needs_of edges k) m ≡ true → p m ≡ true)
    → (n : ℕ) → ((m : ℕ) → is_number_of (needs_of edges n) m ≡ true → p m ≡ true) → (m : ℕ)
    → is_number_of (reached edges n) m ≡ true → p m ≡ true
unfolding reached
reached_within_set edges p closed n each =
    stays_within edges p closed (length edges) (needs_of edges n) each

kept_within : (edges : List (List ℕ)) (turns : ℕ) (ns : List ℕ) (n : ℕ)
    → is_number_of ns n ≡ true → is_number_of (reached_within turns edges ns) n ≡ true
unfolding reached_within
kept_within edges zero ns n is = is
kept_within edges (suc turns) ns n is =
    kept_within edges turns (more_of edges ns) n
    (in_with_numbers ns (flat_map (needs_of edges) ns) n is)

-- what a formula needs itself
pub reached_itself : (edges : List (List ℕ)) (n m : ℕ)
    → is_number_of (needs_of edges n) m ≡ true → is_number_of (reached edges n) m ≡ true
unfolding reached
reached_itself edges n m is = kept_within edges (length edges) (needs_of edges n) m is

module _ (edges : List (List ℕ)) (within : are_within edges ≡ true) where
  grows : (ns : List ℕ) → (more_of edges ns ≡ ns)
      ⊎ (size_below (length edges) ns < size_below (length edges) (more_of edges ns))
  grows ns =
      let new = flat_map (needs_of edges) ns in
      elim (cases_Bool (list_all (is_number_of ns) new)) [
        | inl e ↦ inl (same_with_numbers ns new (all_at (is_number_of ns) new e))
        | inr e ↦
            (let missing = fails_at (is_number_of ns) new e in
            let by = of_flat_map (needs_of edges) ns missing.0 missing.1 in
            let below : missing.0 < length edges = within_at edges within by.0 missing.0 by.2 in
            inr (size_grows (length edges) ns (more_of edges ns) (in_with_numbers ns new) missing.0
            (in_below (length edges) missing.0 below) missing.2
            (new_with_numbers ns new missing.0 missing.1)))
      ]

  settled : (n : ℕ) → more_of edges (reached edges n) ≡ reached edges n
  unfolding reached
  settled n =
      let steps = reached_by_steps (length edges) edges (needs_of edges n) in
      ap (more_of edges) steps
      ∙ settles (more_of edges) (size_below (length edges)) (length edges)
      (size_bound (length edges)) grows (length edges) (needs_of edges n) (omega arith)
      ∙ sym steps

  -- what is needed by those that are reached is reached
  pub reached_closed : (n k m : ℕ) → is_number_of (reached edges n) k ≡ true
      → is_number_of (needs_of edges k) m ≡ true → is_number_of (reached edges n) m ≡ true
  reached_closed n k m is needed =
      subst (λ (ns : List ℕ). is_number_of ns m ≡ true) (settled n)
      (new_with_numbers (reached edges n) (flat_map (needs_of edges) (reached edges n)) m
      (in_flat_map (needs_of edges) (reached edges n) k m is needed))

  -- what is reached by those that are reached is reached
  pub reached_through : (n k m : ℕ) → is_number_of (reached edges n) k ≡ true
      → is_number_of (reached edges k) m ≡ true → is_number_of (reached edges n) m ≡ true
  reached_through n k m is by =
      reached_within_set edges (is_number_of (reached edges n)) (reached_closed n) k
      (λ j needed. reached_closed n k j is needed) m by
