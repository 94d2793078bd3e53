-- The cycles: a formula that needs itself is on one of them, once, and no other is on any.
use Rattle.std.proofs.Common.{◌≡◌, ◌∙◌, inl, inr, ℕ, ◌<◌, ◌==◌, true, false, List, [], ◌∷◌, length}
use Rattle.std.proofs.Common.{refl, subst, sym, ap, filter, flat_map}
use Rattle.std.proofs.lemmas.Bool.{and_from, and_parts, both_ways, cases_Bool, eqb-true, eq-eqb}
use Rattle.std.proofs.lemmas.Bool.{false_from_ne_true, false≢true}
use Rattle.std.proofs.lemmas.List.Elements.{filter_agree}
use Rattle.std.proofs.lemmas.List.Folds.{flat_map-map}
use Rattle.calculation_order.specs.Edges.{are_together, cycle_of, cycles_of, is_first_of}
use Rattle.calculation_order.specs.Edges.{is_number_of, numbers_below, reached}
use Rattle.calculation_order.specs.OrderLaws.{are_within, is_on_cycle}
use Rattle.calculation_order.proofs.Counting.{times_dropped, times_below, times_in, times_in_one}
use Rattle.calculation_order.proofs.Counting.{times_kept, times_none}
use Rattle.calculation_order.proofs.Members.{in_filter, in_head, in_below, of_filter, of_flat_map}
use Rattle.calculation_order.proofs.Members.{of_below, same_tests}
use Rattle.calculation_order.proofs.Reaching.{reached_through}
use Rattle.calculation_order.proofs.Settling.{one_if}

-- the first formulas of the cycles
abbrev firsts_of : List (List ℕ) → List ℕ
firsts_of edges =
    filter (λ n. is_first_of (cycle_of edges n) n) (numbers_below (length edges))

-- the members of the cycles, cycle by cycle
members_are : (edges : List (List ℕ))
    → flat_map (λ c. c) (cycles_of edges) ≡ flat_map (cycle_of edges) (firsts_of edges)
unfolding cycles_of
members_are edges = flat_map-map (λ (c : List ℕ). c) (cycle_of edges) (firsts_of edges)

first_is : (l : List ℕ) (f : ℕ) (ns : List ℕ) → l ≡ f ∷ ns → (m : ℕ)
    → is_first_of l m ≡ true → f ≡ m
first_is l f ns is m first =
    eqb-true f m (subst (λ (k : List ℕ). is_first_of k m ≡ true) is first)

reach_both : (edges : List (List ℕ)) (m n : ℕ) → are_together edges m n ≡ true
    → (is_number_of (reached edges m) n ≡ true) × (is_number_of (reached edges n) m ≡ true)
reach_both edges m n is =
    and_parts (is_number_of (reached edges m) n) (is_number_of (reached edges n) m) is

pub back : (edges : List (List ℕ)) (m n : ℕ) → are_together edges m n ≡ true
    → are_together edges n m ≡ true
back edges m n is =
    let both = reach_both edges m n is in and_from _ _ both.1 both.0

module _ (edges : List (List ℕ)) (within : are_within edges ≡ true) where
  through : (k m n : ℕ) → are_together edges k m ≡ true → are_together edges m n ≡ true
      → are_together edges k n ≡ true
  through k m n one other =
      let there = reach_both edges k m one in
      let on = reach_both edges m n other in
      and_from _ _ (reached_through edges within k m n there.0 on.0)
      (reached_through edges within n m k on.1 there.1)

  -- those that are together have one cycle
  pub same_cycle : (m n : ℕ) → are_together edges m n ≡ true → cycle_of edges m ≡ cycle_of edges n
  same_cycle m n is =
      filter_agree (are_together edges m) (are_together edges n) (λ k.
      same_tests (are_together edges m k) (are_together edges n k)
      (through n m k (back edges m n is)) (through m n k is)) (numbers_below (length edges))

  pub on_cycle_with : (m n : ℕ) → are_together edges m n ≡ true → is_on_cycle edges n ≡ true
  on_cycle_with m n is =
      let both = reach_both edges m n is in reached_through edges within n m n both.1 both.0

  pub times_on_none : (n : ℕ) → is_on_cycle edges n ≡ false
      → times_in (flat_map (λ c. c) (cycles_of edges)) n ≡ 0
  times_on_none n off =
      ap (λ (ns : List ℕ). times_in ns n) (members_are edges)
      ∙ times_none (flat_map (cycle_of edges) (firsts_of edges)) n (false_from_ne_true _ (λ is.
      let found = of_flat_map (cycle_of edges) (firsts_of edges) n is in
      let own = of_filter (are_together edges found.0) (numbers_below (length edges)) n found.2 in
      both_ways _ off (on_cycle_with found.0 n own.1)))

  module _ (n : ℕ) (below : n < length edges) where
    -- by the first of the cycle that the formula is on
    times_by : (f : ℕ) (ns : List ℕ) → cycle_of edges n ≡ f ∷ ns
        → times_in (flat_map (cycle_of edges) (firsts_of edges)) n ≡ 1
    times_by f ns is =
        let all = numbers_below (length edges) in
        let found = of_filter (are_together edges n) all f
        (subst (λ (l : List ℕ). is_number_of l f ≡ true) (sym is) (in_head f ns)) in
        let f_below = of_below (length edges) f found.0 in
        let with_it : are_together edges f n ≡ true = back edges n f found.1 in
        let first : is_first_of (cycle_of edges f) f ≡ true =
        subst (λ (l : List ℕ). is_first_of l f ≡ true) (sym (same_cycle f n with_it ∙ is))
        (eq-eqb f f refl) in
        times_in_one (cycle_of edges) (firsts_of edges) n f
        (λ m own. elim (cases_Bool (are_together edges m n)) [
          | inl e ↦
              times_kept (are_together edges m) all n e
              ∙ times_below (length edges) n below
              ∙ sym (ap one_if (eq-eqb m f (sym (first_is (cycle_of edges m) f ns
              (same_cycle m n e ∙ is) m
              (of_filter (λ k. is_first_of (cycle_of edges k) k) all m own).1))))
          | inr e ↦
              times_dropped (are_together edges m) all n e
              ∙ sym (ap one_if (false_from_ne_true (m == f) (λ same. both_ways _ e
              (subst (λ (k : ℕ). are_together edges k n ≡ true) (sym (eqb-true m f same))
              with_it))))
        ])
        ∙ times_kept (λ k. is_first_of (cycle_of edges k) k) all f first
        ∙ times_below (length edges) f f_below

    times_among : (l : List ℕ) → cycle_of edges n ≡ l → is_number_of l n ≡ true
        → times_in (flat_map (cycle_of edges) (firsts_of edges)) n ≡ 1
    times_among [] is on = absurd (false≢true on)
    times_among (f ∷ ns) is on = times_by f ns is

    pub times_on_one : is_on_cycle edges n ≡ true
        → times_in (flat_map (λ c. c) (cycles_of edges)) n ≡ 1
    times_on_one on =
        ap (λ (ns : List ℕ). times_in ns n) (members_are edges)
        ∙ times_among (cycle_of edges n) refl
        (in_filter (are_together edges n) (numbers_below (length edges)) n
        (in_below (length edges) n below) (and_from _ _ on on))

-- no number from the count on is on a cycle's list
pub cycles_below : (edges : List (List ℕ)) (n : ℕ)
    → is_number_of (flat_map (λ c. c) (cycles_of edges)) n ≡ true → n < length edges
cycles_below edges n is =
    let found = of_flat_map (cycle_of edges) (firsts_of edges) n
    (subst (λ (ns : List ℕ). is_number_of ns n ≡ true) (members_are edges) is) in
    of_below (length edges) n
    (of_filter (are_together edges found.0) (numbers_below (length edges)) n found.2).0
