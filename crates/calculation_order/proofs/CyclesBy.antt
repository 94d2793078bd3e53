-- The cycles of edges, by the first formula on cycles with each.
use Rattle.std.proofs.Common.{◌≡◌, ◌∙◌, inl, inr, ℕ, ◌+◌, ◌<◌, ◌≤◌, Bool, true, false, List, []}
use Rattle.std.proofs.Common.{◌∷◌, length, refl, sym, ap, subst, arith, filter, map, cond, Option}
use Rattle.std.proofs.Common.{None, Some, is_some, suc, zero}
use Rattle.std.specs.List.{slice_index_or, range_with_len}
use Rattle.std.proofs.lemmas.Bool.{and_from, cases_Bool, cases_lt, eq-eqb, eqb-true, false≢true}
use Rattle.std.proofs.lemmas.Bool.{false_from_ne_true}
use Rattle.std.proofs.lemmas.List.{get_or_past, length-map}
use Rattle.std.proofs.lemmas.List.FromFn.{length-range_with_len, get_or-range_with_len}
use Rattle.calculation_order.specs.Components.{is_this_vertex}
use Rattle.calculation_order.specs.Cycles.{AreFirsts, cycle_by, cycles_by, has_first, heads_by}
use Rattle.calculation_order.specs.Edges.{are_together, cycle_of, cycles_of, first_of}
use Rattle.calculation_order.specs.Edges.{first_together, firsts_of, is_first_of, is_number_of}
use Rattle.calculation_order.specs.Edges.{numbers_below}
use Rattle.calculation_order.specs.OrderLaws.{are_within, is_on_cycle}
use Rattle.calculation_order.proofs.Members.{filter_same, in_below, in_filter, in_head, map_same}
use Rattle.calculation_order.proofs.Members.{of_below, of_filter, of_range, same_tests}
use Rattle.calculation_order.proofs.OnCycles.{back, on_cycle_with, same_cycle}
use Rattle.calculation_order.proofs.Reaching.{reached_within_set}

-- the one at a place of what is made of numbers
made_at : {X : Type 0} (f : ℕ → X) (ns : List ℕ) (n : ℕ) (d : X) (k : ℕ) → n < length ns
    → slice_index_or (map f ns) n d ≡ f (slice_index_or ns n k)
made_at f [] n d k within = absurd (omega arith)
made_at f (m ∷ ms) zero d k within = refl
made_at f (m ∷ ms) (suc n) d k within = made_at f ms n d k (omega arith)

first_test : (ns : List ℕ) (n : ℕ) → is_first_of ns n ≡ is_this_vertex (first_of ns) n
first_test [] n = refl
first_test (m ∷ ms) n = refl

-- one of a list that has a first one
first_in : (ns : List ℕ) (n : ℕ) → is_this_vertex (first_of ns) n ≡ true → is_number_of ns n ≡ true
first_in [] n is = absurd (false≢true is)
first_in (m ∷ ms) n is =
    subst (λ (k : ℕ). is_number_of (m ∷ ms) k ≡ true) (eqb-true m n is) (in_head m ms)

some_in : (ns : List ℕ) (n : ℕ) → is_number_of ns n ≡ true → is_some (first_of ns) ≡ true
some_in [] n is = absurd (false≢true is)
some_in (m ∷ ms) n is = refl

of_some : (ns : List ℕ) → is_some (first_of ns) ≡ true → (n : ℕ) × (is_number_of ns n ≡ true)
of_some [] is = absurd (false≢true is)
of_some (m ∷ ms) is = (m, in_head m ms)

some_same : (m n : ℕ) → Some m ≡ Some n → m ≡ n
some_same m n e = eqb-true m n (ap (λ (o : Option ℕ). is_this_vertex o n) e ∙ eq-eqb n n refl)

module _ (edges : List (List ℕ)) where
  pub first_at : (n : ℕ) → n < length edges
      → slice_index_or (firsts_of edges) n None ≡ first_together edges n
  first_at n below =
      let none : 0 + n ≡ n = omega arith in
      made_at (first_together edges) (numbers_below (length edges)) n None 0
      (let size = length-range_with_len 0 (length edges) in omega arith)
      ∙ ap (first_together edges) (get_or-range_with_len 0 (length edges) n 0 below ∙ none)

  pub first_past : (n : ℕ) → length edges ≤ n → slice_index_or (firsts_of edges) n None ≡ None
  first_past n past =
      get_or_past (firsts_of edges) n None
      (let size = length-map (numbers_below (length edges)) (first_together edges) in
      let count = length-range_with_len 0 (length edges) in omega arith)

  -- a number past the last formula is on no cycle
  off_past : (n : ℕ) → length edges ≤ n → is_on_cycle edges n ≡ false
  off_past n past =
      false_from_ne_true _ (λ is. false≢true
      (reached_within_set edges (λ m. false) (λ k m none by. none) n
      (λ m by. subst (λ (ns : List ℕ). is_number_of ns m ≡ true) (get_or_past edges n [] past) by)
      n is))

  module _ (within : are_within edges ≡ true) where
    on_by_first : (n : ℕ) → n < length edges
        → is_some (first_together edges n) ≡ is_on_cycle edges n
    on_by_first n below =
        same_tests _ _
        (λ some. let one = of_some (cycle_of edges n) some in
        on_cycle_with edges within one.0 n (back edges n one.0
        (of_filter (are_together edges n) (numbers_below (length edges)) one.0 one.1).1))
        (λ on. some_in (cycle_of edges n) n (in_filter (are_together edges n)
        (numbers_below (length edges)) n (in_below (length edges) n below) (and_from _ _ on on)))

    pub on_cycle_by : (n : ℕ)
        → is_some (slice_index_or (firsts_of edges) n None) ≡ is_on_cycle edges n
    on_cycle_by n =
        elim (cases_lt n (length edges)) [
          | inl below ↦ ap is_some (first_at n below) ∙ on_by_first n below
          | inr past ↦ ap is_some (first_past n past) ∙ sym (off_past n past)
        ]

    head_alike : (n : ℕ) → n < length edges
        → has_first (firsts_of edges) n n ≡ is_first_of (cycle_of edges n) n
    head_alike n below =
        ap (λ (o : Option ℕ). is_this_vertex o n) (first_at n below)
        ∙ sym (first_test (cycle_of edges n) n)

    -- those with a first formula are together with it
    with_first : (first n : ℕ) → n < length edges
        → is_this_vertex (first_together edges first) first ≡ true
        → has_first (firsts_of edges) first n ≡ are_together edges first n
    with_first first n below is =
        ap (λ (o : Option ℕ). is_this_vertex o first) (first_at n below)
        ∙ same_tests _ _
        (λ by. back edges n first (of_filter (are_together edges n) (numbers_below (length edges))
        first (first_in (cycle_of edges n) first by)).1)
        (λ by. subst (λ (ns : List ℕ). is_this_vertex (first_of ns) first ≡ true)
        (same_cycle edges within first n by) is)

    cycle_alike : (first : ℕ) → is_number_of (heads_by (firsts_of edges) (length edges)) first
        ≡ true → cycle_by (firsts_of edges) (length edges) first ≡ cycle_of edges first
    cycle_alike first is =
        let all = numbers_below (length edges) in
        let own = of_filter (λ n. has_first (firsts_of edges) n n) all first is in
        let head = subst (λ (o : Option ℕ). is_this_vertex o first ≡ true)
        (first_at first (of_below (length edges) first own.0)) own.1 in
        filter_same (has_first (firsts_of edges) first) (are_together edges first) all
        (λ n in_all. with_first first n (of_below (length edges) n in_all) head)

    pub cycles_alike : cycles_by (firsts_of edges) (length edges) ≡ cycles_of edges
    unfolding cycles_of
    cycles_alike =
        let all = numbers_below (length edges) in
        map_same (cycle_by (firsts_of edges) (length edges)) (cycle_of edges)
        (heads_by (firsts_of edges) (length edges)) cycle_alike
        ∙ ap (map (cycle_of edges)) (filter_same (λ n. has_first (firsts_of edges) n n)
        (λ n. is_first_of (cycle_of edges n) n) all
        (λ n is. head_alike n (of_below (length edges) n is)))

-- the first that passes is not behind one that does
first_least : (p : ℕ → Bool) (a len f n : ℕ)
    → first_of (filter p (range_with_len a len)) ≡ Some f
    → is_number_of (filter p (range_with_len a len)) n ≡ true → f ≤ n
first_least p a zero f n is by = absurd (false≢true by)
first_least p a (suc len) f n is by =
    elim (cases_Bool (p a)) [
      | inl e ↦
          (let whole : filter p (range_with_len a (suc len))
          ≡ a ∷ filter p (range_with_len (a + 1) len) =
          ap (λ (b : Bool). cond b (a ∷ filter p (range_with_len (a + 1) len))
          (filter p (range_with_len (a + 1) len))) e in
          let first : a ≡ f = some_same a f (sym (ap first_of whole) ∙ is) in
          let from = (of_range a (suc len) n (of_filter p (range_with_len a (suc len)) n by).0).0 in
          omega arith)
      | inr e ↦
          (let rest : filter p (range_with_len a (suc len))
          ≡ filter p (range_with_len (a + 1) len) =
          ap (λ (b : Bool). cond b (a ∷ filter p (range_with_len (a + 1) len))
          (filter p (range_with_len (a + 1) len))) e in
          first_least p (a + 1) len f n (sym (ap first_of rest) ∙ is)
          (subst (λ (ns : List ℕ). is_number_of ns n ≡ true) rest by))
    ]

module _ (edges : List (List ℕ)) (within : are_within edges ≡ true) where
  first_below : (n f : ℕ) → n < length edges → first_together edges n ≡ Some f
      → (f ≤ n) × (slice_index_or (firsts_of edges) f None ≡ Some f)
  first_below n f below is =
      let all = numbers_below (length edges) in
      let in_own = first_in (cycle_of edges n) f (ap (λ (o : Option ℕ). is_this_vertex o f) is
      ∙ eq-eqb f f refl) in
      let own = of_filter (are_together edges n) all f in_own in
      let on = on_cycle_with edges within f n (back edges n f own.1) in
      let self = in_filter (are_together edges n) all n (in_below (length edges) n below)
      (and_from _ _ on on) in (
        first_least (are_together edges n) 0 (length edges) f n is self,
        first_at edges f (of_below (length edges) f own.0)
            ∙ ap first_of (sym (same_cycle edges within n f own.1)) ∙ is,
      )

  pub are_firsts : AreFirsts (firsts_of edges)
  are_firsts n f is =
      elim (cases_lt n (length edges)) [
        | inl below ↦ first_below n f below (sym (first_at edges n below) ∙ is)
        | inr past ↦ absurd (false≢true (ap is_some (sym (first_past edges n past) ∙ is)))
      ]

  pub size_of_firsts : length (firsts_of edges) ≡ length edges
  size_of_firsts =
      length-map (numbers_below (length edges)) (first_together edges)
      ∙ length-range_with_len 0 (length edges)
