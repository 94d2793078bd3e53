-- Each formula stands once: in the order, on one cycle, or behind one.
use Rattle.std.proofs.Common.{◌≡◌, ◌∙◌, inl, inr, ℕ, ◌+◌, ◌<◌, ◌≤◌, ◌&&◌, ◌||◌, Bool, true, false}
use Rattle.std.proofs.Common.{List, ◌++◌, length, not, refl, arith, sym, ap, flat_map, ltb-false}
use Rattle.std.proofs.Common.{ltb-true}
use Rattle.std.specs.Prelude.{nat_lt, if◌then◌else◌}
use Rattle.std.specs.List.{list_any}
use Rattle.std.proofs.lemmas.Bool.{cases_Bool, false_from_ne_true}
use Rattle.calculation_order.specs.Edges.{cycles_of, is_number_of, numbers_below, order_of, reached}
use Rattle.calculation_order.specs.OrderLaws.{EachStandsOnce, all_of, are_within, behind_of}
use Rattle.calculation_order.specs.OrderLaws.{is_behind, is_on_cycle}
use Rattle.calculation_order.proofs.Counting.{times_append, times_below, times_dropped, times_in}
use Rattle.calculation_order.proofs.Counting.{times_kept, times_none}
use Rattle.calculation_order.proofs.Leaving.{others_have_cycles}
use Rattle.calculation_order.proofs.Members.{of_filter, of_below}
use Rattle.calculation_order.proofs.OnCycles.{cycles_below, times_on_none, times_on_one}
use Rattle.calculation_order.proofs.Ordered.{order_done, order_not_behind}
use Rattle.calculation_order.proofs.Settling.{one_if}

-- the formulas on cycles, cycle by cycle
abbrev members_of : List (List ℕ) → List ℕ
members_of edges = flat_map (λ c. c) (cycles_of edges)

times_in_all : (edges : List (List ℕ)) (n : ℕ)
    → times_in (all_of edges) n
    ≡ times_in (order_of edges) n
    + (times_in (members_of edges) n + times_in (behind_of edges) n)
times_in_all edges n =
    times_append (order_of edges) (members_of edges ++ behind_of edges) n
    ∙ ap (λ (k : ℕ). times_in (order_of edges) n + k)
    (times_append (members_of edges) (behind_of edges) n)

times_behind : (edges : List (List ℕ)) (n : ℕ) → n < length edges
    → times_in (behind_of edges) n ≡ one_if (is_behind edges n)
times_behind edges n below =
    elim (cases_Bool (is_behind edges n)) [
      | inl e ↦ times_kept (is_behind edges) (numbers_below (length edges)) n e
          ∙ times_below (length edges) n below ∙ sym (ap one_if e)
      | inr e ↦ times_dropped (is_behind edges) (numbers_below (length edges)) n e
          ∙ sym (ap one_if e)
    ]

-- one that needs no cycle isn't behind one
not_behind : (a b : Bool) → b ≡ false → (not a && b) ≡ false
not_behind true b none = refl
not_behind false b none = none

-- on a cycle or behind one, and not both
one_of_two : (a b : Bool) → (a || (not a && b)) ≡ true → one_if a + one_if (not a && b) ≡ 1
one_of_two true b some = refl
one_of_two false b some = let one : one_if b ≡ 1 = ap one_if some in omega arith

module _ (edges : List (List ℕ)) (within : are_within edges ≡ true) (n : ℕ) where
  times_on : n < length edges
      → times_in (members_of edges) n ≡ one_if (is_on_cycle edges n)
  times_on below =
      elim (cases_Bool (is_on_cycle edges n)) [
        | inl e ↦ times_on_one edges within n below e ∙ sym (ap one_if e)
        | inr e ↦ times_on_none edges within n e ∙ sym (ap one_if e)
      ]

  once_below : n < length edges → times_in (all_of edges) n ≡ 1
  once_below below =
      let on = times_on below in
      let behind = times_behind edges n below in
      elim (cases_Bool (is_number_of (order_of edges) n)) [
        | inl e ↦
            (let so = order_done edges in
            let own = so.once n e in
            let off : one_if (is_on_cycle edges n) ≡ 0 = ap one_if (so.no_cycle n e) in
            let before : one_if (is_behind edges n) ≡ 0 = ap one_if (not_behind
            (is_on_cycle edges n) (list_any (is_on_cycle edges) (reached edges n))
            (order_not_behind edges n e)) in
            omega (arith, times_in_all edges n, own, on, behind))
        | inr e ↦
            (let none = times_none (order_of edges) n e in
            let one = one_of_two (is_on_cycle edges n)
            (list_any (is_on_cycle edges) (reached edges n))
            (others_have_cycles edges within n below e) in
            omega (arith, times_in_all edges n, none, on, behind, one))
      ]

  none_past : length edges ≤ n → times_in (all_of edges) n ≡ 0
  none_past past =
      let so = order_done edges in
      let order = times_none (order_of edges) n (false_from_ne_true _ (λ is.
      let below = so.below n is in absurd (omega arith))) in
      let members = times_none (members_of edges) n (false_from_ne_true _ (λ is.
      let below = cycles_below edges n is in absurd (omega arith))) in
      let behind = times_none (behind_of edges) n (false_from_ne_true _ (λ is.
      let below = of_below (length edges) n
      (of_filter (is_behind edges) (numbers_below (length edges)) n is).0 in
      absurd (omega arith))) in
      omega (arith, times_in_all edges n, order, members, behind)

pub each_stands_once : (edges : List (List ℕ)) → are_within edges ≡ true → EachStandsOnce edges
each_stands_once edges within n =
    elim (cases_Bool (nat_lt n (length edges))) [
      | inl e ↦ once_below edges within n (ltb-true n (length edges) e)
          ∙ sym (ap (λ (b : Bool). if b then 1 else 0) e)
      | inr e ↦ none_past edges within n (ltb-false n (length edges) e)
          ∙ sym (ap (λ (b : Bool). if b then 1 else 0) e)
    ]
