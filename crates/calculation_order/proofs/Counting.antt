-- How often a number stands in a list: in a filter, in a range, in lists end to end.
use Rattle.std.proofs.Common.{◌≡◌, ◌∙◌, inl, inr, ℕ, zero, suc, ◌+◌, ◌<◌, ◌≤◌, ◌==◌, Bool, true}
use Rattle.std.proofs.Common.{false, List, [], ◌∷◌, ◌++◌, refl, sym, ap, arith, count_by, filter}
use Rattle.std.proofs.Common.{flat_map}
use Rattle.std.specs.List.{range_with_len}
use Rattle.std.proofs.lemmas.Bool.{both_ways, cases_Bool, cond_both, eqb-true, eqb-false}
use Rattle.std.proofs.lemmas.Bool.{false_from_ne_true, or_parts}
use Rattle.std.proofs.lemmas.List.Sums.{sum_by-append, sum_by-cons}
use Rattle.calculation_order.specs.Edges.{is_number_of, numbers_below}
use Rattle.calculation_order.proofs.Members.{in_head, in_tail, of_filter, of_range}
use Rattle.calculation_order.proofs.Settling.{one_if}

-- how often a number stands in a list
abbrev pub times_in : List ℕ → ℕ → ℕ
times_in ns n = count_by (λ m. m == n) ns

times_cons : (m : ℕ) (ms : List ℕ) (n : ℕ)
    → times_in (m ∷ ms) n ≡ one_if (m == n) + times_in ms n
times_cons m ms n = sum_by-cons (λ (k : ℕ). one_if (k == n)) m ms

pub times_append : (xs ys : List ℕ) (n : ℕ)
    → times_in (xs ++ ys) n ≡ times_in xs n + times_in ys n
times_append xs ys n = sum_by-append (λ (k : ℕ). one_if (k == n)) xs ys

pub times_none : (ns : List ℕ) (n : ℕ) → is_number_of ns n ≡ false → times_in ns n ≡ 0
times_none [] n none = refl
times_none (m ∷ ms) n none =
    let parts = or_parts (m == n) (is_number_of ms n) none in
    let own : one_if (m == n) ≡ 0 = ap one_if parts.0 in
    let others : times_in ms n ≡ 0 = times_none ms n parts.1 in
    omega (arith, times_cons m ms n)

-- ---- a filter

pub times_kept : (p : ℕ → Bool) (ns : List ℕ) (n : ℕ) → p n ≡ true
    → times_in (filter p ns) n ≡ times_in ns n
times_kept p [] n passes = refl
times_kept p (m ∷ ms) n passes =
    let others : times_in (filter p ms) n ≡ times_in ms n = times_kept p ms n passes in
    cond_both (p m) (m ∷ filter p ms) (filter p ms)
    (λ (l : List ℕ). times_in l n ≡ times_in (m ∷ ms) n)
    (λ e. omega (arith, times_cons m ms n, times_cons m (filter p ms) n))
    (λ e. let own : one_if (m == n) ≡ 0 = ap one_if (false_from_ne_true (m == n)
    (λ same. both_ways (p n) (ap p (sym (eqb-true m n same)) ∙ e) passes)) in
    omega (arith, times_cons m ms n))

pub times_dropped : (p : ℕ → Bool) (ns : List ℕ) (n : ℕ) → p n ≡ false
    → times_in (filter p ns) n ≡ 0
times_dropped p ns n fails =
    times_none (filter p ns) n
    (false_from_ne_true _ (λ is. both_ways (p n) fails (of_filter p ns n is).1))

-- ---- a range

times_in_range : (a len n : ℕ) → a ≤ n → n < a + len
    → times_in (range_with_len a len) n ≡ 1
times_in_range a zero n from below = absurd (omega arith)
times_in_range a (suc len) n from below =
    let later = range_with_len (a + 1) len in
    elim (cases_Bool (a == n)) [
      | inl e ↦
          (let same = eqb-true a n e in
          let own : one_if (a == n) ≡ 1 = ap one_if e in
          let others : times_in later n ≡ 0 = times_none later n (false_from_ne_true _ (λ is.
          let found = of_range (a + 1) len n is in absurd (omega arith))) in
          omega (arith, times_cons a later n))
      | inr e ↦
          (let other = eqb-false a n e in
          let own : one_if (a == n) ≡ 0 = ap one_if e in
          let others : times_in later n ≡ 1 =
          times_in_range (a + 1) len n (omega arith) (omega arith) in
          omega (arith, times_cons a later n))
    ]

pub times_below : (count n : ℕ) → n < count → times_in (numbers_below count) n ≡ 1
times_below count n below = times_in_range 0 count n (omega arith) (omega arith)

-- ---- lists end to end, of which one alone has the number, once

pub times_in_one : (f : ℕ → List ℕ) (ms : List ℕ) (n one : ℕ)
    → ((m : ℕ) → is_number_of ms m ≡ true → times_in (f m) n ≡ one_if (m == one))
    → times_in (flat_map f ms) n ≡ times_in ms one
times_in_one f [] n one each = refl
times_in_one f (m ∷ ms) n one each =
    let own : times_in (f m) n ≡ one_if (m == one) = each m (in_head m ms) in
    let others : times_in (flat_map f ms) n ≡ times_in ms one =
    times_in_one f ms n one (λ k is. each k (in_tail m ms k is)) in
    omega (arith, times_append (f m) (flat_map f ms) n, times_cons m ms one)
