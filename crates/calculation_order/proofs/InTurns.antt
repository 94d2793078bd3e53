-- Turns in which formulas wait for one that they need are below the number of formulas for those
-- that depend on one that asks.
use Rattle.std.proofs.Common.{◌≡◌, ◌∙◌, ◌⊎◌, inl, inr, ℕ, zero, suc, ◌<◌, ◌≤◌, ◌&&◌, not, Bool}
use Rattle.std.proofs.Common.{true, false, List, [], ◌∷◌, length, filter, ap, arith, cond, ltb-true}
use Rattle.std.specs.List.{list_any}
use Rattle.std.specs.Prelude.{nat_lt}
use Rattle.std.proofs.lemmas.Bool.{and_from, and_parts, both_ways, cases_Bool, cases_lt, cond-false}
use Rattle.std.proofs.lemmas.Bool.{cond-true, false≢true, false_from_ne_true, le-ltb, lt-ltb}
use Rattle.std.proofs.lemmas.Bool.{ltb-false, not-true, not_from_false, or_cases, or_left, or_right}
use Rattle.std.proofs.lemmas.List.{get_or_past}
use Rattle.calculation_order.specs.Edges.{depends_on, dependents_of, is_number_of, needs_of}
use Rattle.calculation_order.specs.Edges.{numbers_below, reached}
use Rattle.calculation_order.specs.OrderLaws.{are_within}
use Rattle.calculation_order.specs.Turns.{AreTurns, joined_of, turn_at, turn_behind}
use Rattle.calculation_order.specs.declared.turns.Waiting.TheVariants.{ForAny}
use Rattle.calculation_order.proofs.InRounds.{filter_same}
use Rattle.calculation_order.proofs.Members.{any_at, any_from, in_below, in_cons, in_filter}
use Rattle.calculation_order.proofs.Members.{same_tests, in_head, in_tail, of_below, of_filter}
use Rattle.calculation_order.proofs.Reaching.{reached_itself, reached_through, reached_within_set}
use Rattle.calculation_order.proofs.Reaching.{within_at}
use Rattle.calculation_order.proofs.Settling.{size_below, size_bound, size_grows}
use Rattle.calculation_order.proofs.Standing.{after_below, at_after, length-turns_after}

-- the earliest is that of one of them
earliest_of : (most : ℕ) (turn : ℕ → ℕ) (ns : List ℕ) → joined_of ForAny most turn ns < most
    → (n : ℕ) × (is_number_of ns n ≡ true) × (turn n ≡ joined_of ForAny most turn ns)
earliest_of most turn [] early = absurd (omega arith)
earliest_of most turn (n ∷ ns) early =
    let rest = joined_of ForAny most turn ns in
    elim (cases_lt rest (turn n)) [
      | inl e ↦ (let found = earliest_of most turn ns (omega arith) in
          (found.0, in_tail n ns found.0 found.1, omega (arith, found.2)))
      | inr e ↦ (n, in_head n ns, omega arith)
    ]

-- and of none it is later
earliest_below : (most : ℕ) (turn : ℕ → ℕ) (ns : List ℕ) (n : ℕ) → is_number_of ns n ≡ true
    → joined_of ForAny most turn ns ≤ turn n
earliest_below most turn [] n is = absurd (false≢true is)
earliest_below most turn (m ∷ ms) n is =
    elim (in_cons m ms n is) [
      | inl e ↦ omega (arith, ap turn e)
      | inr e ↦ omega (arith, earliest_below most turn ms n e)
    ]

module _ (asks : ℕ → Bool) (edges : List (List ℕ)) (within : are_within edges ≡ true)
    (turns : List ℕ) (so : AreTurns ForAny asks edges turns) where
  turn : ℕ → ℕ
  turn n = turn_at (length edges) turns n

  turn_past : (n : ℕ) → length edges ≤ n → turn n ≡ length edges
  unfolding turn
  turn_past n past =
      get_or_past turns n (length edges)
      (omega (arith, ap length so, length-turns_after ForAny asks edges turns))

  abbrev behind : ℕ → ℕ
  behind n = turn_behind (length edges) (turn n)

  turn_is : (n : ℕ) → n < length edges → turn n
      ≡ cond (asks n) 0 (joined_of ForAny (length edges) behind (needs_of edges n))
  unfolding turn
  turn_is n below =
      ap (λ (l : List ℕ). turn_at (length edges) l n) so ∙ at_after ForAny asks edges turns n below

  turn_asked : (n : ℕ) → n < length edges → asks n ≡ true → turn n ≡ 0
  turn_asked n below is =
      turn_is n below
      ∙ cond-true (asks n) 0 (joined_of ForAny (length edges) behind (needs_of edges n)) is

  turn_needed : (n : ℕ) → n < length edges → asks n ≡ false
      → turn n ≡ joined_of ForAny (length edges) behind (needs_of edges n)
  turn_needed n below isnt =
      turn_is n below
      ∙ cond-false (asks n) 0 (joined_of ForAny (length edges) behind (needs_of edges n)) isnt

  no_later : (n : ℕ) → turn n ≤ length edges
  unfolding turn
  no_later n =
      elim (cases_lt n (length edges)) [
        | inl e ↦ omega (
          arith,
          ap (λ (l : List ℕ). turn_at (length edges) l n) so,
          at_after ForAny asks edges turns n e,
          after_below ForAny asks edges turns n,
        )
        | inr e ↦ omega (
          arith,
          get_or_past turns n (length edges)
              (omega (arith, ap length so, length-turns_after ForAny asks edges turns)),
        )
      ]

  found_below : (n : ℕ) → turn n < length edges → n < length edges
  found_below n found =
      elim (cases_lt n (length edges)) [
        | inl e ↦ e
        | inr e ↦ absurd (omega (arith, turn_past n e))
      ]

  -- what is found asks, or needs one that is found a turn before
  found_by : (n : ℕ) → turn n < length edges
      → (asks n ≡ true) ⊎ ((m : ℕ) × (is_number_of (needs_of edges n) m ≡ true)
      × (suc (turn m) ≡ turn n))
  found_by n found =
      elim (cases_Bool (asks n)) [
        | inl e ↦ inl e
        | inr e ↦
            (let is = turn_needed n (found_below n found) e in
            let by = earliest_of (length edges) behind (needs_of edges n) (omega (arith, is)) in
            inr (by.0, by.1, omega (arith, by.2, is)))
      ]

  -- ---- what is found depends on one that asks

  depends_by : (n m : ℕ) → is_number_of (needs_of edges n) m ≡ true
      → depends_on asks edges m ≡ true → depends_on asks edges n ≡ true
  depends_by n m needed depends =
      let is = reached_itself edges n m needed in
      or_right (asks n) (list_any asks (reached edges n))
      (elim (or_cases (asks m) (list_any asks (reached edges m)) depends) [
        | inl e ↦ any_at asks (reached edges n) m is e
        | inr e ↦
            (let found = any_from asks (reached edges m) e in
            any_at asks (reached edges n) found.0
            (reached_through edges within n m found.0 is found.1) found.2)
      ])

  found_depends : (most n : ℕ) → turn n < most → turn n < length edges
      → depends_on asks edges n ≡ true
  found_depends zero n early found = absurd (omega arith)
  found_depends (suc most) n early found =
      elim (found_by n found) [
        | inl e ↦ or_left (asks n) (list_any asks (reached edges n)) e
        | inr e ↦ depends_by n e.0 e.1
            (found_depends most e.0 (omega (arith, e.2)) (omega (arith, e.2)))
      ]

  -- ---- what depends on one that asks is found

  -- in each turn up to one in which a formula is found another is
  each_turn : (most n i : ℕ) → turn n < most → turn n < length edges → i ≤ turn n
      → (m : ℕ) × (turn m ≡ i)
  each_turn zero n i early found before = absurd (omega arith)
  each_turn (suc most) n i early found before =
      elim (cases_lt i (turn n)) [
        | inl less ↦ elim (found_by n found) [
          | inl e ↦ absurd (omega (arith, turn_asked n (found_below n found) e))
          | inr e ↦ each_turn most e.0 i (omega (arith, e.2)) (omega (arith, e.2))
              (omega (arith, e.2))
        ]
        | inr e ↦ (n, omega arith)
      ]

  abbrev found_before : ℕ → List ℕ
  found_before i = filter (λ n. nat_lt (turn n) i) (numbers_below (length edges))

  in_before : (i n : ℕ) → i ≤ length edges → turn n < i → is_number_of (found_before i) n ≡ true
  in_before i n below early =
      in_filter (λ m. nat_lt (turn m) i) (numbers_below (length edges)) n
      (in_below (length edges) n (found_below n (omega arith))) (lt-ltb (turn n) i early)

  not_before : (i n : ℕ) → i ≤ turn n → is_number_of (found_before i) n ≡ false
  not_before i n late =
      false_from_ne_true (is_number_of (found_before i) n) (λ is.
      both_ways (nat_lt (turn n) i) (le-ltb (turn n) i late)
      (of_filter (λ m. nat_lt (turn m) i) (numbers_below (length edges)) n is).1)

  -- if one is found in the last turn, at least one is found in each turn
  many_before : (last : ℕ) → suc (turn last) ≡ length edges → (i : ℕ) → i ≤ length edges
      → i ≤ size_below (length edges) (found_before i)
  many_before last is zero below = omega arith
  many_before last is (suc i) below =
      let one = each_turn (length edges) last i (omega arith) (omega arith) (omega arith) in
      let found : one.0 < length edges = found_below one.0 (omega (arith, one.1)) in
      let more = size_grows (length edges) (found_before i) (found_before (suc i))
      (λ n is. in_before (suc i) n below
      (let early = ltb-true (turn n) i
      (of_filter (λ m. nat_lt (turn m) i) (numbers_below (length edges)) n is).1 in omega arith))
      one.0 (in_below (length edges) one.0 found) (not_before i one.0 (omega (arith, one.1)))
      (in_before (suc i) one.0 below (omega (arith, one.1))) in
      omega (arith, many_before last is i (omega arith))

  -- so then all are found
  none_behind_last : (last n : ℕ) → suc (turn last) ≡ length edges → n < length edges
      → length edges ≤ turn n → ⊥
  none_behind_last last n is below late =
      let most = length edges in
      let all = found_before most in
      let more = size_grows most all (n ∷ all) (λ m own. in_tail n all m own) n
      (in_below most n below) (not_before most n late) (in_head n all) in
      absurd (omega (arith, many_before last is most (omega arith), size_bound most (n ∷ all)))

  -- a formula that is never found
  abbrev is_lost : ℕ → Bool
  is_lost n = nat_lt n (length edges) && not (nat_lt (turn n) (length edges))

  lost_parts : (n : ℕ) → is_lost n ≡ true → (n < length edges) × (length edges ≤ turn n)
  lost_parts n lost =
      let parts = and_parts (nat_lt n (length edges)) (not (nat_lt (turn n) (length edges)))
      lost in (
        ltb-true n (length edges) parts.0,
        ltb-false (turn n) (length edges) (not-true (nat_lt (turn n) (length edges)) parts.1),
      )

  lost_from : (n : ℕ) → n < length edges → length edges ≤ turn n → is_lost n ≡ true
  lost_from n below late =
      and_from (nat_lt n (length edges)) (not (nat_lt (turn n) (length edges)))
      (lt-ltb n (length edges) below)
      (not_from_false (nat_lt (turn n) (length edges)) (le-ltb (turn n) (length edges) late))

  lost_asks_not : (n : ℕ) → is_lost n ≡ true → asks n ≡ false
  lost_asks_not n lost =
      let parts = lost_parts n lost in
      false_from_ne_true (asks n) (λ is.
      absurd (omega (arith, turn_asked n parts.0 is, parts.0, parts.1)))

  -- one that is lost needs those alone that are lost
  lost_needs : (n m : ℕ) → is_lost n ≡ true → is_number_of (needs_of edges n) m ≡ true
      → is_lost m ≡ true
  lost_needs n m lost needed =
      let parts = lost_parts n lost in
      let below : m < length edges = within_at edges within n m needed in
      elim (cases_lt (turn m) (length edges)) [
        | inl e ↦
            (let is = turn_needed n parts.0 (lost_asks_not n lost) in
            let first = earliest_below (length edges) behind (needs_of edges n) m needed in
            absurd (none_behind_last m n (omega (arith, is, first, parts.1)) parts.0 parts.1))
        | inr e ↦ lost_from m below e
      ]

  depends_found : (n : ℕ) → n < length edges → depends_on asks edges n ≡ true
      → nat_lt (turn n) (length edges) ≡ true
  depends_found n below depends =
      elim (cases_lt (turn n) (length edges)) [
        | inl e ↦ lt-ltb (turn n) (length edges) e
        | inr e ↦
            (let lost = lost_from n below e in
            elim (or_cases (asks n) (list_any asks (reached edges n)) depends) [
              | inl is ↦ absurd (both_ways (asks n) (lost_asks_not n lost) is)
              | inr some ↦
                  (let found = any_from asks (reached edges n) some in
                  let also = reached_within_set edges is_lost lost_needs n
                  (λ m needed. lost_needs n m lost needed) found.0 found.1 in
                  absurd (both_ways (asks found.0) (lost_asks_not found.0 also) found.2))
            ])
      ]

  pub found_are_dependents :
      filter (λ n. nat_lt (turn_at (length turns) turns n) (length turns))
      (numbers_below (length turns))
      ≡ dependents_of asks edges
  unfolding turn
  found_are_dependents =
      let size : length turns ≡ length edges =
      ap length so ∙ length-turns_after ForAny asks edges turns in
      (λ j. filter (λ n. nat_lt (turn_at (size j) turns n) (size j)) (numbers_below (size j)))
      ∙ filter_same (λ n. nat_lt (turn n) (length edges)) (depends_on asks edges)
      (numbers_below (length edges)) (λ n is.
      same_tests (nat_lt (turn n) (length edges)) (depends_on asks edges n)
      (λ found. let early = ltb-true (turn n) (length edges) found in
      found_depends (suc (turn n)) n (omega arith) early)
      (depends_found n (of_below (length edges) n is)))
