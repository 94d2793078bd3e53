-- Turns in which formulas wait for all that they need are the rounds of the order.
use Rattle.std.proofs.Common.{◌≡◌, ◌∙◌, inl, inr, ℕ, zero, suc, ◌+◌, ◌<◌, ◌≤◌, ◌==◌, ◌&&◌, ◌||◌}
use Rattle.std.proofs.Common.{not, Bool, true, false, List, [], ◌∷◌, ◌++◌, length, filter, refl}
use Rattle.std.proofs.Common.{sym, ap, arith, flat_map, cond, max}
use Rattle.std.specs.List.{list_all, range_with_len}
use Rattle.std.specs.Prelude.{nat_lt}
use Rattle.std.proofs.lemmas.Bool.{cases_Bool, cases_lt, eqb-true, false_from_ne_true, both_ways}
use Rattle.std.proofs.lemmas.Bool.{lt-ltb}
use Rattle.std.proofs.lemmas.Bool.Decides.{nat_tests}
use Rattle.std.proofs.lemmas.List.{get_or_past}
use Rattle.std.proofs.lemmas.List.Folds.{list_any-append}
use Rattle.calculation_order.specs.Edges.{is_number_of, is_ready, needs_of, numbers_below, order_of}
use Rattle.calculation_order.specs.Edges.{ready, rounds_within}
use Rattle.calculation_order.specs.Turns.{AreTurns, by_turns, joined_of, turn_at, turn_behind}
use Rattle.calculation_order.specs.declared.turns.Waiting.TheVariants.{ForAll}
use Rattle.calculation_order.proofs.Members.{in_below, in_filter, in_head, in_tail, of_below}
use Rattle.calculation_order.proofs.Members.{of_filter}
use Rattle.calculation_order.proofs.Standing.{at_after, length-turns_after}

-- filters that agree on what is there
pub filter_same : (p q : ℕ → Bool) (ns : List ℕ)
    → ((n : ℕ) → is_number_of ns n ≡ true → p n ≡ q n) → filter p ns ≡ filter q ns
filter_same p q [] same = refl
filter_same p q (n ∷ ns) same =
    let rest = filter_same p q ns (λ m is. same m (in_tail n ns m is)) in
    λ i. cond (same n (in_head n ns) i) (n ∷ rest i) (rest i)

all_agree : (p q : ℕ → Bool) (ns : List ℕ) → ((n : ℕ) → p n ≡ q n)
    → list_all p ns ≡ list_all q ns
all_agree p q [] same = refl
all_agree p q (n ∷ ns) same = λ i. same n i && all_agree p q ns same i

later_tests : (most i turn rest : ℕ) → i < most
    → nat_lt (max (turn_behind most turn) rest) (suc i) ≡ (nat_lt turn i && nat_lt rest (suc i))
later_tests most i turn rest below = grind (arith, nat_tests)

-- the latest is found by a turn, if all are found before it
before_all : (most i : ℕ) → i < most → (turn : ℕ → ℕ) (ns : List ℕ)
    → nat_lt (joined_of ForAll most (λ n. turn_behind most (turn n)) ns) (suc i)
    ≡ list_all (λ n. nat_lt (turn n) i) ns
before_all most i below turn [] = lt-ltb 0 (suc i) (omega arith)
before_all most i below turn (n ∷ ns) =
    later_tests most i (turn n) (joined_of ForAll most (λ m. turn_behind most (turn m)) ns) below
    ∙ ap (λ (rest : Bool). nat_lt (turn n) i && rest) (before_all most i below turn ns)

just_then : (turn i : ℕ) → (not (nat_lt turn i) && nat_lt turn (suc i)) ≡ (turn == i)
just_then turn i = grind (arith, nat_tests)

then_or_before : (turn i : ℕ) → (nat_lt turn i || (turn == i)) ≡ nat_lt turn (i + 1)
then_or_before turn i = grind (arith, nat_tests)

module _ (edges : List (List ℕ)) (turns : List ℕ)
    (so : AreTurns ForAll (λ n. false) edges turns) where
  turn : ℕ → ℕ
  turn n = turn_at (length edges) turns n

  turn_past : (n : ℕ) → length edges ≤ n → turn n ≡ length edges
  unfolding turn
  turn_past n past =
      get_or_past turns n (length edges)
      (omega (arith, ap length so, length-turns_after ForAll (λ m. false) edges turns))

  turn_is : (n : ℕ) → n < length edges → turn n
      ≡ joined_of ForAll (length edges) (λ m. turn_behind (length edges) (turn m))
      (needs_of edges n)
  unfolding turn
  turn_is n below =
      ap (λ (l : List ℕ). turn_at (length edges) l n) so
      ∙ at_after ForAll (λ m. false) edges turns n below

  -- those that are found before a turn are done
  abbrev DoneBefore : List ℕ → ℕ → Type 0
  DoneBefore done i = (n : ℕ) → is_number_of done n ≡ nat_lt (turn n) i

  abbrev those_of : ℕ → List ℕ
  those_of i = filter (λ n. turn n == i) (numbers_below (length edges))

  ready_turn : (done : List ℕ) (i : ℕ) → i < length edges → DoneBefore done i
      → ready edges done ≡ those_of i
  ready_turn done i below before =
      filter_same (is_ready edges done) (λ n. turn n == i) (numbers_below (length edges)) (λ n is.
      let within = of_below (length edges) n is in
      (λ j. not (before n j) && all_agree (is_number_of done) (λ m. nat_lt (turn m) i)
      (needs_of edges n) before j)
      ∙ ap (λ (all : Bool). not (nat_lt (turn n) i) && all)
      (sym (before_all (length edges) i below turn (needs_of edges n))
      ∙ ap (λ (k : ℕ). nat_lt k (suc i)) (sym (turn_is n within)))
      ∙ just_then (turn n) i)

  in_those : (i n : ℕ) → i < length edges → is_number_of (those_of i) n ≡ (turn n == i)
  in_those i n below =
      elim (cases_Bool (turn n == i)) [
        | inl e ↦
            (let same = eqb-true (turn n) i e in
            let within : n < length edges = elim (cases_lt n (length edges)) [
              | inl less ↦ less
              | inr past ↦ absurd (omega (arith, turn_past n past))
            ] in
            in_filter (λ m. turn m == i) (numbers_below (length edges)) n
            (in_below (length edges) n within) e ∙ sym e)
        | inr e ↦ false_from_ne_true (is_number_of (those_of i) n) (λ is.
            both_ways (turn n == i) e
            (of_filter (λ m. turn m == i) (numbers_below (length edges)) n is).1) ∙ sym e
      ]

  done_next : (done : List ℕ) (i : ℕ) → i < length edges → DoneBefore done i
      → DoneBefore (done ++ ready edges done) (i + 1)
  done_next done i below before n =
      ap (λ (l : List ℕ). is_number_of (done ++ l) n) (ready_turn done i below before)
      ∙ list_any-append (λ m. m == n) done (those_of i)
      ∙ (λ j. before n j || in_those i n below j)
      ∙ then_or_before (turn n) i

  rounds_are : (left i : ℕ) (done : List ℕ) → i + left ≡ length edges → DoneBefore done i
      → flat_map (λ (r : List ℕ). r) (rounds_within left edges done)
      ≡ flat_map those_of (range_with_len i left)
  unfolding rounds_within
  rounds_are zero i done all before = refl
  rounds_are (suc left) i done all before =
      let below : i < length edges = omega arith in
      let rest = rounds_are left (i + 1) (done ++ ready edges done) (omega arith)
      (done_next done i below before) in
      λ j. ready_turn done i below before j ++ rest j

  none_before : DoneBefore [] 0
  none_before n = grind (arith, nat_tests)

  pub order_by_turns : by_turns turns ≡ order_of edges
  unfolding order_of turn
  order_by_turns =
      let size : length turns ≡ length edges =
      ap length so ∙ length-turns_after ForAll (λ m. false) edges turns in
      (λ j. flat_map (λ k. filter (λ n. turn_at (size j) turns n == k) (numbers_below (size j)))
      (numbers_below (size j)))
      ∙ sym (rounds_are (length edges) 0 [] (omega arith) none_before)
