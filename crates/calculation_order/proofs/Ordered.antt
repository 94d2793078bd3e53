-- The formulas in the order stand there once, and none of them is on a cycle or behind one.
use Rattle.std.proofs.Common.{◌≡◌, ◌∙◌, inl, inr, ℕ, zero, suc, ◌<◌, true, false, List, [], length}
use Rattle.std.proofs.Common.{subst, arith}
use Rattle.std.specs.List.{list_any}
use Rattle.std.proofs.lemmas.Bool.{both_ways, false_from_ne_true, false≢true}
use Rattle.calculation_order.specs.Edges.{is_number_of, is_ready, needs_of, numbers_below, order_of}
use Rattle.calculation_order.specs.Edges.{reached, ready}
use Rattle.calculation_order.specs.OrderLaws.{is_on_cycle}
use Rattle.calculation_order.proofs.Counting.{times_append, times_below, times_in, times_kept}
use Rattle.calculation_order.proofs.Counting.{times_none}
use Rattle.calculation_order.proofs.Members.{any_from, in_either, in_left, of_filter, of_below}
use Rattle.calculation_order.proofs.Reaching.{reached_within_set}
use Rattle.calculation_order.proofs.Rounds.{done_behind, done_by_steps, of_ready}
use Rattle.calculation_order.proofs.Settling.{stepped}

-- these are formulas, each once, on no cycle, and what they need is among them
pub record AreDone (edges : List (List ℕ)) (done : List ℕ) : Type 0 where
  pub below : (n : ℕ) → is_number_of done n ≡ true → n < length edges
  pub once : (n : ℕ) → is_number_of done n ≡ true → times_in done n ≡ 1
  pub needed : (n m : ℕ) → is_number_of done n ≡ true → is_number_of (needs_of edges n) m ≡ true
      → is_number_of done m ≡ true
  pub no_cycle : (n : ℕ) → is_number_of done n ≡ true → is_on_cycle edges n ≡ false

none_done : (edges : List (List ℕ)) → AreDone edges []
none_done edges = record {
  below = λ n is. absurd (false≢true is);
  once = λ n is. absurd (false≢true is);
  needed = λ n m is by. absurd (false≢true is);
  no_cycle = λ n is. absurd (false≢true is);
}

module _ (edges : List (List ℕ)) (done : List ℕ) (so : AreDone edges done) where
  round_below : (n : ℕ) → is_number_of (ready edges done) n ≡ true → n < length edges
  round_below n is =
      of_below (length edges) n (of_ready edges done n is).0

  -- one of the round wasn't done
  both_once : (n : ℕ) → is_number_of (done_behind edges done) n ≡ true
      → times_in (done_behind edges done) n ≡ 1
  both_once n is =
      let round = ready edges done in
      elim (in_either done round n is) [
        | inl old ↦
            (let own : times_in done n ≡ 1 = so.once n old in
            let none : times_in round n ≡ 0 = times_none round n (false_from_ne_true _ (λ new.
            both_ways _ (of_ready edges done n new).1 old)) in
            omega (arith, times_append done round n))
        | inr new ↦
            (let found = of_ready edges done n new in
            let passes = (of_filter (is_ready edges done) (numbers_below (length edges)) n new).1 in
            let none : times_in done n ≡ 0 = times_none done n found.1 in
            let within = round_below n new in
            let one : times_in round n ≡ 1 =
            times_kept (is_ready edges done) (numbers_below (length edges)) n passes
            ∙ times_below (length edges) n within in
            omega (arith, times_append done round n))
      ]

  -- one of the round needs what is done alone, and so not itself
  round_no_cycle : (n : ℕ) → is_number_of (ready edges done) n ≡ true
      → is_on_cycle edges n ≡ false
  round_no_cycle n is =
      let found = of_ready edges done n is in
      false_from_ne_true _ (λ on. both_ways _ found.1
      (reached_within_set edges (is_number_of done) so.needed n found.2 n on))

  round_done : AreDone edges (done_behind edges done)
  round_done = record {
    below = λ n is. elim (in_either done (ready edges done) n is)
        [ inl old ↦ so.below n old | inr new ↦ round_below n new ];
    once = both_once;
    needed = λ n m is by. in_left done (ready edges done) m
        (elim (in_either done (ready edges done) n is)
        [ inl old ↦ so.needed n m old by | inr new ↦ (of_ready edges done n new).2 m by ]);
    no_cycle = λ n is. elim (in_either done (ready edges done) n is)
        [ inl old ↦ so.no_cycle n old | inr new ↦ round_no_cycle n new ];
  }

rounds_done : (turns : ℕ) (edges : List (List ℕ)) (done : List ℕ) → AreDone edges done
    → AreDone edges (stepped (done_behind edges) turns done)
rounds_done zero edges done so = so
rounds_done (suc turns) edges done so =
    rounds_done turns edges (done_behind edges done) (round_done edges done so)

pub order_done : (edges : List (List ℕ)) → AreDone edges (order_of edges)
unfolding order_of
order_done edges =
    subst (AreDone edges) (done_by_steps (length edges) edges [])
    (rounds_done (length edges) edges [] (none_done edges))

-- none of the order needs one on a cycle
pub order_not_behind : (edges : List (List ℕ)) (n : ℕ) → is_number_of (order_of edges) n ≡ true
    → list_any (is_on_cycle edges) (reached edges n) ≡ false
order_not_behind edges n is =
    let so = order_done edges in
    false_from_ne_true _ (λ some.
    let found = any_from (is_on_cycle edges) (reached edges n) some in
    both_ways _ (so.no_cycle found.0 (reached_within_set edges (is_number_of (order_of edges))
    so.needed n (λ m needed. so.needed n m is needed) found.0 found.1)) found.2)
