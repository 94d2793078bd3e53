-- Turns that are found anew again and again, from none: after as many times as there are formulas
-- they stand still.
use Rattle.std.proofs.Common.{◌≡◌, ◌∙◌, inl, inr, ℕ, zero, suc, ◌<◌, ◌≤◌, Bool, cond, List, [], ◌∷◌}
use Rattle.std.proofs.Common.{length, replicate, refl, sym, ap, arith}
use Rattle.std.specs.Prelude.{nat_lt}
use Rattle.std.proofs.lemmas.Bool.{cases_lt, cond-false, cond-true, cond_both, le-ltb, lt-ltb}
use Rattle.std.proofs.lemmas.Bool.Decides.{nat_tests}
use Rattle.std.proofs.lemmas.List.{ext_get_or, get_or-replicate, get_or_past, length-replicate}
use Rattle.std.proofs.lemmas.List.FromFn.{get_or-map-range_with_len, length-map-range_with_len}
use Rattle.calculation_order.specs.Edges.{needs_of}
use Rattle.calculation_order.specs.Turns.{AreTurns, behind_at, joined, joined_of, turn_after}
use Rattle.calculation_order.specs.Turns.{turn_at, turn_behind, turn_of_none, turns_after}
use Rattle.calculation_order.specs.declared.turns.Waiting.{Waiting}
use Rattle.calculation_order.specs.declared.turns.Waiting.TheVariants.{ForAll, ForAny}
use Rattle.calculation_order.proofs.Joining.{joined_of-same, joined_of_below}

-- a turn before one, and none for each later one
abbrev cut_before : ℕ → ℕ → ℕ → ℕ
cut_before most i turn = cond (nat_lt turn i) turn most

cut_none : (w : Waiting) (most i : ℕ)
    → cut_before most (suc i) (turn_of_none w most) ≡ turn_of_none w most
cut_none ForAll most i = cond-true (nat_lt 0 (suc i)) 0 most (lt-ltb 0 (suc i) (omega arith))
cut_none ForAny most i = cond_both (nat_lt most (suc i)) most most (λ (n : ℕ). n ≡ most)
    (λ e. refl) (λ e. refl)

cut_joined : (w : Waiting) (most i a b : ℕ) → a ≤ most → b ≤ most
    → cut_before most i (joined w a b) ≡ joined w (cut_before most i a) (cut_before most i b)
cut_joined ForAll most i a b below under = grind (arith, nat_tests)
cut_joined ForAny most i a b below under = grind (arith, nat_tests)

cut_behind : (most i turn : ℕ)
    → cut_before most (suc i) (turn_behind most turn) ≡ turn_behind most (cut_before most i turn)
cut_behind most i turn = grind (arith, nat_tests)

cut_joined_of : (w : Waiting) (most i : ℕ) (turn : ℕ → ℕ) (ns : List ℕ)
    → cut_before most (suc i) (joined_of w most (λ n. turn_behind most (turn n)) ns)
    ≡ joined_of w most (λ n. turn_behind most (cut_before most i (turn n))) ns
cut_joined_of w most i turn [] = cut_none w most i
cut_joined_of w most i turn (n ∷ ns) =
    cut_joined w most (suc i) (turn_behind most (turn n))
    (joined_of w most (λ m. turn_behind most (turn m)) ns) (omega arith)
    (joined_of_below w most (λ m. turn_behind most (turn m)) ns (λ m. omega arith))
    ∙ (λ j. joined w (cut_behind most i (turn n) j) (cut_joined_of w most i turn ns j))

cut_most : (most i : ℕ) → cut_before most i most ≡ most
cut_most most i = cond_both (nat_lt most i) most most (λ (n : ℕ). n ≡ most) (λ e. refl) (λ e. refl)

module _ (w : Waiting) (asks : ℕ → Bool) (edges : List (List ℕ)) where
  cut_after : (i : ℕ) (turns : List ℕ) (n : ℕ)
      → cut_before (length edges) (suc i) (turn_after w asks edges turns n)
      ≡ cond (asks n) 0 (joined_of w (length edges)
      (λ m. turn_behind (length edges)
      (cut_before (length edges) i (turn_at (length edges) turns m)))
      (needs_of edges n))
  cut_after i turns n =
      let most = length edges in
      let others = joined_of w most (behind_at most turns) (needs_of edges n) in
      let cut = joined_of w most
      (λ m. turn_behind most (cut_before most i (turn_at most turns m))) (needs_of edges n) in
      cond_both (asks n) 0 others (λ (turn : ℕ). cut_before most (suc i) turn ≡ cond (asks n) 0 cut)
      (λ e. cond-true (nat_lt 0 (suc i)) 0 most (lt-ltb 0 (suc i) (omega arith))
      ∙ sym (cond-true (asks n) 0 cut e))
      (λ e. cut_joined_of w most i (turn_at most turns) (needs_of edges n)
      ∙ sym (cond-false (asks n) 0 cut e))

  -- the turns that are found in so many times
  abbrev pub turns_within : ℕ → List ℕ
  turns_within zero = replicate (length edges) (length edges)
  turns_within (suc i) = turns_after w asks edges (turns_within i)

  pub at_after : (turns : List ℕ) (n : ℕ) → n < length edges
      → turn_at (length edges) (turns_after w asks edges turns) n ≡ turn_after w asks edges turns n
  at_after turns n below =
      get_or-map-range_with_len (turn_after w asks edges turns) 0 (length edges) n n (length edges)
      below (omega arith)

  pub length-turns_after : (turns : List ℕ) → length (turns_after w asks edges turns) ≡ length edges
  length-turns_after turns =
      length-map-range_with_len (turn_after w asks edges turns) 0 (length edges)

  length-within : (i : ℕ) → length (turns_within i) ≡ length edges
  length-within zero = length-replicate (length edges) (length edges)
  length-within (suc i) = length-turns_after (turns_within i)

  pub after_below : (turns : List ℕ) (n : ℕ) → turn_after w asks edges turns n ≤ length edges
  after_below turns n =
      cond_both (asks n) 0
      (joined_of w (length edges) (behind_at (length edges) turns) (needs_of edges n))
      (λ (turn : ℕ). turn ≤ length edges) (λ e. omega arith)
      (λ e. joined_of_below w (length edges) (behind_at (length edges) turns) (needs_of edges n)
      (λ m. omega arith))

  past_none : (i n : ℕ) → length edges ≤ n
      → turn_at (length edges) (turns_within i) n ≡ length edges
  past_none i n past =
      get_or_past (turns_within i) n (length edges) (omega (arith, length-within i))

  none_within : (n : ℕ) → turn_at (length edges) (turns_within 0) n ≡ length edges
  none_within n =
      elim (cases_lt n (length edges)) [
        | inl e ↦ get_or-replicate (length edges) n (length edges) (length edges) e
        | inr e ↦ past_none 0 n e
      ]

  -- what is found in so many times is what is found in one more, up to that turn
  cut_next : (i n : ℕ) → turn_at (length edges) (turns_within i) n
      ≡ cut_before (length edges) i (turn_at (length edges) (turns_within (suc i)) n)
  cut_next zero n =
      let most = length edges in
      let later = turn_at most (turns_within 1) n in
      none_within n
      ∙ sym (cond-false (nat_lt later 0) later most (le-ltb later 0 (omega arith)))
  cut_next (suc i) n =
      let most = length edges in
      elim (cases_lt n most) [
        | inl e ↦ at_after (turns_within i) n e
            ∙ ap (cond (asks n) 0) (joined_of-same w most (behind_at most (turns_within i))
            (λ m. turn_behind most (cut_before most i (turn_at most (turns_within (suc i)) m)))
            (needs_of edges n) (λ m is. ap (turn_behind most) (cut_next i m)))
            ∙ sym (cut_after i (turns_within (suc i)) n)
            ∙ ap (cut_before most (suc i)) (sym (at_after (turns_within (suc i)) n e))
        | inr e ↦ past_none (suc i) n e
            ∙ sym (cut_most most (suc i))
            ∙ ap (cut_before most (suc i)) (sym (past_none (suc (suc i)) n e))
      ]

  cut_all : (most turn : ℕ) → turn ≤ most → cut_before most most turn ≡ turn
  cut_all most turn below = grind (arith, nat_tests)

  pub turns_stand : AreTurns w asks edges (turns_within (length edges))
  turns_stand =
      let most = length edges in
      ext_get_or most (turns_within most) (turns_within (suc most))
      (length-within most ∙ sym (length-within (suc most)))
      (λ n within. cut_next most n
      ∙ cut_all most (turn_at most (turns_within (suc most)) n)
      (let at = at_after (turns_within most) n (omega (arith, length-within most)) in
      omega (arith, at, after_below (turns_within most) n)))
