-- Entries in the order of positions, by their places.
use Rattle.std.proofs.Common.{◌≡◌, ◌≢◌, ℕ, zero, suc, ◌<◌, Bool, true, false, cond, List, [], ◌∷◌}
use Rattle.std.proofs.Common.{length, get_or, refl, sym, ap, ◌∙◌, arith, Some, None, inl, inr}
use Rattle.std.specs.declared.cmp.Ordering.TheVariants.{Less, Equal, Greater}
use Rattle.std.specs.Cmp.{tied_itself}
use Rattle.std.specs.FinMap.{find}
use Rattle.std.specs.FinMap.Entries.{below_all}
use Rattle.std.specs.Ordering.{is_lt, is_eq, ordering_reverse, eq_by_cmp}
use Rattle.std.proofs.lemmas.Bool.{cases_lt}
use Rattle.cell_refs.specs.Words.{position_cmp, is_rising}
use Rattle.cell_refs.proofs.PositionOrder.{position_total, tied_same, and_both, less_from}

-- a position isn't itself where it stands before or behind
pub less_apart : (p q : ℕ × ℕ) → position_cmp p q ≡ Less → p ≢ q
less_apart p q less same =
    let tied : position_cmp p q ≡ Equal =
    ap (position_cmp p) (sym same) ∙ tied_itself position_total p in
    absurd (cc)

pub greater_from : (p q : ℕ × ℕ) → position_cmp p q ≡ Less → position_cmp q p ≡ Greater
greater_from p q less = position_total.antisymm q p ∙ ap ordering_reverse less

module _ {X : Type 0} where
  pub below_at : (p : ℕ × ℕ) (es : List ((ℕ × ℕ) × X)) (k : ℕ) (d : (ℕ × ℕ) × X) →
      below_all position_cmp p es ≡ true → k < length es →
      position_cmp p (get_or es k d).0 ≡ Less
  below_at p [] k d below inside = absurd (omega arith)
  below_at p (e ∷ es) zero d below inside =
      less_from _ (and_both (is_lt (position_cmp p e.0)) (below_all position_cmp p es) below).0
  below_at p (e ∷ es) (suc k) d below inside =
      below_at p es k d
      (and_both (is_lt (position_cmp p e.0)) (below_all position_cmp p es) below).1 (omega arith)

  -- an entry at an earlier place stands before one at a later place
  pub rises : (es : List ((ℕ × ℕ) × X)) (i j : ℕ) (d : (ℕ × ℕ) × X) →
      is_rising es ≡ true → i < j → j < length es →
      position_cmp (get_or es i d).0 (get_or es j d).0 ≡ Less
  rises [] i j d rising before inside = absurd (omega arith)
  rises (e ∷ es) i zero d rising before inside = absurd (omega arith)
  rises (e ∷ es) zero (suc j) d rising before inside =
      below_at e.0 es j d (and_both (below_all position_cmp e.0 es) (is_rising es) rising).0
      (omega arith)
  rises (e ∷ es) (suc i) (suc j) d rising before inside =
      rises es i j d (and_both (below_all position_cmp e.0 es) (is_rising es) rising).1
      (omega arith) (omega arith)

  -- entries at one position stand at one place
  pub one_place : (es : List ((ℕ × ℕ) × X)) (i j : ℕ) (d : (ℕ × ℕ) × X) →
      is_rising es ≡ true → i < length es → j < length es →
      (get_or es i d).0 ≡ (get_or es j d).0 → i ≡ j
  one_place es i j d rising in_i in_j same =
      elim (cases_lt i j) [
        | inl less ↦ absurd (less_apart _ _ (rises es i j d rising less in_j) same)
        | inr more ↦ elim (cases_lt j i) [
          | inl less ↦ absurd (less_apart _ _ (rises es j i d rising less in_i) (sym same))
          | inr least ↦ omega arith
        ]
      ]

  -- what stands at a place is found at its position
  pub found_at : (es : List ((ℕ × ℕ) × X)) (k : ℕ) (d : (ℕ × ℕ) × X) →
      is_rising es ≡ true → k < length es →
      find position_cmp (get_or es k d).0 es ≡ Some (get_or es k d).1
  found_at [] k d rising inside = absurd (omega arith)
  found_at (e ∷ es) zero d rising inside =
      ap (λ (t : Bool). cond t (Some e.1) (find position_cmp e.0 es))
      (ap is_eq (tied_itself position_total e.0))
  found_at (e ∷ es) (suc k) d rising inside =
      let parts = and_both (below_all position_cmp e.0 es) (is_rising es) rising in
      let q = (get_or es k d).0 in
      ap (λ (t : Bool). cond t (Some e.1) (find position_cmp q es))
      (ap is_eq (greater_from e.0 q (below_at e.0 es k d parts.0 (omega arith))))
      ∙ found_at es k d parts.1 (omega arith)

  -- nothing is found at a position that stands at no place
  pub none_found : (q : ℕ × ℕ) (es : List ((ℕ × ℕ) × X)) (d : (ℕ × ℕ) × X) →
      ((k : ℕ) → k < length es → (get_or es k d).0 ≢ q) → find position_cmp q es ≡ None
  none_found q [] d apart = refl
  none_found q (e ∷ es) d apart =
      by_test (eq_by_cmp position_cmp q e.0) refl
      (none_found q es d (λ k inside. apart (suc k) (omega arith)))
    where
      by_test : (test : Bool) → eq_by_cmp position_cmp q e.0 ≡ test →
          find position_cmp q es ≡ None → cond test (Some e.1) (find position_cmp q es) ≡ None
      by_test true tied rest =
          absurd (apart 0 (omega arith) (sym (tied_same q e.0 tied)))
      by_test false other rest = rest
