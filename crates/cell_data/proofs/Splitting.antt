-- A step through cells in the order of positions.
use Rattle.std.proofs.Common.{◌≡◌, ℕ, suc, Bool, true, false, cond, ◌&&◌, List, [], ◌∷◌, ◌++◌, Some}
use Rattle.std.proofs.Common.{None, Option, refl, sym, ap, ◌∙◌, subst, arith}
use Rattle.std.specs.declared.cmp.Ordering.{Ordering}
use Rattle.std.specs.declared.cmp.Ordering.TheVariants.{Less, Equal, Greater}
use Rattle.std.specs.Cmp.{tied_itself}
use Rattle.std.specs.FinMap.{find}
use Rattle.std.specs.FinMap.Entries.{below_all}
use Rattle.std.specs.Ordering.{is_lt, is_le, is_eq, ordering_reverse, eq_by_cmp}
use Rattle.cell_refs.specs.Words.{position_cmp, is_rising}
use Rattle.cell_refs.proofs.PositionOrder.{position_total, tied_same, and_both, less_from}
use Rattle.cell_refs.proofs.PositionOrder.{none_behind}
use Rattle.sorted_cells.specs.Words.{value_first, left_behind}
use Rattle.cell_data.specs.Splitting.{AreInOrder, given, none_earlier, Splits}
use Rattle.cell_data.proofs.Placing.{below_further}

module _ {X : Type 0} where
  pub below_cons : (x : ℕ × ℕ) (e : (ℕ × ℕ) × X) (es : List ((ℕ × ℕ) × X)) →
      is_lt (position_cmp x e.0) ≡ true → below_all position_cmp x es ≡ true →
      below_all position_cmp x (e ∷ es) ≡ true
  below_cons x e es first rest = ap (λ t. t && below_all position_cmp x es) first ∙ rest

  -- what stands behind the first cell is found as before
  pub past : (p : ℕ × ℕ) (v : Option X) (q : ℕ × ℕ) (es : List ((ℕ × ℕ) × X)) →
      is_lt (position_cmp p q) ≡ true →
      find position_cmp q (given p v ++ es) ≡ find position_cmp q es
  past p None q es less = refl
  past p (Some v) q es less =
      let apart : eq_by_cmp position_cmp q p ≡ false =
      ap is_eq (position_total.antisymm q p ∙ ap ordering_reverse (less_from _ less)) in
      ap (λ t. cond t (Some v) (find position_cmp q es)) apart

  pub at_first : (p : ℕ × ℕ) (v : Option X) (es : List ((ℕ × ℕ) × X)) →
      below_all position_cmp p es ≡ true → find position_cmp p (given p v ++ es) ≡ v
  at_first p None es below =
      none_behind position_cmp position_total p p es (tied_itself position_total p) below
  at_first p (Some v) es below =
      ap (λ t. cond t (Some v) (find position_cmp p es)) (ap is_eq (tied_itself position_total p))

pub order_behind : {X : Type 0} (cell : (ℕ × ℕ) × X) (behind : List ((ℕ × ℕ) × X)) →
    AreInOrder (cell ∷ behind) → AreInOrder behind
order_behind cell behind order = record {
  rising = (and_both (below_all position_cmp cell.0 behind) (is_rising behind) order.rising).1;
  sheet = λ k d below. order.sheet (suc k) d (omega arith);
}

less_if_apart : (o : Ordering) → is_le o ≡ true → is_eq o ≡ false → o ≡ Less
less_if_apart Less le apart = refl
less_if_apart Equal le apart = absurd (cc)
less_if_apart Greater le apart = absurd (cc)

-- cells in order, at a position that none of them stands before
pub splits_at : {X : Type 0} (p : ℕ × ℕ) (cells : List ((ℕ × ℕ) × X)) → AreInOrder cells →
    none_earlier p cells ≡ true → Splits p cells (value_first p cells) (left_behind p cells)
splits_at p [] order first = record { whole = refl; below = refl; order = order }
splits_at {X} p (cell ∷ cells) order first =
    by_test (eq_by_cmp position_cmp p cell.0) refl
  where
    by_test : (test : Bool) → eq_by_cmp position_cmp p cell.0 ≡ test →
        Splits p (cell ∷ cells) (cond test (Some cell.1) None) (cond test cells (cell ∷ cells))
    by_test true tied =
        let at : p ≡ cell.0 = tied_same p cell.0 tied in
        let parts =
        and_both (below_all position_cmp cell.0 cells) (is_rising cells) order.rising in
        record {
          whole = ap (λ (q : ℕ × ℕ). (q, cell.1) ∷ cells) (sym at);
          below = subst (λ (q : ℕ × ℕ). below_all position_cmp q cells ≡ true) (sym at) parts.0;
          order = order_behind cell cells order;
        }
    by_test false apart =
        let less : position_cmp p cell.0 ≡ Less = less_if_apart _ first apart in
        let parts =
        and_both (below_all position_cmp cell.0 cells) (is_rising cells) order.rising in
        record {
          whole = refl;
          below = below_cons p cell cells (ap is_lt less)
              (below_further p cell.0 cells less parts.0);
          order = order;
        }
