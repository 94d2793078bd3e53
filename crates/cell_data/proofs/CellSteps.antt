-- The cells at or behind a position, a column further and a row further.
use Rattle.std.proofs.Common.{◌≡◌, ◌∙◌, ◌∷◌, [], ◌+◌, ◌-◌, ◌*◌, ◌/◌, ◌%◌, ◌<◌, ◌≤◌, ◌==◌, ◌⊎◌, inl}
use Rattle.std.proofs.Common.{inr, ◌&&◌, cond, List, Bool, true, false, Option, Some, None, ℕ, refl}
use Rattle.std.proofs.Common.{sym, ap, subst, arith, add-one, suc, map}
use Rattle.std.specs.List.{range_with_len}
use Rattle.std.specs.Prelude.{nat_le}
use Rattle.std.specs.declared.cmp.Ordering.{Ordering}
use Rattle.std.specs.declared.cmp.Ordering.TheVariants.{Less, Equal, Greater}
use Rattle.std.specs.Cmp.{ranked, nat_cmp_is}
use Rattle.std.specs.FinMap.{find}
use Rattle.std.specs.FinMap.Entries.{below_all}
use Rattle.std.specs.Borrow.{Bor}
use Rattle.std.specs.Option.{unwrap_or, option_copied}
use Rattle.std.specs.Ordering.{nat_cmp, ordering_then, is_lt, is_le}
use Rattle.std.proofs.lemmas.Bool.{cases_lt}
use Rattle.std.proofs.lemmas.Bool.Decides.{nat_tests}
use Rattle.std.proofs.lemmas.List.Folds.{list_all-append}
use Rattle.std.proofs.lemmas.Nat.{div-mul-add, mod-mul-add, div-add-mod'}
use Rattle.std.proofs.Math.Nat.{suc-mul}
use Rattle.cell_refs.specs.Words.{position_cmp, is_rising, is_in_bounds, lie_inside, lie_from}
use Rattle.cell_refs.specs.declared.dimensions.Dimensions.{Dimensions}
use Rattle.cell_refs.proofs.PositionOrder.{and_both}
use Rattle.sorted_cells.specs.Words.{value_first, left_behind, past_row}
use Rattle.cell_data.specs.CellsLeft.{AreLeftFrom, AreLeftAt, position_of}
use Rattle.cell_data.specs.Range.{cells_of, bounds_of, width_of, start_of}
use Rattle.cell_data.specs.Splitting.{AreInOrder, given, none_earlier, Splits}
use Rattle.cell_data.specs.declared.range.Range.{Range}
use Rattle.cell_data.proofs.Splitting.{past, at_first, splits_at, order_behind}

abbrev IsUpTo : ℕ × ℕ → ℕ × ℕ → Type 0
IsUpTo a b = (a.0 < b.0) ⊎ ((a.0 ≡ b.0) × (a.1 ≤ b.1))

abbrev IsBefore : ℕ × ℕ → ℕ × ℕ → Type 0
IsBefore a b = (a.0 < b.0) ⊎ ((a.0 ≡ b.0) × (a.1 < b.1))

up_to_by : (a b : ℕ × ℕ) (r s : Ordering) → r ≡ nat_cmp a.0 b.0 → s ≡ nat_cmp a.1 b.1 →
    is_le (ordering_then r s) ≡ true → IsUpTo a b
up_to_by a b Less s rows columns le = inl (ranked a.0 b.0 Less rows)
up_to_by a b Equal Less rows columns le =
    let same : a.0 ≡ b.0 = ranked a.0 b.0 Equal rows in
    let less : a.1 < b.1 = ranked a.1 b.1 Less columns in
    inr (same, omega (arith, less))
up_to_by a b Equal Equal rows columns le =
    let same : a.0 ≡ b.0 = ranked a.0 b.0 Equal rows in
    let tied : a.1 ≡ b.1 = ranked a.1 b.1 Equal columns in
    inr (same, omega (arith, tied))
up_to_by a b Equal Greater rows columns le = absurd (cc)
up_to_by a b Greater s rows columns le = absurd (cc)

is_up_to : (a b : ℕ × ℕ) → is_le (position_cmp a b) ≡ true → IsUpTo a b
is_up_to a b le = up_to_by a b _ _ refl refl le

before_by : (a b : ℕ × ℕ) (r s : Ordering) → r ≡ nat_cmp a.0 b.0 → s ≡ nat_cmp a.1 b.1 →
    is_lt (ordering_then r s) ≡ true → IsBefore a b
before_by a b Less s rows columns lt = inl (ranked a.0 b.0 Less rows)
before_by a b Equal Less rows columns lt =
    let same : a.0 ≡ b.0 = ranked a.0 b.0 Equal rows in
    let less : a.1 < b.1 = ranked a.1 b.1 Less columns in
    inr (same, less)
before_by a b Equal Equal rows columns lt = absurd (cc)
before_by a b Equal Greater rows columns lt = absurd (cc)
before_by a b Greater s rows columns lt = absurd (cc)

is_before : (a b : ℕ × ℕ) → is_lt (position_cmp a b) ≡ true → IsBefore a b
is_before a b lt = before_by a b _ _ refl refl lt

less_from_before : (a b : ℕ × ℕ) → IsBefore a b → is_lt (position_cmp a b) ≡ true
less_from_before a b (inl less) =
    ap (λ o. is_lt (ordering_then o (nat_cmp a.1 b.1))) (sym (nat_cmp_is a.0 b.0 Less less))
less_from_before a b (inr both) =
    let rows = sym (nat_cmp_is a.0 b.0 Equal both.0) in
    let columns = sym (nat_cmp_is a.1 b.1 Less both.1) in
    λ i. is_lt (ordering_then (rows i) (columns i))

le_from_up_to : (a b : ℕ × ℕ) → IsUpTo a b → is_le (position_cmp a b) ≡ true
le_from_up_to a b (inl less) =
    ap (λ o. is_le (ordering_then o (nat_cmp a.1 b.1))) (sym (nat_cmp_is a.0 b.0 Less less))
le_from_up_to a b (inr both) =
    let rows = sym (nat_cmp_is a.0 b.0 Equal both.0) in
    elim (cases_lt a.1 b.1) [
      | inl less ↦
          let columns = sym (nat_cmp_is a.1 b.1 Less less) in
          λ i. is_le (ordering_then (rows i) (columns i))
      | inr more ↦
          let same : a.1 ≡ b.1 = omega (arith, more, both.1) in
          let columns = sym (nat_cmp_is a.1 b.1 Equal same) in
          λ i. is_le (ordering_then (rows i) (columns i))
    ]

-- the columns of a position in an area
in_columns : (bounds : Option Dimensions) (p : ℕ × ℕ) → is_in_bounds bounds p ≡ true →
    ((start_of bounds).1 ≤ p.1) × (p.1 < (start_of bounds).1 + width_of bounds)
in_columns None p is_in = absurd (cc)
in_columns (Some area) p is_in =
    let columns = (and_both (nat_le area.start.0 p.0 && nat_le p.0 area.end.0)
    (nat_le area.start.1 p.1 && nat_le p.1 area.end.1) is_in).1 in
    let (first, last) = and_both (nat_le area.start.1 p.1) (nat_le p.1 area.end.1) columns in
    let from : area.start.1 ≤ p.1 = grind (arith, nat_tests, first) in
    let to : p.1 ≤ area.end.1 = grind (arith, nat_tests, last) in
    (from, omega (arith, from, to))

module _ {X : Type 0} (bounds : Option Dimensions) (all : List ((ℕ × ℕ) × X)) where
  stands_next : (row column : ℕ) (es : List ((ℕ × ℕ) × X)) →
      below_all position_cmp (row, column) es ≡ true → none_earlier (row, column + 1) es ≡ true
  stands_next row column [] below = refl
  stands_next row column (e ∷ es) below =
      le_from_up_to (row, column + 1) e.0
      (elim (is_before (row, column) e.0 (and_both _ (below_all position_cmp (row, column) es)
      below).0) [
        | inl less ↦ inl less
        | inr both ↦ inr (both.0, omega (arith, both.1))
      ])

  inside_behind : (p : ℕ × ℕ) (value : Option X) (left behind : List ((ℕ × ℕ) × X)) →
      Splits p left value behind → lie_inside bounds left ≡ true →
      lie_inside bounds behind ≡ true
  inside_behind p value left behind splits inside =
      let tests : (ℕ × ℕ) × X → Bool = λ cell. is_in_bounds bounds cell.0 in
      (and_both _ _ (sym (list_all-append tests (given p value) behind)
      ∙ (ap (lie_inside bounds) (sym splits.whole) ∙ inside))).1

  -- the cell at the position is the one that is found
  found_there : (p : ℕ × ℕ) (value : Option X) (left behind : List ((ℕ × ℕ) × X)) →
      AreLeftFrom bounds p all left → Splits p left value behind → find position_cmp p all ≡ value
  found_there p value left behind from splits =
      let here : is_le (position_cmp p p) ≡ true =
      le_from_up_to p p (inr (refl, omega arith)) in
      sym (from.same p here) ∙ (ap (find position_cmp p) splits.whole
      ∙ at_first p value behind splits.below)

  -- one column further
  column_passed : (row column : ℕ) (value : Option X) (left behind : List ((ℕ × ℕ) × X)) →
      AreLeftFrom bounds (row, column) all left → Splits (row, column) left value behind →
      AreLeftFrom bounds (row, column + 1) all behind
  column_passed row column value left behind from splits = record {
    first = stands_next row column behind splits.below;
    order = splits.order;
    inside = inside_behind (row, column) value left behind splits from.inside;
    same = λ other le.
        let before : IsBefore (row, column) other =
        elim (is_up_to (row, column + 1) other le) [
          | inl less ↦ inl less
          | inr both ↦ inr (both.0, omega (arith, both.1))
        ] in
        let up_to : IsUpTo (row, column) other =
        elim before [
          | inl less ↦ inl less
          | inr both ↦ inr (both.0, omega (arith, both.1))
        ] in
        let less = less_from_before (row, column) other before in
        sym (past (row, column) value other behind less)
        ∙ (ap (find position_cmp other) (sym splits.whole)
        ∙ from.same other (le_from_up_to (row, column) other up_to));
  }

  -- one cell further
  pub record IsTaken (p : ℕ × ℕ) (value : Option X) (behind : List ((ℕ × ℕ) × X)) : Type 0 where
    pub found : find position_cmp p all ≡ value
    pub left : AreLeftFrom bounds (p.0, p.1 + 1) all behind

  pub taken : (p : ℕ × ℕ) (value : Option X) (left behind : List ((ℕ × ℕ) × X)) →
      AreLeftFrom bounds p all left → value ≡ value_first p left → behind ≡ left_behind p left →
      IsTaken p value behind
  taken p value left behind from value_is behind_is =
      let splits : Splits p left value behind =
      subst (λ (b : List ((ℕ × ℕ) × X)). Splits p left value b) (sym behind_is)
      (subst (λ (v : Option X). Splits p left v (left_behind p left)) (sym value_is)
      (splits_at p left from.order from.first)) in record {
        found = found_there p value left behind from splits;
        left = column_passed p.0 p.1 value left behind from splits;
      }

  -- a cell that doesn't stand in the row stands behind it
  stands_below : (row column : ℕ) (p : ℕ × ℕ) → IsUpTo (row, column) p → (p.0 ≡ row → ⊥) →
      is_in_bounds bounds p ≡ true →
      is_le (position_cmp (row + 1, (start_of bounds).1) p) ≡ true
  stands_below row column p up_to apart inside =
      let first : (start_of bounds).1 ≤ p.1 = (in_columns bounds p inside).0 in
      le_from_up_to (row + 1, (start_of bounds).1) p (elim up_to [
        | inl less ↦ elim (cases_lt (row + 1) p.0) [
          | inl further ↦ inl further
          | inr more ↦ inr (omega (arith, less, more), first)
        ]
        | inr both ↦ absurd (apart (sym both.0))
      ])

  stands_in_next : (row column : ℕ) (es : List ((ℕ × ℕ) × X)) →
      (start_of bounds).1 + width_of bounds ≤ column → none_earlier (row, column) es ≡ true →
      lie_inside bounds es ≡ true → none_earlier (row + 1, (start_of bounds).1) es ≡ true
  stands_in_next row column [] behind first inside = refl
  stands_in_next row column (e ∷ es) behind first inside =
      let is_in = (and_both _ (lie_inside bounds es) inside).0 in
      let before : e.0.1 < (start_of bounds).1 + width_of bounds =
      (in_columns bounds e.0 is_in).1 in
      elim (is_up_to (row, column) e.0 first) [
        | inl less ↦
            stands_below row column e.0 (inl less) (λ same. omega (arith, less, same)) is_in
        | inr both ↦ absurd (omega (arith, both.1, before, behind))
      ]

  found_below : (row column : ℕ) (left : List ((ℕ × ℕ) × X)) →
      AreLeftFrom bounds (row, column) all left → (other : ℕ × ℕ) →
      is_le (position_cmp (row + 1, (start_of bounds).1) other) ≡ true →
      (row < other.0) × (find position_cmp other left ≡ find position_cmp other all)
  found_below row column left from other le =
      let further : row < other.0 =
      elim (is_up_to (row + 1, (start_of bounds).1) other le) [
        | inl less ↦ omega (arith, less)
        | inr both ↦ omega (arith, both.0)
      ] in
      (further, from.same other (le_from_up_to (row, column) other (inl further)))

  -- one row further, from behind the last column
  row_passed : (row column : ℕ) (left : List ((ℕ × ℕ) × X)) →
      (start_of bounds).1 + width_of bounds ≤ column →
      AreLeftFrom bounds (row, column) all left →
      AreLeftFrom bounds (row + 1, (start_of bounds).1) all left
  row_passed row column left behind from = record {
    first = stands_in_next row column left behind from.first from.inside;
    order = from.order;
    inside = from.inside;
    same = λ other le. (found_below row column left from other le).1;
  }

  up_to_further : (a b c : ℕ × ℕ) → IsUpTo a b → IsBefore b c → IsUpTo a c
  up_to_further a b c (inl less) (inl more) = inl (omega (arith, less, more))
  up_to_further a b c (inl less) (inr both) = inl (omega (arith, less, both.0))
  up_to_further a b c (inr both) (inl more) = inl (omega (arith, both.0, more))
  up_to_further a b c (inr both) (inr further) =
      inr (both.0 ∙ further.0, omega (arith, both.1, further.1))

  -- what stands behind the first cell stands behind a position before it
  first_behind : (p : ℕ × ℕ) (e : (ℕ × ℕ) × X) (es : List ((ℕ × ℕ) × X)) →
      IsUpTo p e.0 → below_all position_cmp e.0 es ≡ true → none_earlier p es ≡ true
  first_behind p e [] up_to below = refl
  first_behind p e (next ∷ es) up_to below =
      le_from_up_to p next.0
      (up_to_further p e.0 next.0 up_to
      (is_before e.0 next.0 (and_both _ (below_all position_cmp e.0 es) below).0))

  -- the cells without those of a row that stand first
  record IsPast (row : ℕ) (left behind : List ((ℕ × ℕ) × X)) : Type 0 where
    first : none_earlier (row + 1, (start_of bounds).1) behind ≡ true
    order : AreInOrder behind
    inside : lie_inside bounds behind ≡ true
    same : (other : ℕ × ℕ) → row < other.0 →
        find position_cmp other behind ≡ find position_cmp other left

  is_past : (row column : ℕ) (left : List ((ℕ × ℕ) × X)) → none_earlier (row, column) left ≡ true →
      AreInOrder left → lie_inside bounds left ≡ true → IsPast row left (past_row row left)
  is_past row column [] first order inside = record {
    first = refl;
    order = order;
    inside = inside;
    same = λ other further. refl;
  }
  is_past row column (e ∷ es) first order inside =
      let up_to = is_up_to (row, column) e.0 first in
      let is_in = and_both _ (lie_inside bounds es) inside in
      let below = (and_both (below_all position_cmp e.0 es) (is_rising es) order.rising).0 in
      by_test up_to is_in.0
      (is_past row column es (first_behind (row, column) e es up_to below)
      (order_behind e es order) is_in.1) (e.0.0 == row) refl
    where
      by_test : IsUpTo (row, column) e.0 → is_in_bounds bounds e.0 ≡ true →
          IsPast row es (past_row row es) → (test : Bool) → (e.0.0 == row) ≡ test →
          IsPast row (e ∷ es) (cond test (past_row row es) (e ∷ es))
      by_test up_to is_in behind true is =
          let same_row : e.0.0 ≡ row = grind (arith, nat_tests, is) in record {
            first = behind.first;
            order = behind.order;
            inside = behind.inside;
            same = λ other further.
                behind.same other further
                ∙ sym (past e.0 (Some e.1) other es (less_from_before e.0 other
                (inl (omega (arith, same_row, further)))));
          }
      by_test up_to is_in behind false is =
          let apart : e.0.0 ≡ row → ⊥ = λ same. grind (arith, nat_tests, is, same) in record {
            first = stands_below row column e.0 up_to apart is_in;
            order = order;
            inside = inside;
            same = λ other further. refl;
          }

  -- one row further, past the cells of the row
  row_gone : (row column : ℕ) (left : List ((ℕ × ℕ) × X)) →
      AreLeftFrom bounds (row, column) all left →
      AreLeftFrom bounds (row + 1, (start_of bounds).1) all (past_row row left)
  row_gone row column left from =
      let behind = is_past row column left from.first from.order from.inside in record {
        first = behind.first;
        order = behind.order;
        inside = behind.inside;
        same = λ other le.
            let (further, found) = found_below row column left from other le in
            behind.same other further ∙ found;
      }

  stands_from : (start : ℕ × ℕ) (es : List ((ℕ × ℕ) × X)) → lie_from start es ≡ true →
      none_earlier start es ≡ true
  stands_from start [] from = refl
  stands_from start (e ∷ es) from =
      let (rows, columns) = and_both (nat_le start.0 e.0.0) (nat_le start.1 e.0.1)
      (and_both _ (lie_from start es) from).0 in
      let row : start.0 ≤ e.0.0 = grind (arith, nat_tests, rows) in
      let column : start.1 ≤ e.0.1 = grind (arith, nat_tests, columns) in
      le_from_up_to start e.0 (elim (cases_lt start.0 e.0.0) [
        | inl less ↦ inl less
        | inr more ↦ inr (omega (arith, row, more), column)
      ])

  -- all cells of an area are left from its first position on
  all_left : AreInOrder all → lie_from (start_of bounds) all ≡ true →
      lie_inside bounds all ≡ true → AreLeftFrom bounds (start_of bounds) all all
  all_left order from inside = record {
    first = stands_from (start_of bounds) all from;
    order = order;
    inside = inside;
    same = λ other le. refl;
  }

-- the next of the numbers is given
pub next_given : {A : Type 0} (f : ℕ → A) (n count : ℕ) → n < count →
    map f (range_with_len n (count - n))
    ≡ f n ∷ map f (range_with_len (n + 1) (count - (n + 1)))
next_given f n count within =
    let more : count - n ≡ suc (count - (n + 1)) = omega (arith, within) in
    ap (λ (k : ℕ). map f (range_with_len n k)) more

-- the place behind the one with a number, counted row by row
place_behind : (n w row column : ℕ) → row * w + column ≡ n + 1 → column < w →
    (row ≡ (n + 1) / w) × (column ≡ (n + 1) % w)
place_behind n w row column is within = (
  sym (div-mul-add row w column within) ∙ ap (λ (m : ℕ). m / w) is,
  sym (mod-mul-add row w column within) ∙ ap (λ (m : ℕ). m % w) is,
)

-- the same by places, which are counted from the first row and column of the area
module _ {X : Type 0} (range : Range X) where
  at_place : (row column : ℕ) (place : ℕ × ℕ) (left : List ((ℕ × ℕ) × X)) →
      row ≡ (start_of (bounds_of range)).0 + place.0 →
      column ≡ (start_of (bounds_of range)).1 + place.1 →
      AreLeftFrom (bounds_of range) (row, column) (cells_of range) left →
      AreLeftAt range place left
  at_place row column place left rows columns from =
      subst (λ (r : ℕ). AreLeftFrom (bounds_of range)
      (r, (start_of (bounds_of range)).1 + place.1) (cells_of range) left) rows
      (subst (λ (k : ℕ). AreLeftFrom (bounds_of range) (row, k) (cells_of range) left) columns from)

  -- all cells are left from the first place on
  pub all_at : (row column : ℕ) → row ≡ 0 → column ≡ 0 → AreInOrder (cells_of range) →
      lie_from (start_of (bounds_of range)) (cells_of range) ≡ true →
      lie_inside (bounds_of range) (cells_of range) ≡ true →
      AreLeftAt range (row, column) (cells_of range)
  all_at row column first_row first_column order from inside =
      let s = start_of (bounds_of range) in
      at_place s.0 s.1 (row, column) (cells_of range) (omega (arith, first_row))
      (omega (arith, first_column))
      (all_left (bounds_of range) (cells_of range) order from inside)

  -- a column further is the next place of the row
  pub position_further : (p place : ℕ × ℕ) → p ≡ position_of (bounds_of range) place →
      (p.0, p.1 + 1) ≡ position_of (bounds_of range) (place.0, place.1 + 1)
  position_further p place at =
      let s = start_of (bounds_of range) in
      let same : s.1 + place.1 + 1 ≡ s.1 + (place.1 + 1) = omega arith in
      ap (λ (q : ℕ × ℕ). (q.0, q.1 + 1)) at ∙ ap (λ (k : ℕ). (s.0 + place.0, k)) same

  pub place_passed : (p place : ℕ × ℕ) (left : List ((ℕ × ℕ) × X)) →
      p ≡ position_of (bounds_of range) place →
      AreLeftFrom (bounds_of range) (p.0, p.1 + 1) (cells_of range) left →
      AreLeftAt range (place.0, place.1 + 1) left
  place_passed p place left at from =
      subst (λ (q : ℕ × ℕ). AreLeftFrom (bounds_of range) q (cells_of range) left)
      (position_further p place at) from

  -- the place behind a cell, by its number
  pub number_passed : (n : ℕ) (left : List ((ℕ × ℕ) × X)) →
      n % width_of (bounds_of range) < width_of (bounds_of range) →
      AreLeftAt range
      (n / width_of (bounds_of range), n % width_of (bounds_of range) + 1) left →
      AreLeftAt range
      ((n + 1) / width_of (bounds_of range), (n + 1) % width_of (bounds_of range)) left
  number_passed n left within from =
      let s = start_of (bounds_of range) in
      let w = width_of (bounds_of range) in
      let whole : n / w * w + n % w ≡ n = div-add-mod' n w in
      elim (cases_lt (n % w + 1) w) [
        | inl less ↦
            let at = place_behind n w (n / w) (n % w + 1) (omega (arith, whole)) less in
            at_place (s.0 + n / w) (s.1 + (n % w + 1)) ((n + 1) / w, (n + 1) % w) left
            (ap (λ (r : ℕ). s.0 + r) at.0) (ap (λ (k : ℕ). s.1 + k) at.1) from
        | inr more ↦
            let next_row : (n / w + 1) * w ≡ n / w * w + w =
            ap (λ (r : ℕ). r * w) (add-one (n / w)) ∙ suc-mul (n / w) w in
            let at =
            place_behind n w (n / w + 1) 0 (omega (arith, whole, more, within, next_row))
            (omega (arith, within)) in
            at_place (s.0 + n / w + 1) s.1 ((n + 1) / w, (n + 1) % w) left
            (omega arith ∙ ap (λ (r : ℕ). s.0 + r) at.0)
            (omega arith ∙ ap (λ (k : ℕ). s.1 + k) at.1)
            (row_passed (bounds_of range) (cells_of range) (s.0 + n / w) (s.1 + (n % w + 1)) left
            (omega (arith, more)) from)
      ]

  -- the cells of a row are passed
  pub row_taken : (row : ℕ) (left : List ((ℕ × ℕ) × X)) → AreLeftAt range (row, 0) left →
      AreLeftAt range (row + 1, 0) (past_row ((start_of (bounds_of range)).0 + row) left)
  row_taken row left from =
      let s = start_of (bounds_of range) in
      at_place (s.0 + row + 1) s.1 (row + 1, 0) (past_row (s.0 + row) left) (omega arith)
      (omega arith)
      (row_gone (bounds_of range) (cells_of range) (s.0 + row) (s.1 + 0) left from)

-- what an unwrapped reference shows
pub unwrapped : {X : Type 0} (value : Option (Bor X)) (blank result : Bor X) →
    result ≡ unwrap_or value blank → result.now ≡ unwrap_or (option_copied value) blank.now
unwrapped {X = X} None blank result is = ap (λ (r : Bor X). r.now) is
unwrapped {X = X} (Some value) blank result is = ap (λ (r : Bor X). r.now) is
