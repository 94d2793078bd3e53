-- Cells of some columns, kept in their rows.
use Rattle.std.proofs.Common.{◌≡◌, ℕ, suc, ◌+◌, ◌-◌, ◌<◌, ◌≤◌, Bool, true, false, cond, List, []}
use Rattle.std.proofs.Common.{◌∷◌, ◌++◌, length, map, take, drop, get_or, refl, sym, ap, ◌∙◌, subst}
use Rattle.std.proofs.Common.{arith, add-zero}
use Rattle.std.specs.Prelude.{◌==◌}
use Rattle.std.specs.FinMap.Entries.{below_all}
use Rattle.std.specs.List.{filter}
use Rattle.std.specs.Ordering.{nat_cmp, is_lt}
use Rattle.std.proofs.lemmas.Bool.Decides.{nat_tests}
use Rattle.std.proofs.lemmas.List.{take-append-drop, length-append, append_assoc, take_at, drop_at}
use Rattle.std.proofs.lemmas.List.{drop_more, drop-drop}
use Rattle.std.proofs.lemmas.List.Elements.{filter-append}
use Rattle.sorted_cells.specs.declared.row.Row.{Row}
use Rattle.sorted_cells.specs.declared.row.ColumnCell.{ColumnCell}
use Rattle.sorted_cells.specs.Rows.{row_entry, row_size, cells_by, are_rows, row_place}
use Rattle.sorted_cells.specs.Rows.{numbers_rise, first_of_rows}
use Rattle.sorted_cells.specs.Thinned.{is_between, cells_between, row_if, thinned}
use Rattle.sorted_cells.proofs.Cutting.{placed_first}
use Rattle.cell_refs.proofs.PositionOrder.{and_both, and_from}
use Rattle.sorted_cells.proofs.Pushing.{shared, share, rest_shared, no_left}

-- the first row has so many cells where the others begin behind them
size_before : (place n left : ℕ) (rows : List Row) → are_rows (place + n) rows left ≡ true →
    row_size place rows (n + left) ≡ n
size_before place n left [] are =
    let none : left ≡ 0 = no_left (place + n) left are in
    omega (arith, none)
size_before place n left (next ∷ rows) are =
    let begins : next.first ≡ place + n = (shared (place + n) next rows left are).first in
    omega (arith, begins)

row_before : (place number n left : ℕ) (rows : List Row) → 0 < n →
    are_rows (place + n) rows left ≡ true →
    are_rows place (record { number = number; first = place } ∷ rows) (n + left) ≡ true
row_before place number n left rows filled are =
    let size : row_size place rows (n + left) ≡ n = size_before place n left rows are in
    let less : n + left - n ≡ left = omega arith in
    share place (record { number = number; first = place }) rows (n + left) (record {
      first = refl;
      filled = subst (λ (k : ℕ). 0 < k) (sym size) filled;
      within = omega (arith, size);
      others = subst (λ (k : ℕ). are_rows (place + k) rows (n + left - k) ≡ true) (sym size)
          (subst (λ (k : ℕ). are_rows (place + n) rows k ≡ true) (sym less) are);
    })

-- rows that share cells, and the cells that they say
pub record AreRows {X : Type 0} (place : ℕ) (rows : List Row) (cells : List (ColumnCell X))
    (entries : List ((ℕ × ℕ) × X)) : Type 0 where
  pub shared : are_rows place rows (length cells) ≡ true
  pub is : cells_by rows cells ≡ entries

-- a row with its cells before others, unless it has none
row_if_before : {X : Type 0} (place number : ℕ) (front back : List (ColumnCell X))
    (rows : List Row) → are_rows (place + length front) rows (length back) ≡ true →
    AreRows place (row_if (length front) (record { number = number; first = place }) ++ rows)
    (front ++ back) (map (row_entry number) front ++ cells_by rows back)
row_if_before place number [] back rows are = record {
  shared = subst (λ (n : ℕ). are_rows n rows (length back) ≡ true) (add-zero place) are;
  is = refl;
}
row_if_before {X} place number (cell ∷ cells) back rows are =
    let own : Row = record { number = number; first = place } in
    let front : List (ColumnCell X) = cell ∷ cells in
    let n : ℕ = length front in
    let some : (n == 0) ≡ false = some_test (length cells) in
    let count : length (front ++ back) ≡ n + length back = length-append front back in
    let size : row_size place rows (length (front ++ back)) ≡ n =
    ap (row_size place rows) count ∙ size_before place n (length back) rows are in
    let kept : AreRows place (own ∷ rows) (front ++ back)
    (map (row_entry number) front ++ cells_by rows back) =
    record {
      shared = subst (λ (k : ℕ). are_rows place (own ∷ rows) k ≡ true) (sym count)
          (row_before place number n (length back) rows (omega arith) are);
      is = ap (λ (k : ℕ). map (row_entry number) (take k (front ++ back))
          ++ cells_by rows (drop k (front ++ back))) size
          ∙ (ap (λ (cs : List (ColumnCell X)). map (row_entry number) cs
          ++ cells_by rows (drop n (front ++ back))) (take_at front back n refl)
          ∙ ap (λ (cs : List (ColumnCell X)). map (row_entry number) front ++ cells_by rows cs)
          (drop_at front back n refl));
    } in
    subst (λ (test : Bool). AreRows place (cond test [] (own ∷ []) ++ rows) (front ++ back)
    (map (row_entry number) front ++ cells_by rows back)) (sym some) kept
  where
    some_test : (k : ℕ) → (suc k == 0) ≡ false
    some_test k = grind (arith, nat_tests)

-- a row or none before others, whose numbers rise
below_row_if : (k size : ℕ) (own : Row) (rows : List Row) → is_lt (nat_cmp k own.number) ≡ true →
    below_all nat_cmp k (map row_place rows) ≡ true →
    below_all nat_cmp k (map row_place (row_if size own ++ rows)) ≡ true
below_row_if k size own rows less below = by (size == 0)
  where
    by : (test : Bool) →
        below_all nat_cmp k (map row_place (cond test [] (own ∷ []) ++ rows)) ≡ true
    by true = below
    by false =
        and_from (is_lt (nat_cmp k own.number)) (below_all nat_cmp k (map row_place rows)) less
        below

rise_row_if : (size : ℕ) (own : Row) (rows : List Row) →
    below_all nat_cmp own.number (map row_place rows) ≡ true → numbers_rise rows ≡ true →
    numbers_rise (row_if size own ++ rows) ≡ true
rise_row_if size own rows below rise = by (size == 0)
  where
    by : (test : Bool) → numbers_rise (cond test [] (own ∷ []) ++ rows) ≡ true
    by true = rise
    by false =
        and_from (below_all nat_cmp own.number (map row_place rows)) (numbers_rise rows) below rise

-- the rows from one on
pub row_here : (rows : List Row) (at left : ℕ) (d : Row) → at < length rows →
    are_rows (first_of_rows (drop at rows)) (drop at rows) left ≡ true →
    are_rows (get_or rows at d).first (get_or rows at d ∷ drop (at + 1) rows) left ≡ true
row_here rows at left d within are =
    subst (λ (rs : List Row). are_rows (first_of_rows rs) rs left ≡ true)
    (drop_more rows at d within) are

module _ {X : Type 0} (first last : ℕ) where
  abbrev entries_between : List ((ℕ × ℕ) × X) → List ((ℕ × ℕ) × X)
  entries_between all = filter (λ (entry : (ℕ × ℕ) × X). is_between first last entry.0.1) all

  pub of_row : (number : ℕ) (cells : List (ColumnCell X)) →
      map (row_entry number) (cells_between first last cells)
      ≡ entries_between (map (row_entry number) cells)
  of_row number [] = refl
  of_row number (cell ∷ cells) =
      by (is_between first last cell.column) (of_row number cells)
    where
      by : (test : Bool) →
          map (row_entry number) (cells_between first last cells)
          ≡ entries_between (map (row_entry number) cells) →
          map (row_entry number)
          (cond test (cell ∷ cells_between first last cells) (cells_between first last cells))
          ≡ cond test (row_entry number cell ∷ entries_between (map (row_entry number) cells))
          (entries_between (map (row_entry number) cells))
      by true same = ap (λ (rest : List ((ℕ × ℕ) × X)). row_entry number cell ∷ rest) same
      by false same = same

  -- the rows share the cells that are kept
  pub thinned_cells : (from place : ℕ) (rows : List Row) (cells : List (ColumnCell X)) →
      are_rows from rows (length cells) ≡ true →
      AreRows place (thinned first last place rows cells) (cells_between first last cells)
      (entries_between (cells_by rows cells))
  thinned_cells from place [] [] are = record { shared = refl; is = refl }
  thinned_cells from place [] (cell ∷ cells) are =
      let none : length (cell ∷ cells) ≡ 0 = no_left from (length (cell ∷ cells)) are in
      absurd (omega (arith, none))
  thinned_cells from place (own ∷ rows) cells are =
      let all = shared from own rows (length cells) are in
      let size : ℕ = row_size own.first rows (length cells) in
      let front : List (ColumnCell X) = cells_between first last (take size cells) in
      let back : List (ColumnCell X) = cells_between first last (drop size cells) in
      let rest : List Row =
      thinned first last (place + length front) rows (drop size cells) in
      let behind : AreRows (place + length front) rest back
      (entries_between (cells_by rows (drop size cells))) =
      thinned_cells (from + size) (place + length front) rows (drop size cells)
      (rest_shared from own rows cells all) in
      let joined : cells_between first last cells ≡ front ++ back =
      ap (cells_between first last) (sym (take-append-drop size cells))
      ∙ filter-append (λ (cell : ColumnCell X). is_between first last cell.column) (take size cells)
      (drop size cells) in
      let entries : map (row_entry own.number) front ++ cells_by rest back
      ≡ entries_between (cells_by (own ∷ rows) cells) =
      ap (λ (es : List ((ℕ × ℕ) × X)). map (row_entry own.number) front ++ es) behind.is
      ∙ (ap (λ (es : List ((ℕ × ℕ) × X)). es
      ++ entries_between (cells_by rows (drop size cells))) (of_row own.number (take size cells))
      ∙ sym (filter-append (λ (entry : (ℕ × ℕ) × X). is_between first last entry.0.1)
      (map (row_entry own.number) (take size cells)) (cells_by rows (drop size cells)))) in
      let whole = row_if_before place own.number front back rest behind.shared in
      subst (λ (cs : List (ColumnCell X)). AreRows place
      (thinned first last place (own ∷ rows) cells) cs
      (entries_between (cells_by (own ∷ rows) cells)))
      (sym joined) (record { shared = whole.shared; is = whole.is ∙ entries })

  below_thinned : (k place : ℕ) (rows : List Row) (cells : List (ColumnCell X)) →
      below_all nat_cmp k (map row_place rows) ≡ true →
      below_all nat_cmp k (map row_place (thinned first last place rows cells)) ≡ true
  below_thinned k place [] cells below = refl
  below_thinned k place (own ∷ rows) cells below =
      let size : ℕ = row_size own.first rows (length cells) in
      let left : ℕ = length (cells_between first last (take size cells)) in
      let (less, others) =
      and_both (is_lt (nat_cmp k own.number)) (below_all nat_cmp k (map row_place rows)) below in
      below_row_if k left (record { number = own.number; first = place })
      (thinned first last (place + left) rows (drop size cells)) less
      (below_thinned k (place + left) rows (drop size cells) others)

  pub thinned_rise : (place : ℕ) (rows : List Row) (cells : List (ColumnCell X)) →
      numbers_rise rows ≡ true → numbers_rise (thinned first last place rows cells) ≡ true
  thinned_rise place [] cells rise = refl
  thinned_rise place (own ∷ rows) cells rise =
      let size : ℕ = row_size own.first rows (length cells) in
      let left : ℕ = length (cells_between first last (take size cells)) in
      let (below, others) =
      and_both (below_all nat_cmp own.number (map row_place rows)) (numbers_rise rows) rise in
      rise_row_if left (record { number = own.number; first = place })
      (thinned first last (place + left) rows (drop size cells))
      (below_thinned own.number (place + left) rows (drop size cells) below)
      (thinned_rise (place + left) rows (drop size cells) others)

  -- what a row leaves of the rows and the cells that are still to be counted
  pub record IsStep (new whole : List Row) (at place count : ℕ) (others : List (ColumnCell X)) :
      Type 0 where
    pub shared :
        are_rows (first_of_rows (drop (at + 1) new)) (drop (at + 1) new) (length others) ≡ true
    pub same :
        take count new ++ thinned first last place (drop (at + 1) new) others ≡ whole

  pub counted_row : (rows new whole : List Row) (row : Row) (at written count place size : ℕ)
      (left own others : List (ColumnCell X)) → drop at rows ≡ row ∷ drop (at + 1) rows →
      written ≤ at → are_rows (first_of_rows (drop at rows)) (drop at rows) (length left) ≡ true →
      take written rows ++ thinned first last place (drop at rows) left ≡ whole →
      own ≡ take (row_size row.first (drop (at + 1) rows) (length left)) left →
      others ≡ drop (row_size row.first (drop (at + 1) rows) (length left)) left →
      size ≡ length (cells_between first last own) →
      take count new
      ≡ take written rows ++ row_if size (record { number = row.number; first = place }) →
      drop (written + 1) new ≡ drop (written + 1) rows →
      IsStep new whole at (place + size) count others
  counted_row rows new whole row at written count place size left own others split before are same
      own_is others_is size_is front back =
      let rest : List Row = drop (at + 1) rows in
      let n : ℕ = row_size row.first rest (length left) in
      let all =
      shared row.first row rest (length left)
      (subst (λ (rs : List Row). are_rows (first_of_rows rs) rs (length left) ≡ true) split are) in
      let behind : drop (at + 1) new ≡ rest =
      passed_rows new ∙ (ap (λ (rs : List Row). drop (at - written) rs) back
      ∙ sym (passed_rows rows)) in
      let shared_rest : are_rows (first_of_rows rest) rest (length others) ≡ true =
      subst (λ (cs : List (ColumnCell X)). are_rows (first_of_rows rest) rest (length cs) ≡ true)
      (sym others_is)
      (placed_first (row.first + n) rest (length (drop n left))
      (rest_shared row.first row rest left all)) in
      let stays : size ≡ length (cells_between first last (take n left)) =
      size_is ∙ ap (λ (cs : List (ColumnCell X)). length (cells_between first last cs)) own_is in
      let new_row : Row = record { number = row.number; first = place } in
      let step : row_if size new_row ++ thinned first last (place + size) rest others
      ≡ thinned first last place (row ∷ rest) left =
      ap (λ (cs : List (ColumnCell X)). row_if size new_row
      ++ thinned first last (place + size) rest cs) others_is
      ∙ ap (λ (k : ℕ). row_if k new_row ++ thinned first last (place + k) rest (drop n left))
      stays in
      record {
        shared = subst (λ (rs : List Row). are_rows (first_of_rows rs) rs (length others) ≡ true)
            (sym behind) shared_rest;
        same =
            ap (λ (rs : List Row). take count new ++ thinned first last (place + size) rs others)
            behind
            ∙ (ap (λ (rs : List Row). rs ++ thinned first last (place + size) rest others) front
            ∙ (append_assoc (take written rows) (row_if size new_row)
            (thinned first last (place + size) rest others)
            ∙ (ap (λ (rs : List Row). take written rows ++ rs) step
            ∙ (sym (ap (λ (rs : List Row). take written rows ++ thinned first last place rs left)
            split) ∙ same))));
      }
    where
      passed_rows : (rs : List Row) → drop (at + 1) rs ≡ drop (at - written) (drop (written + 1) rs)
      passed_rows rs =
          let sum : written + 1 + (at - written) ≡ at + 1 = omega (arith, before) in
          sym (drop-drop (at - written) (written + 1) rs ∙ ap (λ (k : ℕ). drop k rs) sum)
