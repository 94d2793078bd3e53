-- The cells of a row between columns, and rows between numbers, found by halving.
use Rattle.std.proofs.Common.{◌≡◌, ℕ, ◌+◌, ◌≤◌, Bool, true, false, List, [], ◌∷◌, ◌++◌, length, map}
use Rattle.std.proofs.Common.{take, drop, get_or, refl, sym, ap, ◌∙◌, subst, arith}
use Rattle.std.specs.Prelude.{◌&&◌, nat_le, nat_lt}
use Rattle.std.specs.FinMap.{is_sorted}
use Rattle.std.specs.FinMap.Entries.{is_sorted-where_key}
use Rattle.std.specs.List.{filter}
use Rattle.std.specs.List.Sorted.{IsPartitionedBy, IsPartitionPoint}
use Rattle.std.specs.Ordering.{nat_cmp}
use Rattle.std.proofs.lemmas.List.{map-append, take-append-drop}
use Rattle.std.proofs.lemmas.List.Elements.{filter-append}
use Rattle.cell_refs.specs.Words.{position_cmp, is_rising}
use Rattle.cell_refs.proofs.PositionOrder.{to_T, from_T}
use Rattle.sorted_cells.specs.declared.row.Row.{Row}
use Rattle.sorted_cells.specs.declared.row.ColumnCell.{ColumnCell}
use Rattle.sorted_cells.specs.Area.{entries_between}
use Rattle.sorted_cells.specs.Cut.{AreLeft}
use Rattle.sorted_cells.specs.Rows.{row_entry, row_size, cells_by, are_rows, first_of_rows}
use Rattle.sorted_cells.specs.Rows.{column_entry, columns_rise}
use Rattle.sorted_cells.specs.Thinned.{is_between, cells_between}
use Rattle.sorted_cells.proofs.Cutting.{parted_behind, parted_before, placed_first, le_fails}
use Rattle.sorted_cells.proofs.Cutting.{le_passes}
use Rattle.sorted_cells.proofs.Filters.{filter_both, filter_front, filter_back}
use Rattle.sorted_cells.proofs.Orders.{sorted_parts}
use Rattle.sorted_cells.proofs.Parts.{rises_by_column}
use Rattle.sorted_cells.proofs.Pushing.{shared, rest_shared}
use Rattle.sorted_cells.proofs.Thinning.{of_row}

pub and_turned : (a b : Bool) → (a && b) ≡ (b && a)
and_turned true true = refl
and_turned true false = refl
and_turned false true = refl
and_turned false false = refl

module _ {X : Type 0} where
  -- what a search for the place of a column says
  abbrev pub Halves : (ColumnCell X → Bool) → List (ColumnCell X) → ℕ → Type 0
  Halves p cells k =
      IsPartitionedBy p cells →
      IsPartitionPoint (λ (cell : ColumnCell X). p cell ≡ true)
      (λ (cell : ColumnCell X). p cell ≡ false) cells k

  -- the cells of a row that two searches leave
  pub columns_cut : (first last k n : ℕ) (cells front left : List (ColumnCell X)) →
      columns_rise cells ≡ true →
      Halves (λ (cell : ColumnCell X). nat_le cell.column last) cells k → front ≡ take k cells →
      k ≤ length cells → Halves (λ (cell : ColumnCell X). nat_lt cell.column first) front n →
      n ≤ length front → left ≡ drop n front → left ≡ cells_between first last cells
  columns_cut first last k n cells front left rise up_to front_is within before short left_is =
      let upper = up_to (parted_behind column_entry last cells rise) in
      let below : filter (λ (cell : ColumnCell X). nat_le cell.column last) cells ≡ front =
      filter_front (λ (cell : ColumnCell X). nat_le cell.column last) cells k
      (λ i d inside less. upper.0 i d (omega arith) less)
      (λ i d inside more. upper.1 i d more inside)
      ∙ sym front_is in
      let rises : is_sorted nat_cmp (map column_entry front) ≡ true =
      ap (λ (cs : List (ColumnCell X)). is_sorted nat_cmp (map column_entry cs)) front_is
      ∙ (sorted_parts nat_cmp (map column_entry (take k cells)) (map column_entry (drop k cells))
      (ap (is_sorted nat_cmp) (sym (map-append column_entry (take k cells) (drop k cells)))
      ∙ (ap (λ (cs : List (ColumnCell X)). is_sorted nat_cmp (map column_entry cs))
      (take-append-drop k cells) ∙ rise))).0 in
      let lower = before (parted_before column_entry first front rises) in
      let above : filter (λ (cell : ColumnCell X). nat_le first cell.column) front ≡ drop n front =
      filter_back (λ (cell : ColumnCell X). nat_le first cell.column) front n
      (λ i d inside less. le_fails first (get_or front i d).column (lower.0 i d (omega arith) less))
      (λ i d inside more. le_passes first (get_or front i d).column (lower.1 i d more inside)) in
      left_is
      ∙ (sym above
      ∙ (ap (filter (λ (cell : ColumnCell X). nat_le first cell.column)) (sym below)
      ∙ filter_both (λ (cell : ColumnCell X). nat_le first cell.column)
      (λ (cell : ColumnCell X). nat_le cell.column last)
      (λ (cell : ColumnCell X). is_between first last cell.column) (λ cell. refl) cells))

  -- rows up to a number, and of these the rows from a number on
  pub rows_cut : (first last : ℕ) (rows up_to left : List Row)
      (cells front others : List (ColumnCell X)) →
      AreLeft (λ n. nat_le n last) 0 rows up_to cells front →
      AreLeft (λ n. nat_le first n) (first_of_rows left) up_to left front others →
      AreLeft (λ n. is_between first last n) (first_of_rows left) rows left cells others
  rows_cut first last rows up_to left cells front others upper lower = record {
    shared = lower.shared;
    numbers = lower.numbers;
    cells_are =
        lower.cells_are
        ∙ (ap (filter (λ (e : (ℕ × ℕ) × X). nat_le first e.0.0)) upper.cells_are
        ∙ filter_both (λ (e : (ℕ × ℕ) × X). nat_le first e.0.0)
        (λ (e : (ℕ × ℕ) × X). nat_le e.0.0 last)
        (λ (e : (ℕ × ℕ) × X). is_between first last e.0.0) (λ e. refl) (cells_by rows cells));
  }

  -- rows between numbers are in order
  pub left_rise : (passes : ℕ → Bool) (place : ℕ) (rows left : List Row)
      (cells others : List (ColumnCell X)) → AreLeft passes place rows left cells others →
      is_rising (cells_by rows cells) ≡ true → is_rising (cells_by left others) ≡ true
  left_rise passes place rows left cells others are rising =
      ap is_rising are.cells_are
      ∙ from_T _ (is_sorted-where_key position_cmp (λ (p : ℕ × ℕ). passes p.0) (cells_by rows cells)
      (to_T _ rising))

  -- the first row, with its cells between columns
  pub record IsRowEntered (first last number : ℕ) (own left back : List (ColumnCell X))
      (row : Row) (others rows : List Row) (behind : List (ColumnCell X)) : Type 0 where
    pub columns : columns_rise own ≡ true
    pub shared : are_rows (first_of_rows others) others (length back) ≡ true
    pub rising : is_rising (cells_by others back) ≡ true
    pub same : left ≡ cells_between first last own →
        map (row_entry row.number) left ++ entries_between first last (cells_by others back)
        ≡ map (row_entry number) [] ++ entries_between first last (cells_by rows behind)

  pub row_entered : (first last number size : ℕ) (own left back : List (ColumnCell X)) (row : Row)
      (others rows : List Row) (behind : List (ColumnCell X)) → rows ≡ row ∷ others →
      size ≡ row_size row.first others (length behind) → own ≡ take size behind →
      back ≡ drop size behind → are_rows (first_of_rows rows) rows (length behind) ≡ true →
      is_rising (cells_by rows behind) ≡ true →
      IsRowEntered first last number own left back row others rows behind
  row_entered first last number size own left back row others rows behind split size_is own_is
      back_is are rising =
      let n : ℕ = row_size row.first others (length behind) in
      let own_n : own ≡ take n behind = own_is ∙ ap (λ (k : ℕ). take k behind) size_is in
      let back_n : back ≡ drop n behind = back_is ∙ ap (λ (k : ℕ). drop k behind) size_is in
      let all =
      shared row.first row others (length behind)
      (subst (λ (rs : List Row). are_rows (first_of_rows rs) rs (length behind) ≡ true) split are)
      in
      let order : is_rising (map (row_entry row.number) (take n behind)
      ++ cells_by others (drop n behind)) ≡ true =
      subst (λ (rs : List Row). is_rising (cells_by rs behind) ≡ true) split rising in
      let (front, rest) =
      sorted_parts position_cmp (map (row_entry row.number) (take n behind))
      (cells_by others (drop n behind)) order in
      record {
        columns =
            ap columns_rise own_n ∙ (sym (rises_by_column row.number (take n behind)) ∙ front);
        shared =
            subst (λ (cs : List (ColumnCell X)).
            are_rows (first_of_rows others) others (length cs) ≡ true) (sym back_n)
            (placed_first (row.first + n) others (length (drop n behind))
            (rest_shared row.first row others behind all));
        rising =
            ap (λ (cs : List (ColumnCell X)). is_rising (cells_by others cs)) back_n ∙ rest;
        same = λ left_is.
            ap (λ (cs : List (ColumnCell X)). map (row_entry row.number) cs
            ++ entries_between first last (cells_by others back)) left_is
            ∙ (ap (λ (es : List ((ℕ × ℕ) × X)). es
            ++ entries_between first last (cells_by others back)) (of_row first last row.number own)
            ∙ (ap (λ (cs : List (ColumnCell X)).
            entries_between first last (map (row_entry row.number) cs)
            ++ entries_between first last (cells_by others back)) own_n
            ∙ (ap (λ (cs : List (ColumnCell X)).
            entries_between first last (map (row_entry row.number) (take n behind))
            ++ entries_between first last (cells_by others cs)) back_n
            ∙ (sym (filter-append (λ (e : (ℕ × ℕ) × X). is_between first last e.0.1)
            (map (row_entry row.number) (take n behind)) (cells_by others (drop n behind)))
            ∙ ap (λ (rs : List Row). entries_between first last (cells_by rs behind))
            (sym split)))));
      }
