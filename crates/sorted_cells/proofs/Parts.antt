-- The cells of one row.
use Rattle.std.proofs.Common.{◌≡◌, ℕ, zero, suc, ◌+◌, ◌-◌, ◌<◌, ◌≤◌, Bool, true, false, cond, ◌&&◌}
use Rattle.std.proofs.Common.{List, [], ◌∷◌, ◌++◌, length, map, take, drop, get_or, Some, None}
use Rattle.std.proofs.Common.{Option, refl, sym, ap, ◌∙◌, subst, arith, add-one, zero-add, Err}
use Rattle.std.specs.declared.cmp.Ordering.{Ordering}
use Rattle.std.specs.declared.cmp.Ordering.TheVariants.{Less, Equal, Greater}
use Rattle.std.specs.Cmp.{tied_itself}
use Rattle.std.specs.FinMap.{find, nat_cmp-IsAntisymmetric}
use Rattle.std.specs.FinMap.Entries.{below_all}
use Rattle.std.specs.List.Sorted.{IsBinarySearchResult}
use Rattle.std.specs.Option.{option_or}
use Rattle.std.specs.Ordering.{nat_cmp, ordering_then, is_lt, is_eq, eq_by_cmp, ordering_reverse}
use Rattle.std.proofs.lemmas.Cmp.{nat_cmp_total}
use Rattle.std.proofs.lemmas.List.{drop-drop, length-drop}
use Rattle.cell_refs.specs.Words.{position_cmp, is_rising}
use Rattle.sorted_cells.specs.declared.row.Row.{Row}
use Rattle.sorted_cells.specs.declared.row.ColumnCell.{ColumnCell}
use Rattle.sorted_cells.specs.Rows.{row_entry, row_size, cells_by, are_rows, row_place}
use Rattle.sorted_cells.specs.Rows.{numbers_rise, rows_end, cells_of_row, column_entry}
use Rattle.sorted_cells.specs.Rows.{columns_rise}
use Rattle.sorted_cells.proofs.Finding.{found_in_two, not_searched}
use Rattle.sorted_cells.proofs.Orders.{sorted_parts}
use Rattle.cell_refs.proofs.PositionOrder.{and_both, less_from, none_behind}
use Rattle.sorted_cells.proofs.Pushing.{shared, rest_shared}

tied_row : (a b c d : ℕ) → nat_cmp a b ≡ Equal →
    is_eq (position_cmp (a, c) (b, d)) ≡ is_eq (nat_cmp c d)
tied_row a b c d tied = ap (λ (o : Ordering). is_eq (ordering_then o (nat_cmp c d))) tied

apart_row : (o q : Ordering) → is_eq o ≡ false → is_eq (ordering_then o q) ≡ false
apart_row Less q apart = refl
apart_row Equal q apart = absurd (cc)
apart_row Greater q apart = refl

module _ {X : Type 0} where
  -- the cells of a row stand between its first place and that of the next row
  pub record IsPart (place k : ℕ) (rows : List Row) (cells : List (ColumnCell X))
      (first end : ℕ) : Type 0 where
    pub from : place ≤ first
    pub rises : first < end
    pub within : end ≤ place + length cells
    pub is : cells_of_row k rows cells ≡ take (end - first) (drop (first - place) cells)

  first_part : (place : ℕ) (own : Row) (rows : List Row) (cells : List (ColumnCell X)) →
      are_rows place (own ∷ rows) (length cells) ≡ true →
      IsPart place 0 (own ∷ rows) cells own.first (rows_end rows (place + length cells))
  first_part place own [] cells are =
      let all = shared place own [] (length cells) are in
      let same : place + length cells - own.first ≡ length cells = omega (arith, all.first) in
      let none : own.first - place ≡ 0 = omega (arith, all.first) in
      record {
        from = omega (arith, all.first);
        rises = omega (arith, all.first, all.filled);
        within = omega arith;
        is = sym (ap (λ (n : ℕ). take n (drop (own.first - place) cells)) same
            ∙ ap (λ (n : ℕ). take (length cells) (drop n cells)) none);
      }
  first_part place own (next ∷ rows) cells are =
      let all = shared place own (next ∷ rows) (length cells) are in
      let none : own.first - place ≡ 0 = omega (arith, all.first) in
      record {
        from = omega (arith, all.first);
        rises = omega (arith, all.filled);
        within = omega (arith, all.first, all.within);
        is = sym (ap (λ (n : ℕ). take (next.first - own.first) (drop n cells)) none);
      }

  pub part_at : (place k : ℕ) (rows : List Row) (cells : List (ColumnCell X)) (d : Row) →
      are_rows place rows (length cells) ≡ true → k < length rows →
      IsPart place k rows cells (get_or rows k d).first
      (rows_end (drop (suc k) rows) (place + length cells))
  part_at place k [] cells d are within = absurd (omega arith)
  part_at place zero (own ∷ rows) cells d are within = first_part place own rows cells are
  part_at place (suc k) (own ∷ rows) cells d are within =
      let all = shared place own rows (length cells) are in
      let size : ℕ = row_size own.first rows (length cells) in
      let fits : size ≤ length cells = all.within in
      let left : length (drop size cells) ≡ length cells - size = length-drop size cells in
      let count : place + size + length (drop size cells) ≡ place + length cells =
      omega (arith, left, fits) in
      let rest : IsPart (place + size) k rows (drop size cells) (get_or rows k d).first
      (rows_end (drop (suc k) rows) (place + size + length (drop size cells))) =
      part_at (place + size) k rows (drop size cells) d (rest_shared place own rows cells all)
      (omega arith) in
      let same : IsPart (place + size) k rows (drop size cells) (get_or rows k d).first
      (rows_end (drop (suc k) rows) (place + length cells)) =
      subst (λ (n : ℕ). IsPart (place + size) k rows (drop size cells) (get_or rows k d).first
      (rows_end (drop (suc k) rows) n)) count rest in
      let first : ℕ = (get_or rows k d).first in
      let end : ℕ = rows_end (drop (suc k) rows) (place + length cells) in
      let sum : size + (first - (place + size)) ≡ first - place = omega (arith, same.from) in
      record {
        from = omega (arith, same.from);
        rises = same.rises;
        within = omega (arith, same.within, left, fits);
        is = same.is
            ∙ (ap (λ (cs : List (ColumnCell X)). take (end - first) cs)
            (drop-drop (first - (place + size)) size cells)
            ∙ ap (λ (n : ℕ). take (end - first) (drop n cells)) sum);
      }

  -- a position of the row is found by its column
  in_own_row : (number : ℕ) (p : ℕ × ℕ) (cells : List (ColumnCell X)) →
      nat_cmp p.0 number ≡ Equal →
      find position_cmp p (map (row_entry number) cells) ≡ find nat_cmp p.1 (map column_entry cells)
  in_own_row number p [] tied = refl
  in_own_row number p (cell ∷ cells) tied =
      ap (λ (t : Bool). cond t (Some cell.val) (find position_cmp p (map (row_entry number) cells)))
      (tied_row p.0 number p.1 cell.column tied)
      ∙ ap (λ (o : Option X). cond (eq_by_cmp nat_cmp p.1 cell.column) (Some cell.val) o)
      (in_own_row number p cells tied)

  in_other_row : (number : ℕ) (p : ℕ × ℕ) (cells : List (ColumnCell X)) →
      is_eq (nat_cmp p.0 number) ≡ false →
      find position_cmp p (map (row_entry number) cells) ≡ None
  in_other_row number p [] apart = refl
  in_other_row number p (cell ∷ cells) apart =
      ap (λ (t : Bool). cond t (Some cell.val) (find position_cmp p (map (row_entry number) cells)))
      (apart_row (nat_cmp p.0 number) (nat_cmp p.1 cell.column) apart)
      ∙ in_other_row number p cells apart

  passed : (number : ℕ) (p : ℕ × ℕ) (front : List (ColumnCell X)) (back : List ((ℕ × ℕ) × X)) →
      is_eq (nat_cmp p.0 number) ≡ false →
      find position_cmp p (map (row_entry number) front ++ back) ≡ find position_cmp p back
  passed number p front back apart =
      found_in_two position_cmp p (map (row_entry number) front) back
      ∙ ap (λ (o : Option X). option_or o (find position_cmp p back))
      (in_other_row number p front apart)

  -- without the row there is no cell
  pub in_no_row : (p : ℕ × ℕ) (rows : List Row) (cells : List (ColumnCell X)) →
      find nat_cmp p.0 (map row_place rows) ≡ None →
      find position_cmp p (cells_by rows cells) ≡ None
  in_no_row p [] cells none = refl
  in_no_row p (own ∷ rows) cells none =
      let size : ℕ = row_size own.first rows (length cells) in
      let (apart, rest) =
      not_first (is_eq (nat_cmp p.0 own.number)) own.first (find nat_cmp p.0 (map row_place rows))
      none in
      passed own.number p (take size cells) (cells_by rows (drop size cells)) apart
      ∙ in_no_row p rows (drop size cells) rest
    where
      not_first : (test : Bool) (first : ℕ) (o : Option ℕ) → cond test (Some first) o ≡ None →
          (test ≡ false) × (o ≡ None)
      not_first true first o none = (absurd (cc), absurd (cc))
      not_first false first o none = (refl, none)

  or_none : (o : Option X) → option_or o None ≡ o
  or_none None = refl
  or_none (Some v) = refl

  -- a position is found in its row
  pub in_row : (k : ℕ) (p : ℕ × ℕ) (rows : List Row) (cells : List (ColumnCell X)) (d : Row) →
      numbers_rise rows ≡ true → k < length rows → nat_cmp p.0 (get_or rows k d).number ≡ Equal →
      find position_cmp p (cells_by rows cells)
      ≡ find nat_cmp p.1 (map column_entry (cells_of_row k rows cells))
  in_row k p [] cells d rise within at = absurd (omega arith)
  in_row zero p (own ∷ rows) cells d rise within at =
      let (below, rest) =
      and_both (below_all nat_cmp own.number (map row_place rows)) (numbers_rise rows) rise in
      let size : ℕ = row_size own.first rows (length cells) in
      found_in_two position_cmp p (map (row_entry own.number) (take size cells))
      (cells_by rows (drop size cells))
      ∙ (ap (option_or (find position_cmp p (map (row_entry own.number) (take size cells))))
      (in_no_row p rows (drop size cells)
      (none_behind nat_cmp nat_cmp_total p.0 own.number (map row_place rows) at below))
      ∙ (or_none (find position_cmp p (map (row_entry own.number) (take size cells)))
      ∙ in_own_row own.number p (take size cells) at))
  in_row (suc k) p (own ∷ rows) cells d rise within at =
      let (below, rest) =
      and_both (below_all nat_cmp own.number (map row_place rows)) (numbers_rise rows) rise in
      let size : ℕ = row_size own.first rows (length cells) in
      let same : p.0 ≡ (get_or rows k d).number =
      nat_cmp-IsAntisymmetric p.0 (get_or rows k d).number at in
      let less : nat_cmp own.number (get_or rows k d).number ≡ Less =
      number_behind own.number rows k d below (omega arith) in
      let apart : is_eq (nat_cmp p.0 own.number) ≡ false =
      ap (λ (n : ℕ). is_eq (nat_cmp n own.number)) same
      ∙ turned own.number (get_or rows k d).number less in
      passed own.number p (take size cells) (cells_by rows (drop size cells)) apart
      ∙ in_row k p rows (drop size cells) d rest (omega arith) at
    where
      number_behind : (n : ℕ) (rows : List Row) (k : ℕ) (d : Row) →
          below_all nat_cmp n (map row_place rows) ≡ true → k < length rows →
          nat_cmp n (get_or rows k d).number ≡ Less
      number_behind n [] k d below within = absurd (omega arith)
      number_behind n (row ∷ rows) zero d below within =
          less_from _
          (and_both (is_lt (nat_cmp n row.number)) (below_all nat_cmp n (map row_place rows))
          below).0
      number_behind n (row ∷ rows) (suc k) d below within =
          number_behind n rows k d
          (and_both (is_lt (nat_cmp n row.number)) (below_all nat_cmp n (map row_place rows))
          below).1 (omega arith)

      turned : (a b : ℕ) → nat_cmp a b ≡ Less → is_eq (nat_cmp b a) ≡ false
      turned a b less =
          ap is_eq (nat_cmp_total.antisymm b a
          ∙ ap ordering_reverse less)

  -- within a row positions rise as their columns do
  below_by_column : (number column : ℕ) (cells : List (ColumnCell X)) →
      below_all position_cmp (number, column) (map (row_entry number) cells)
      ≡ below_all nat_cmp column (map column_entry cells)
  below_by_column number column [] = refl
  below_by_column number column (cell ∷ cells) =
      ap (λ (o : Ordering). is_lt (ordering_then o (nat_cmp column cell.column))
      && below_all position_cmp (number, column) (map (row_entry number) cells))
      (tied_itself nat_cmp_total number)
      ∙ ap (λ (t : Bool). is_lt (nat_cmp column cell.column) && t)
      (below_by_column number column cells)

  pub rises_by_column : (number : ℕ) (cells : List (ColumnCell X)) →
      is_rising (map (row_entry number) cells) ≡ columns_rise cells
  rises_by_column number [] = refl
  rises_by_column number (cell ∷ cells) =
      ap (λ (t : Bool). t && is_rising (map (row_entry number) cells))
      (below_by_column number cell.column cells)
      ∙ ap (λ (t : Bool). below_all nat_cmp cell.column (map column_entry cells) && t)
      (rises_by_column number cells)

  pub part_rises : (k : ℕ) (rows : List Row) (cells : List (ColumnCell X)) →
      is_rising (cells_by rows cells) ≡ true → columns_rise (cells_of_row k rows cells) ≡ true
  part_rises k [] cells rising = refl
  part_rises zero (own ∷ rows) cells rising =
      let size : ℕ = row_size own.first rows (length cells) in
      sym (rises_by_column own.number (take size cells))
      ∙ (sorted_parts position_cmp (map (row_entry own.number) (take size cells))
      (cells_by rows (drop size cells)) rising).0
  part_rises (suc k) (own ∷ rows) cells rising =
      let size : ℕ = row_size own.first rows (length cells) in
      part_rises k rows (drop size cells)
      (sorted_parts position_cmp (map (row_entry own.number) (take size cells))
      (cells_by rows (drop size cells)) rising).1

-- the cells of a row, by the places that the code reads
pub record RowPart {X : Type 0} (k : ℕ) (rows : List Row) (cells : List (ColumnCell X))
    (first end : ℕ) : Type 0 where
  pub rises : first < end
  pub within : end ≤ length cells
  pub is : cells_of_row k rows cells ≡ take (end - first) (drop first cells)

pub row_part : {X : Type 0} (k : ℕ) (rows : List Row) (cells : List (ColumnCell X)) (row : Row)
    (end : ℕ) → are_rows 0 rows (length cells) ≡ true → k < length rows → row ≡ get_or rows k row →
    end ≡ rows_end (drop (k + 1) rows) (length cells) → RowPart k rows cells row.first end
row_part {X} k rows cells row end are within is ends =
    let behind : rows_end (drop (suc k) rows) (0 + length cells) ≡ end =
    ap (λ (n : ℕ). rows_end (drop n rows) (0 + length cells)) (sym (add-one k))
    ∙ (ap (rows_end (drop (k + 1) rows)) (zero-add (length cells)) ∙ sym ends) in
    let part : IsPart 0 k rows cells row.first end =
    subst (λ (n : ℕ). IsPart 0 k rows cells row.first n) behind
    (subst (λ (r : Row). IsPart 0 k rows cells r.first
    (rows_end (drop (suc k) rows) (0 + length cells))) (sym is)
    (part_at 0 k rows cells row are within)) in
    let from : row.first - 0 ≡ row.first = omega arith in
    record {
      rises = part.rises;
      within = omega (arith, part.within);
      is = part.is ∙ ap (λ (n : ℕ). take (end - row.first) (drop n cells)) from;
    }

-- what a binary search for the number of a row says of a position
pub found_in_row : {X : Type 0} (p : ℕ × ℕ) (rows seen : List Row) (cells : List (ColumnCell X))
    (k : ℕ) → seen ≡ rows → numbers_rise rows ≡ true → k < length seen →
    ((d : Row) → nat_cmp (get_or seen k d).number p.0 ≡ Equal) →
    find position_cmp p (cells_by rows cells)
    ≡ find nat_cmp p.1 (map column_entry (cells_of_row k rows cells))
found_in_row p rows seen cells k same rise within at =
    let d : Row = record { number = 0; first = 0 } in
    let number : (get_or seen k d).number ≡ p.0 =
    nat_cmp-IsAntisymmetric (get_or seen k d).number p.0 (at d) in
    let tied : nat_cmp p.0 (get_or seen k d).number ≡ Equal =
    ap (nat_cmp p.0) number ∙ tied_itself nat_cmp_total p.0 in
    in_row k p rows cells d rise (subst (λ (rs : List Row). k < length rs) same within)
    (subst (λ (rs : List Row). nat_cmp p.0 (get_or rs k d).number ≡ Equal) same tied)

pub found_in_no_row : {X : Type 0} (p : ℕ × ℕ) (rows seen : List Row) (cells : List (ColumnCell X))
    (place : ℕ) → seen ≡ rows → numbers_rise rows ≡ true →
    IsBinarySearchResult (λ (row : Row). nat_cmp row.number p.0) seen (Err place) →
    find position_cmp p (cells_by rows cells) ≡ None
found_in_no_row p rows seen cells place same rise parted =
    in_no_row p rows cells
    (not_searched nat_cmp nat_cmp_total nat_cmp-IsAntisymmetric row_place p.0 rows place rise
    (subst (λ (rs : List Row).
    IsBinarySearchResult (λ (row : Row). nat_cmp row.number p.0) rs (Err place)) same parted))
