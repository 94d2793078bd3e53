-- A cell that is put behind the others.
use Rattle.std.proofs.Common.{◌≡◌, ℕ, ◌+◌, ◌-◌, ◌≤◌, ◌<◌, Bool, true, false, cond, List, [], ◌∷◌}
use Rattle.std.proofs.Common.{◌++◌, length, map, take, drop, Some, None, Option, refl, sym, ◌∙◌, ap}
use Rattle.std.proofs.Common.{subst, arith}
use Rattle.std.specs.Prelude.{◌&&◌, ◌==◌, nat_le, nat_lt}
use Rattle.std.specs.declared.cmp.Ordering.{Ordering}
use Rattle.std.specs.declared.cmp.Ordering.TheVariants.{Less, Equal, Greater}
use Rattle.std.specs.FinMap.{is_sorted, nat_cmp-IsAntisymmetric}
use Rattle.std.specs.Ordering.{nat_cmp, ordering_then, is_lt}
use Rattle.std.proofs.Math.Seq.{take-length}
use Rattle.std.proofs.lemmas.Bool.Decides.{nat_tests}
use Rattle.std.proofs.lemmas.Cmp.{nat_cmp_total}
use Rattle.std.proofs.lemmas.List.{map-append, take-append-le, drop-append-le, append_assoc}
use Rattle.std.proofs.lemmas.List.{length-drop, length-map, length-append, length-take-le}
use Rattle.std.proofs.lemmas.List.{append-nil, length_push, take_at, drop_at}
use Rattle.cell_refs.specs.Words.{position_cmp, is_rising}
use Rattle.sorted_cells.specs.declared.row.Row.{Row}
use Rattle.sorted_cells.specs.declared.row.ColumnCell.{ColumnCell}
use Rattle.sorted_cells.specs.Last.{last_key, comes_after}
use Rattle.sorted_cells.specs.Rows.{row_entry, row_size, cells_by, are_rows, row_place}
use Rattle.sorted_cells.specs.Rows.{numbers_rise, is_last, with_row}
use Rattle.sorted_cells.proofs.Orders.{last_push, last_append, sorted_push}
use Rattle.cell_refs.proofs.PositionOrder.{and_both, and_from, position_total}

-- rows that share so many cells: the first begins at the place and has a cell, but no more than
-- there are, and the others share the rest
pub record Shared (place : ℕ) (own : Row) (rows : List Row) (left : ℕ) : Type 0 where
  pub first : own.first ≡ place
  pub filled : 0 < row_size own.first rows left
  pub within : row_size own.first rows left ≤ left
  pub others :
      are_rows (place + row_size own.first rows left) rows (left - row_size own.first rows left)
      ≡ true

pub shared : (place : ℕ) (own : Row) (rows : List Row) (left : ℕ) →
    are_rows place (own ∷ rows) left ≡ true → Shared place own rows left
shared place own rows left are =
    let size = row_size own.first rows left in
    let (begins, fits) =
    and_both ((own.first == place) && nat_lt 0 size)
    (nat_le size left && are_rows (place + size) rows (left - size)) are in
    let (first, filled) = and_both (own.first == place) (nat_lt 0 size) begins in
    let (within, others) =
    and_both (nat_le size left) (are_rows (place + size) rows (left - size)) fits in
    record {
      first = grind (arith, nat_tests, first);
      filled = grind (arith, nat_tests, filled);
      within = grind (arith, nat_tests, within);
      others = others;
    }

pub share : (place : ℕ) (own : Row) (rows : List Row) (left : ℕ) → Shared place own rows left →
    are_rows place (own ∷ rows) left ≡ true
share place own rows left are =
    let size = row_size own.first rows left in
    let first : (own.first == place) ≡ true = grind (arith, nat_tests, are.first) in
    let filled : nat_lt 0 size ≡ true = grind (arith, nat_tests, are.filled) in
    let within : nat_le size left ≡ true = grind (arith, nat_tests, are.within) in
    and_from ((own.first == place) && nat_lt 0 size)
    (nat_le size left && are_rows (place + size) rows (left - size))
    (and_from (own.first == place) (nat_lt 0 size) first filled)
    (and_from (nat_le size left) (are_rows (place + size) rows (left - size)) within are.others)

-- the rest of the rows share the rest of the cells
pub rest_shared : {X : Type 0} (place : ℕ) (own : Row) (rows : List Row)
    (cells : List (ColumnCell X)) → Shared place own rows (length cells) →
    are_rows (place + row_size own.first rows (length cells)) rows
    (length (drop (row_size own.first rows (length cells)) cells)) ≡ true
rest_shared place own rows cells are =
    let size : ℕ = row_size own.first rows (length cells) in
    subst (λ (left : ℕ). are_rows (place + size) rows left ≡ true)
    (sym (length-drop size cells)) are.others

-- without rows there are no cells
pub no_left : (place left : ℕ) → are_rows place [] left ≡ true → left ≡ 0
no_left place left are = grind (arith, nat_tests, are)

module _ {X : Type 0} where
  -- each cell is that of a row
  pub counted : (place : ℕ) (rows : List Row) (cells : List (ColumnCell X)) →
      are_rows place rows (length cells) ≡ true → length (cells_by rows cells) ≡ length cells
  counted place [] cells are = sym (no_left place (length cells) are)
  counted place (own ∷ rows) cells are =
      let size : ℕ = row_size own.first rows (length cells) in
      let all = shared place own rows (length cells) are in
      let front : length (map (row_entry own.number) (take size cells)) ≡ size =
      length-map (take size cells) (row_entry own.number) ∙ length-take-le size cells all.within in
      let back : length (cells_by rows (drop size cells)) ≡ length (drop size cells) =
      counted (place + size) rows (drop size cells) (rest_shared place own rows cells all) in
      let within : size ≤ length cells = all.within in
      let dropped : length (drop size cells) ≡ length cells - size = length-drop size cells in
      length-append (map (row_entry own.number) (take size cells)) (cells_by rows (drop size cells))
      ∙ omega (arith, front, back, within, dropped)

  with_last : (own : Row) (cells : List (ColumnCell X)) (cell : ColumnCell X) →
      cells_by (own ∷ []) (cells ++ cell ∷ [])
      ≡ cells_by (own ∷ []) cells ++ row_entry own.number cell ∷ []
  with_last own cells cell =
      ap (λ (taken : List (ColumnCell X)). map (row_entry own.number) taken ++ [])
      (take-length (cells ++ cell ∷ []))
      ∙ (append-nil (map (row_entry own.number) (cells ++ cell ∷ []))
      ∙ (map-append (row_entry own.number) cells (cell ∷ [])
      ∙ (ap (λ (taken : List (ColumnCell X)). map (row_entry own.number) taken
      ++ row_entry own.number cell ∷ []) (sym (take-length cells))
      ∙ ap (λ (all : List ((ℕ × ℕ) × X)). all ++ row_entry own.number cell ∷ [])
      (sym (append-nil (map (row_entry own.number) (take (length cells) cells)))))))

  -- a cell more behind the first row, where the rest has it
  behind_first : (size number : ℕ) (rows all : List Row) (cells : List (ColumnCell X))
      (cell : ColumnCell X) (entry : (ℕ × ℕ) × X) → size ≤ length cells →
      cells_by all (drop size cells ++ cell ∷ []) ≡ cells_by rows (drop size cells) ++ entry ∷ [] →
      map (row_entry number) (take size (cells ++ cell ∷ []))
      ++ cells_by all (drop size (cells ++ cell ∷ []))
      ≡ map (row_entry number) (take size cells) ++ cells_by rows (drop size cells) ++ entry ∷ []
  behind_first size number rows all cells cell entry within rest =
      ap (λ (taken : List (ColumnCell X)). map (row_entry number) taken
      ++ cells_by all (drop size (cells ++ cell ∷ [])))
      (take-append-le size cells (cell ∷ []) within)
      ∙ (ap (λ (left : List (ColumnCell X)). map (row_entry number) (take size cells)
      ++ cells_by all left) (drop-append-le size cells (cell ∷ []) within)
      ∙ (ap (λ (more : List ((ℕ × ℕ) × X)). map (row_entry number) (take size cells) ++ more) rest
      ∙ sym (append_assoc (map (row_entry number) (take size cells))
      (cells_by rows (drop size cells)) (entry ∷ []))))

  -- a cell more in the last row
  pushed : (place number : ℕ) (rows : List Row) (cells : List (ColumnCell X))
      (cell : ColumnCell X) → are_rows place rows (length cells) ≡ true →
      is_last number rows ≡ true →
      cells_by rows (cells ++ cell ∷ []) ≡ cells_by rows cells ++ row_entry number cell ∷ []
  pushed place number [] cells cell are last = absurd (cc)
  pushed place number (own ∷ []) cells cell are last =
      let same : own.number ≡ number = grind (arith, nat_tests, last) in
      subst (λ (n : ℕ). cells_by (own ∷ []) (cells ++ cell ∷ [])
      ≡ cells_by (own ∷ []) cells ++ row_entry n cell ∷ []) same (with_last own cells cell)
  pushed place number (own ∷ next ∷ rows) cells cell are last =
      let size : ℕ = next.first - own.first in
      let all = shared place own (next ∷ rows) (length cells) are in
      behind_first size own.number (next ∷ rows) (next ∷ rows) cells cell (row_entry number cell)
      all.within
      (pushed (place + size) number (next ∷ rows) (drop size cells) cell
      (rest_shared place own (next ∷ rows) cells all) last)

  -- the first cell of a row behind the others
  started : (place : ℕ) (rows : List Row) (new : Row) (cells : List (ColumnCell X))
      (cell : ColumnCell X) → are_rows place rows (length cells) ≡ true →
      new.first ≡ place + length cells →
      cells_by (rows ++ new ∷ []) (cells ++ cell ∷ [])
      ≡ cells_by rows cells ++ row_entry new.number cell ∷ []
  started place [] new [] cell are first = refl
  started place [] new (other ∷ cells) cell are first =
      absurd (omega (arith, no_left place (length (other ∷ cells)) are))
  started place (own ∷ []) new cells cell are first =
      let all = shared place own [] (length cells) are in
      let size : new.first - own.first ≡ length cells = omega (arith, first, all.first) in
      let tail : cells_by (new ∷ []) (cell ∷ []) ≡ row_entry new.number cell ∷ [] = refl in
      ap (λ (n : ℕ). map (row_entry own.number) (take n (cells ++ cell ∷ []))
      ++ cells_by (new ∷ []) (drop n (cells ++ cell ∷ []))) size
      ∙ (ap (λ (taken : List (ColumnCell X)). map (row_entry own.number) taken
      ++ cells_by (new ∷ []) (drop (length cells) (cells ++ cell ∷ [])))
      (take_at cells (cell ∷ []) (length cells) refl)
      ∙ (ap (λ (left : List (ColumnCell X)). map (row_entry own.number) cells
      ++ cells_by (new ∷ []) left) (drop_at cells (cell ∷ []) (length cells) refl)
      ∙ (ap (λ (taken : List (ColumnCell X)). map (row_entry own.number) taken
      ++ row_entry new.number cell ∷ []) (sym (take-length cells))
      ∙ ap (λ (front : List ((ℕ × ℕ) × X)). front ++ row_entry new.number cell ∷ [])
      (sym (append-nil (map (row_entry own.number) (take (length cells) cells)))))))
  started place (own ∷ next ∷ rows) new cells cell are first =
      let size : ℕ = next.first - own.first in
      let all = shared place own (next ∷ rows) (length cells) are in
      let within : size ≤ length cells = all.within in
      behind_first size own.number (next ∷ rows) (next ∷ rows ++ new ∷ []) cells cell
      (row_entry new.number cell) within
      (started (place + size) (next ∷ rows) new (drop size cells) cell
      (rest_shared place own (next ∷ rows) cells all)
      (omega (arith, first, length-drop size cells, within)))

-- the rows of one cell more
still_rows : (place number left : ℕ) (rows : List Row) → are_rows place rows left ≡ true →
    is_last number rows ≡ true → are_rows place rows (left + 1) ≡ true
still_rows place number left [] are last = absurd (cc)
still_rows place number left (own ∷ []) are last =
    let all = shared place own [] left are in
    let none : are_rows (place + (left + 1)) [] (left + 1 - (left + 1)) ≡ true =
    grind (arith, nat_tests) in
    share place own [] (left + 1) (record {
      first = all.first;
      filled = omega arith;
      within = omega arith;
      others = none;
    })
still_rows place number left (own ∷ next ∷ rows) are last =
    let size : ℕ = next.first - own.first in
    let all = shared place own (next ∷ rows) left are in
    let within : size ≤ left = all.within in
    let more : left - size + 1 ≡ left + 1 - size = omega (arith, within) in
    share place own (next ∷ rows) (left + 1) (record {
      first = all.first;
      filled = all.filled;
      within = omega (arith, within);
      others = subst (λ (n : ℕ). are_rows (place + size) (next ∷ rows) n ≡ true) more
          (still_rows (place + size) number (left - size) (next ∷ rows) all.others last);
    })

one_row : (place : ℕ) (new : Row) → new.first ≡ place → are_rows place (new ∷ []) 1 ≡ true
one_row place new first =
    let none : are_rows (place + 1) [] (1 - 1) ≡ true = grind (arith, nat_tests) in
    share place new [] 1
    (record { first = first; filled = omega arith; within = omega arith; others = none })

-- the same rows, and one behind all cells, with the one cell more
started_rows : (place left : ℕ) (rows : List Row) (new : Row) → are_rows place rows left ≡ true →
    new.first ≡ place + left → are_rows place (rows ++ new ∷ []) (left + 1) ≡ true
started_rows place left [] new are first =
    let none : left ≡ 0 = no_left place left are in
    let one : 1 ≡ left + 1 = omega (arith, none) in
    subst (λ (n : ℕ). are_rows place (new ∷ []) n ≡ true) one
    (one_row place new (omega (arith, none, first)))
started_rows place left (own ∷ []) new are first =
    let all = shared place own [] left are in
    let size : ℕ = new.first - own.first in
    let is : size ≡ left = omega (arith, first, all.first) in
    let filled : 0 < left = all.filled in
    let one : 1 ≡ left + 1 - size = omega (arith, is) in
    share place own (new ∷ []) (left + 1) (record {
      first = all.first;
      filled = omega (arith, is, filled);
      within = omega (arith, is);
      others = subst (λ (n : ℕ). are_rows (place + size) (new ∷ []) n ≡ true) one
          (one_row (place + size) new (omega (arith, is, first)));
    })
started_rows place left (own ∷ next ∷ rows) new are first =
    let size : ℕ = next.first - own.first in
    let all = shared place own (next ∷ rows) left are in
    let within : size ≤ left = all.within in
    let more : left - size + 1 ≡ left + 1 - size = omega (arith, within) in
    share place own (next ∷ rows ++ new ∷ []) (left + 1) (record {
      first = all.first;
      filled = all.filled;
      within = omega (arith, within);
      others = subst (λ (n : ℕ). are_rows (place + size) (next ∷ rows ++ new ∷ []) n ≡ true) more
          (started_rows (place + size) (left - size) (next ∷ rows) new all.others
          (omega (arith, first, within)));
    })

pub last_is : (number : ℕ) (rows : List Row) (own : Row) →
    is_last number (rows ++ own ∷ []) ≡ (own.number == number)
last_is number [] own = refl
last_is number (first ∷ []) own = refl
last_is number (first ∷ next ∷ rows) own = last_is number (next ∷ rows) own

-- the position of the last cell
pub last_in : {X : Type 0} (place : ℕ) (rows : List Row) (own : Row)
    (cells : List (ColumnCell X)) (cell : ColumnCell X) →
    are_rows place (rows ++ own ∷ []) (length (cells ++ cell ∷ [])) ≡ true →
    last_key (cells_by (rows ++ own ∷ []) (cells ++ cell ∷ [])) ≡ Some (own.number, cell.column)
last_in place [] own cells cell are =
    ap last_key (with_last own cells cell)
    ∙ last_push (cells_by (own ∷ []) cells) (row_entry own.number cell)
last_in {X} place (first ∷ rows) own cells cell are =
    let all = shared place first (rows ++ own ∷ []) (length (cells ++ cell ∷ [])) are in
    let size : ℕ = row_size first.first (rows ++ own ∷ []) (length (cells ++ cell ∷ [])) in
    let behind = rest_shared place first (rows ++ own ∷ []) (cells ++ cell ∷ []) all in
    let within : size ≤ length cells =
    some_left (place + size) rows own size (length cells)
    (subst (λ (left : ℕ). are_rows (place + size) (rows ++ own ∷ []) (left - size) ≡ true)
    (length_push cells cell) all.others) in
    let split : drop size (cells ++ cell ∷ []) ≡ drop size cells ++ cell ∷ [] =
    drop-append-le size cells (cell ∷ []) within in
    last_append
    (map (row_entry first.number) (take size (cells ++ cell ∷ [])))
    (cells_by (rows ++ own ∷ []) (drop size (cells ++ cell ∷ []))) (own.number, cell.column)
    (ap (λ (left : List (ColumnCell X)). last_key (cells_by (rows ++ own ∷ []) left)) split
    ∙ last_in (place + size) rows own (drop size cells) cell
    (subst (λ (left : List (ColumnCell X)). are_rows (place + size) (rows ++ own ∷ []) (length left)
    ≡ true) split behind))
  where
    some_left : (place : ℕ) (rows : List Row) (own : Row) (size left : ℕ) →
        are_rows place (rows ++ own ∷ []) (left + 1 - size) ≡ true → size ≤ left
    some_left place [] own size left are =
        let all = shared place own [] (left + 1 - size) are in
        omega (arith, all.filled)
    some_left place (first ∷ rows) own size left are =
        let all = shared place first (rows ++ own ∷ []) (left + 1 - size) are in
        omega (arith, all.filled, all.within)

pub last_found : {X : Type 0} (rows before : List Row) (own : Row)
    (cells front : List (ColumnCell X)) (cell : ColumnCell X) → rows ≡ before ++ own ∷ [] →
    cells ≡ front ++ cell ∷ [] → are_rows 0 rows (length cells) ≡ true →
    last_key (cells_by rows cells) ≡ Some (own.number, cell.column)
last_found {X} rows before own cells front cell rows_are cells_are are =
    ap (λ (all : List Row). last_key (cells_by all cells)) rows_are
    ∙ (ap (λ (all : List (ColumnCell X)). last_key (cells_by (before ++ own ∷ []) all)) cells_are
    ∙ last_in 0 before own front cell
    (subst (λ (all : List (ColumnCell X)). are_rows 0 (before ++ own ∷ []) (length all) ≡ true)
    cells_are
    (subst (λ (all : List Row). are_rows 0 all (length cells) ≡ true) rows_are are)))

pub none_last : {X : Type 0} (rows : List Row) (cells : List (ColumnCell X)) →
    length cells ≡ 0 → are_rows 0 rows (length cells) ≡ true →
    last_key (cells_by rows cells) ≡ None
none_last [] cells none are = refl
none_last (own ∷ rows) cells none are =
    let all = shared 0 own rows (length cells) are in
    absurd (omega (arith, none, all.filled, all.within))

snoc : {A : Type 0} (x : A) (xs : List A) →
    (front : List A) × (last : A) × (x ∷ xs ≡ front ++ last ∷ [])
snoc x [] = ([], x, refl)
snoc {A} x (y ∷ xs) =
    let (front, last, is) = snoc y xs in
    (x ∷ front, last, ap (λ (all : List A). x ∷ all) is)

less_row : (a b c d : ℕ) → is_lt (position_cmp (a, c) (b, d)) ≡ true → (a == b) ≡ false →
    is_lt (nat_cmp a b) ≡ true
less_row a b c d less apart = by (nat_cmp a b) refl
  where
    by : (o : Ordering) → nat_cmp a b ≡ o → is_lt (nat_cmp a b) ≡ true
    by Less is = ap is_lt is
    by Equal is =
        let same : a ≡ b = nat_cmp-IsAntisymmetric a b is in
        absurd (grind (arith, nat_tests, same, apart))
    by Greater is =
        let more : is_lt (ordering_then Greater (nat_cmp c d)) ≡ true =
        subst (λ (o : Ordering). is_lt (ordering_then o (nat_cmp c d)) ≡ true) is less in
        absurd (cc)

-- the number of a position behind the last one is greater than that of the last row, where it is
-- another
number_after : {X : Type 0} (rows : List Row) (cells : List (ColumnCell X)) (number column : ℕ) →
    are_rows 0 rows (length cells) ≡ true → is_last number rows ≡ false →
    comes_after position_cmp (last_key (cells_by rows cells)) (number, column) ≡ true →
    comes_after nat_cmp (last_key (map row_place rows)) number ≡ true
number_after [] cells number column are apart after = refl
number_after (own ∷ rows) [] number column are apart after =
    let all = shared 0 own rows 0 are in
    absurd (omega (arith, all.filled, all.within))
number_after {X} (own ∷ rows) (cell ∷ cells) number column are apart after =
    let (before, row, rows_are) = snoc own rows in
    let (front, last, cells_are) = snoc cell cells in
    let at : last_key (cells_by (own ∷ rows) (cell ∷ cells)) ≡ Some (row.number, last.column) =
    last_found (own ∷ rows) before row (cell ∷ cells) front last rows_are cells_are are in
    let less : is_lt (position_cmp (row.number, last.column) (number, column)) ≡ true =
    subst (λ (k : Option (ℕ × ℕ)). comes_after position_cmp k (number, column) ≡ true) at after in
    let other : (row.number == number) ≡ false =
    sym (last_is number before row) ∙ (sym (ap (is_last number) rows_are) ∙ apart) in
    let place : last_key (map row_place (own ∷ rows)) ≡ Some row.number =
    ap (λ (all : List Row). last_key (map row_place all)) rows_are
    ∙ (ap last_key (map-append row_place before (row ∷ []))
    ∙ last_push (map row_place before) (row_place row)) in
    ap (λ (k : Option ℕ). comes_after nat_cmp k number) place
    ∙ less_row row.number number last.column column less other

-- what is known of rows and their cells
pub record AreKept {X : Type 0} (rows : List Row) (cells : List (ColumnCell X)) : Type 0 where
  pub shared : are_rows 0 rows (length cells) ≡ true
  pub numbers : numbers_rise rows ≡ true
  pub rising : is_rising (cells_by rows cells) ≡ true

-- rows and cells with one entry more
pub record ArePushed {X : Type 0} (rows all : List Row) (cells more : List (ColumnCell X))
    (entry : (ℕ × ℕ) × X) : Type 0 where
  pub kept : AreKept all more
  pub is : cells_by all more ≡ cells_by rows cells ++ entry ∷ []

module _ {X : Type 0} (rows : List Row) (cells : List (ColumnCell X)) (number : ℕ)
    (cell : ColumnCell X) where
  with_cell : (all : List Row) → AreKept rows cells →
      comes_after position_cmp (last_key (cells_by rows cells)) (number, cell.column) ≡ true →
      are_rows 0 all (length cells + 1) ≡ true → numbers_rise all ≡ true →
      cells_by all (cells ++ cell ∷ []) ≡ cells_by rows cells ++ row_entry number cell ∷ [] →
      ArePushed rows all cells (cells ++ cell ∷ []) (row_entry number cell)
  with_cell all kept after are rise is = record {
    kept = record {
      shared = subst (λ (n : ℕ). are_rows 0 all n ≡ true) (sym (length_push cells cell)) are;
      numbers = rise;
      rising = ap is_rising is
          ∙ sorted_push position_cmp position_total (cells_by rows cells) (number, cell.column)
          cell.val kept.rising after;
    };
    is = is;
  }

  put_behind : (new : Row) (test : Bool) → new.number ≡ number → new.first ≡ length cells →
      AreKept rows cells →
      comes_after position_cmp (last_key (cells_by rows cells)) (number, cell.column) ≡ true →
      is_last number rows ≡ test →
      ArePushed rows (cond test rows (rows ++ new ∷ [])) cells (cells ++ cell ∷ [])
      (row_entry number cell)
  put_behind new true own first kept after last =
      with_cell rows kept after (still_rows 0 number (length cells) rows kept.shared last)
      kept.numbers (pushed 0 number rows cells cell kept.shared last)
  put_behind new false own first kept after last =
      let behind : new.first ≡ 0 + length cells = omega (arith, first) in
      let next : comes_after nat_cmp (last_key (map row_place rows)) new.number ≡ true =
      ap (λ (n : ℕ). comes_after nat_cmp (last_key (map row_place rows)) n) own
      ∙ number_after rows cells number cell.column kept.shared last after in
      with_cell (rows ++ new ∷ []) kept after
      (started_rows 0 (length cells) rows new kept.shared behind)
      (ap (is_sorted nat_cmp) (map-append row_place rows (new ∷ []))
      ∙ sorted_push nat_cmp nat_cmp_total (map row_place rows) new.number new.first kept.numbers
      next)
      (started 0 rows new cells cell kept.shared behind
      ∙ ap (λ (n : ℕ). cells_by rows cells ++ row_entry n cell ∷ []) own)

  -- the last row has the number of the cell, or the row that is put behind it
  pub put_with_row : (all : List Row) (more : List (ColumnCell X)) → AreKept rows cells →
      comes_after position_cmp (last_key (cells_by rows cells)) (number, cell.column) ≡ true →
      all ≡ with_row number (length cells) rows → more ≡ cells ++ cell ∷ [] →
      ArePushed rows all cells more (row_entry number cell)
  put_with_row all more kept after all_is more_is =
      let put : ArePushed rows (with_row number (length cells) rows) cells (cells ++ cell ∷ [])
      (row_entry number cell) =
      put_behind (record { number = number; first = length cells }) (is_last number rows) refl refl
      kept after refl in
      subst (λ (r : List Row). ArePushed rows r cells more (row_entry number cell)) (sym all_is)
      (subst (λ (cs : List (ColumnCell X)). ArePushed rows (with_row number (length cells) rows)
      cells cs (row_entry number cell)) (sym more_is) put)
