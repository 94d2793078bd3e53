-- Rows that are cut in two, with their cells.
use Rattle.std.proofs.Common.{◌≡◌, ℕ, zero, suc, ◌+◌, ◌-◌, ◌<◌, ◌≤◌, Bool, true, false, cond, List}
use Rattle.std.proofs.Common.{[], ◌∷◌, ◌++◌, length, map, take, drop, get_or, min, refl, sym, ap}
use Rattle.std.proofs.Common.{◌∙◌, subst, arith, zero-add, inl, inr}
use Rattle.std.specs.Prelude.{nat_le, nat_lt}
use Rattle.std.specs.FinMap.{is_sorted, nat_cmp-IsAntisymmetric}
use Rattle.std.specs.List.{filter}
use Rattle.std.specs.Ordering.{nat_cmp}
use Rattle.std.specs.declared.cmp.Ordering.TheVariants.{Less}
use Rattle.std.proofs.lemmas.Bool.{cases_lt}
use Rattle.std.proofs.lemmas.Bool.Decides.{nat_tests}
use Rattle.std.proofs.lemmas.Cmp.{nat_cmp_total}
use Rattle.std.proofs.lemmas.List.{take-take, drop-take, drop-drop, length-take-le, length-drop}
use Rattle.std.proofs.lemmas.List.{append_assoc, append-nil, get_or-take, get_or-drop}
use Rattle.std.proofs.lemmas.List.{take-append-drop, map-append, length-take}
use Rattle.std.proofs.lemmas.List.Elements.{filter-append}
use Rattle.std.specs.List.Sorted.{IsPartitionedBy, IsPartitionPoint}
use Rattle.sorted_cells.specs.declared.row.Row.{Row}
use Rattle.sorted_cells.specs.declared.row.ColumnCell.{ColumnCell}
use Rattle.sorted_cells.specs.Cut.{AreLeft}
use Rattle.sorted_cells.specs.Rows.{row_entry, row_size, cells_by, are_rows, row_place}
use Rattle.sorted_cells.specs.Rows.{numbers_rise, rows_end, first_of_rows}
use Rattle.sorted_cells.proofs.Finding.{rising_at}
use Rattle.sorted_cells.proofs.Orders.{sorted_parts}
use Rattle.sorted_cells.proofs.Pushing.{Shared, shared, share, rest_shared, no_left}

-- the first rows with the first cells, and the other rows with the other cells
pub record IsCut {X : Type 0} (place k : ℕ) (rows : List Row) (cells : List (ColumnCell X))
    (end size : ℕ) : Type 0 where
  pub ends : place + size ≡ end
  pub within : size ≤ length cells
  pub front : are_rows place (take k rows) (length (take size cells)) ≡ true
  pub back : are_rows end (drop k rows) (length (drop size cells)) ≡ true
  pub is :
      cells_by rows cells
      ≡ cells_by (take k rows) (take size cells) ++ cells_by (drop k rows) (drop size cells)

-- the first rows begin as before
size_cut : (own : Row) (rows : List Row) (left k place size others : ℕ) →
    row_size own.first rows left ≡ size → are_rows place (take k rows) others ≡ true →
    row_size own.first (take k rows) (size + others) ≡ size
size_cut own rows left zero place size others is are =
    let none : others ≡ 0 = no_left place others are in
    omega (arith, none)
size_cut own [] left (suc k) place size others is are =
    let none : others ≡ 0 = no_left place others are in
    omega (arith, none)
size_cut own (next ∷ rows) left (suc k) place size others is are = is

pub placed_first : (place : ℕ) (rows : List Row) (left : ℕ) → are_rows place rows left ≡ true →
    are_rows (first_of_rows rows) rows left ≡ true
placed_first place [] left are = are
placed_first place (own ∷ rows) left are =
    let all = shared place own rows left are in
    subst (λ (n : ℕ). are_rows n (own ∷ rows) left ≡ true) (sym all.first) are

first_end : (place : ℕ) (rows : List Row) (left : ℕ) → are_rows place rows left ≡ true →
    rows_end rows (place + left) ≡ place
first_end place [] left are =
    let none : left ≡ 0 = no_left place left are in
    omega (arith, none)
first_end place (own ∷ rows) left are = (shared place own rows left are).first

-- a place among the first rows
taken_place : (i k : ℕ) (rows : List Row) → i < length (take k rows) → (i < k) × (i < length rows)
taken_place i k rows within =
    let count : length (take k rows) ≡ min k (length rows) = length-take k rows in
    (omega arith, omega arith)

module _ {X : Type 0} where
  cut_none : (place : ℕ) (rows : List Row) (cells : List (ColumnCell X)) (end : ℕ) →
      are_rows place rows (length cells) ≡ true → end ≡ place → IsCut place 0 rows cells end 0
  cut_none place rows cells end are same = record {
    ends = omega (arith, same);
    within = omega arith;
    front = refl;
    back = subst (λ (n : ℕ). are_rows n rows (length cells) ≡ true) (sym same) are;
    is = refl;
  }

  -- the first row before those that are cut
  cut_one : (place k : ℕ) (own : Row) (rows : List Row) (cells : List (ColumnCell X))
      (end size others : ℕ) → Shared place own rows (length cells) →
      row_size own.first rows (length cells) ≡ size →
      IsCut (place + size) k rows (drop size cells) end others →
      IsCut place (suc k) (own ∷ rows) cells end (size + others)
  cut_one place k own rows cells end size others all is cut =
      let inside : size ≤ length cells = subst (λ (n : ℕ). n ≤ length cells) is all.within in
      let left : length (drop size cells) ≡ length cells - size = length-drop size cells in
      let fits : size + others ≤ length cells = omega (arith, inside, cut.within, left) in
      let taken : List (ColumnCell X) = take (size + others) cells in
      let count : length taken ≡ size + others = length-take-le (size + others) cells fits in
      let behind : length (take others (drop size cells)) ≡ others =
      length-take-le others (drop size cells) cut.within in
      let front : are_rows (place + size) (take k rows) others ≡ true =
      subst (λ (n : ℕ). are_rows (place + size) (take k rows) n ≡ true) behind cut.front in
      let same : row_size own.first (take k rows) (size + others) ≡ size =
      size_cut own rows (length cells) k (place + size) size others is front in
      let filled : 0 < size = subst (λ (n : ℕ). 0 < n) is all.filled in
      let row : row_size own.first (take k rows) (length taken) ≡ size =
      ap (row_size own.first (take k rows)) count ∙ same in
      record {
        ends = omega (arith, cut.ends);
        within = fits;
        front =
            subst (λ (n : ℕ). are_rows place (own ∷ take k rows) n ≡ true) (sym count)
            (share place own (take k rows) (size + others) (record {
              first = all.first;
              filled = subst (λ (n : ℕ). 0 < n) (sym same) filled;
              within = omega (arith, same);
              others =
                  subst (λ (n : ℕ). are_rows (place + n) (take k rows) (size + others - n) ≡ true)
                  (sym same)
                  (subst (λ (n : ℕ). are_rows (place + size) (take k rows) n ≡ true)
                  (omega arith) front);
            }));
        back =
            subst (λ (cs : List (ColumnCell X)). are_rows end (drop k rows) (length cs) ≡ true)
            (drop-drop others size cells) cut.back;
        is = whole row;
      }
    where
      whole : row_size own.first (take k rows) (length (take (size + others) cells)) ≡ size →
          cells_by (own ∷ rows) cells
          ≡ cells_by (own ∷ take k rows) (take (size + others) cells)
          ++ cells_by (drop k rows) (drop (size + others) cells)
      whole row =
          ap (λ (n : ℕ). map (row_entry own.number) (take n cells) ++ cells_by rows (drop n cells))
          is
          ∙ (ap (λ (es : List ((ℕ × ℕ) × X)). map (row_entry own.number) (take size cells) ++ es)
          cut.is
          ∙ (sym (append_assoc (map (row_entry own.number) (take size cells))
          (cells_by (take k rows) (take others (drop size cells)))
          (cells_by (drop k rows) (drop others (drop size cells))))
          ∙ (ap (λ (cs : List (ColumnCell X)). map (row_entry own.number) (take size cells)
          ++ cells_by (take k rows) (take others (drop size cells)) ++ cells_by (drop k rows) cs)
          (drop-drop others size cells)
          ∙ ap (λ (front : List ((ℕ × ℕ) × X)). front
          ++ cells_by (drop k rows) (drop (size + others) cells))
          (sym (ap (λ (n : ℕ). map (row_entry own.number) (take n (take (size + others) cells))
          ++ cells_by (take k rows) (drop n (take (size + others) cells))) row
          ∙ (ap (λ (cs : List (ColumnCell X)). map (row_entry own.number) cs
          ++ cells_by (take k rows) (drop size (take (size + others) cells)))
          (take-take size (size + others) cells (omega arith))
          ∙ ap (λ (cs : List (ColumnCell X)). map (row_entry own.number) (take size cells)
          ++ cells_by (take k rows) cs) (drop-take size others cells)))))))

  cut_rows : (place k : ℕ) (rows : List Row) (cells : List (ColumnCell X)) (end : ℕ) →
      are_rows place rows (length cells) ≡ true → k ≤ length rows →
      rows_end (drop k rows) (place + length cells) ≡ end →
      IsCut place k rows cells end (end - place)
  cut_rows place zero rows cells end are within ends =
      let same : end ≡ place = sym ends ∙ first_end place rows (length cells) are in
      let none : 0 ≡ end - place = omega (arith, same) in
      subst (λ (n : ℕ). IsCut place 0 rows cells end n) none
      (cut_none place rows cells end are same)
  cut_rows place (suc k) [] cells end are within ends = absurd (omega arith)
  cut_rows place (suc k) (own ∷ rows) cells end are within ends =
      let all = shared place own rows (length cells) are in
      let size : ℕ = row_size own.first rows (length cells) in
      let inside : size ≤ length cells = all.within in
      let left : length (drop size cells) ≡ length cells - size = length-drop size cells in
      let count : place + length cells ≡ place + size + length (drop size cells) =
      omega (arith, left, inside) in
      let rest : IsCut (place + size) k rows (drop size cells) end (end - (place + size)) =
      cut_rows (place + size) k rows (drop size cells) end (rest_shared place own rows cells all)
      (omega arith) (sym (ap (rows_end (drop k rows)) count) ∙ ends) in
      let sum : size + (end - (place + size)) ≡ end - place = omega (arith, rest.ends) in
      subst (λ (n : ℕ). IsCut place (suc k) (own ∷ rows) cells end n) sum
      (cut_one place k own rows cells end size (end - (place + size)) all refl rest)

  -- the cells of rows whose numbers pass a test
  row_passes : (p : ℕ → Bool) (number : ℕ) (cells : List (ColumnCell X)) → p number ≡ true →
      filter (λ (e : (ℕ × ℕ) × X). p e.0.0) (map (row_entry number) cells)
      ≡ map (row_entry number) cells
  row_passes p number [] passes = refl
  row_passes p number (cell ∷ cells) passes =
      ap (λ (t : Bool). cond t (row_entry number cell
      ∷ filter (λ (e : (ℕ × ℕ) × X). p e.0.0) (map (row_entry number) cells))
      (filter (λ (e : (ℕ × ℕ) × X). p e.0.0) (map (row_entry number) cells))) passes
      ∙ ap (λ (es : List ((ℕ × ℕ) × X)). row_entry number cell ∷ es)
      (row_passes p number cells passes)

  row_fails : (p : ℕ → Bool) (number : ℕ) (cells : List (ColumnCell X)) → p number ≡ false →
      filter (λ (e : (ℕ × ℕ) × X). p e.0.0) (map (row_entry number) cells) ≡ []
  row_fails p number [] fails = refl
  row_fails p number (cell ∷ cells) fails =
      ap (λ (t : Bool). cond t (row_entry number cell
      ∷ filter (λ (e : (ℕ × ℕ) × X). p e.0.0) (map (row_entry number) cells))
      (filter (λ (e : (ℕ × ℕ) × X). p e.0.0) (map (row_entry number) cells))) fails
      ∙ row_fails p number cells fails

  rows_pass : (p : ℕ → Bool) (rows : List Row) (cells : List (ColumnCell X)) →
      ((i : ℕ) (d : Row) → i < length rows → p (get_or rows i d).number ≡ true) →
      filter (λ (e : (ℕ × ℕ) × X). p e.0.0) (cells_by rows cells) ≡ cells_by rows cells
  rows_pass p [] cells pass = refl
  rows_pass p (own ∷ rows) cells pass =
      let size : ℕ = row_size own.first rows (length cells) in
      let rest : List ((ℕ × ℕ) × X) = cells_by rows (drop size cells) in
      filter-append (λ (e : (ℕ × ℕ) × X). p e.0.0) (map (row_entry own.number) (take size cells))
      rest
      ∙ (ap (λ (front : List ((ℕ × ℕ) × X)). front ++ filter (λ (e : (ℕ × ℕ) × X). p e.0.0) rest)
      (row_passes p own.number (take size cells) (pass 0 own (omega arith)))
      ∙ ap (λ (back : List ((ℕ × ℕ) × X)). map (row_entry own.number) (take size cells) ++ back)
      (rows_pass p rows (drop size cells) (λ i d within. pass (suc i) d (omega arith))))

  rows_fail : (p : ℕ → Bool) (rows : List Row) (cells : List (ColumnCell X)) →
      ((i : ℕ) (d : Row) → i < length rows → p (get_or rows i d).number ≡ false) →
      filter (λ (e : (ℕ × ℕ) × X). p e.0.0) (cells_by rows cells) ≡ []
  rows_fail p [] cells fail = refl
  rows_fail p (own ∷ rows) cells fail =
      let size : ℕ = row_size own.first rows (length cells) in
      let rest : List ((ℕ × ℕ) × X) = cells_by rows (drop size cells) in
      filter-append (λ (e : (ℕ × ℕ) × X). p e.0.0) (map (row_entry own.number) (take size cells))
      rest
      ∙ (ap (λ (front : List ((ℕ × ℕ) × X)). front ++ filter (λ (e : (ℕ × ℕ) × X). p e.0.0) rest)
      (row_fails p own.number (take size cells) (fail 0 own (omega arith)))
      ∙ rows_fail p rows (drop size cells) (λ i d within. fail (suc i) d (omega arith)))

  -- the rows before the cut pass, and those behind it do not
  pub front_passes : (p : ℕ → Bool) (place k : ℕ) (rows : List Row) (cells : List (ColumnCell X))
      (end size : ℕ) → IsCut place k rows cells end size →
      ((i : ℕ) (d : Row) → i < length rows → i < k → p (get_or rows i d).number ≡ true) →
      ((i : ℕ) (d : Row) → i < length rows → k ≤ i → p (get_or rows i d).number ≡ false) →
      cells_by (take k rows) (take size cells)
      ≡ filter (λ (e : (ℕ × ℕ) × X). p e.0.0) (cells_by rows cells)
  front_passes p place k rows cells end size cut pass fail =
      let front : List ((ℕ × ℕ) × X) = cells_by (take k rows) (take size cells) in
      let back : List ((ℕ × ℕ) × X) = cells_by (drop k rows) (drop size cells) in
      let kept : filter (λ (e : (ℕ × ℕ) × X). p e.0.0) front ≡ front =
      rows_pass p (take k rows) (take size cells) (λ i d within.
      let below : (i < k) × (i < length rows) = taken_place i k rows within in
      ap (λ (row : Row). p row.number) (get_or-take k rows i d below.0)
      ∙ pass i d below.1 below.0) in
      let none : filter (λ (e : (ℕ × ℕ) × X). p e.0.0) back ≡ [] =
      rows_fail p (drop k rows) (drop size cells) (λ i d within.
      ap (λ (row : Row). p row.number) (get_or-drop k rows i d)
      ∙ fail (k + i) d (omega (arith, length-drop k rows, within)) (omega arith)) in
      sym (ap (filter (λ (e : (ℕ × ℕ) × X). p e.0.0)) cut.is
      ∙ (filter-append (λ (e : (ℕ × ℕ) × X). p e.0.0) front back
      ∙ (ap (λ (es : List ((ℕ × ℕ) × X)). es ++ filter (λ (e : (ℕ × ℕ) × X). p e.0.0) back) kept
      ∙ (ap (λ (es : List ((ℕ × ℕ) × X)). front ++ es) none ∙ append-nil front))))

  -- the rows behind the cut pass, and those before it do not
  pub back_passes : (p : ℕ → Bool) (place k : ℕ) (rows : List Row) (cells : List (ColumnCell X))
      (end size : ℕ) → IsCut place k rows cells end size →
      ((i : ℕ) (d : Row) → i < length rows → i < k → p (get_or rows i d).number ≡ false) →
      ((i : ℕ) (d : Row) → i < length rows → k ≤ i → p (get_or rows i d).number ≡ true) →
      cells_by (drop k rows) (drop size cells)
      ≡ filter (λ (e : (ℕ × ℕ) × X). p e.0.0) (cells_by rows cells)
  back_passes p place k rows cells end size cut fail pass =
      let front : List ((ℕ × ℕ) × X) = cells_by (take k rows) (take size cells) in
      let back : List ((ℕ × ℕ) × X) = cells_by (drop k rows) (drop size cells) in
      let none : filter (λ (e : (ℕ × ℕ) × X). p e.0.0) front ≡ [] =
      rows_fail p (take k rows) (take size cells) (λ i d within.
      let below : (i < k) × (i < length rows) = taken_place i k rows within in
      ap (λ (row : Row). p row.number) (get_or-take k rows i d below.0)
      ∙ fail i d below.1 below.0) in
      let kept : filter (λ (e : (ℕ × ℕ) × X). p e.0.0) back ≡ back =
      rows_pass p (drop k rows) (drop size cells) (λ i d within.
      ap (λ (row : Row). p row.number) (get_or-drop k rows i d)
      ∙ pass (k + i) d (omega (arith, length-drop k rows, within)) (omega arith)) in
      sym (ap (filter (λ (e : (ℕ × ℕ) × X). p e.0.0)) cut.is
      ∙ (filter-append (λ (e : (ℕ × ℕ) × X). p e.0.0) front back
      ∙ (ap (λ (es : List ((ℕ × ℕ) × X)). es ++ filter (λ (e : (ℕ × ℕ) × X). p e.0.0) back) none
      ∙ kept)))

-- keys do not fall from one element to one behind it
keys_order : {A Y : Type 0} (key : A → ℕ × Y) (xs : List A) (i j : ℕ) (d : A) →
    is_sorted nat_cmp (map key xs) ≡ true → i ≤ j → j < length xs →
    (key (get_or xs i d)).0 ≤ (key (get_or xs j d)).0
keys_order key xs i j d rise before within = elim (cases_lt i j) [
  | inl less ↦
      below (key (get_or xs i d)).0 (key (get_or xs j d)).0
      (rising_at nat_cmp nat_cmp_total nat_cmp-IsAntisymmetric key xs i j d rise less within)
  | inr more ↦
      let same : i ≡ j = omega arith in
      rw same (omega arith)
]
  where
    below : (a b : ℕ) → nat_cmp a b ≡ Less → a ≤ b
    below a b less = grind (arith, nat_tests, less)

numbers_cut : (k : ℕ) (rows : List Row) → numbers_rise rows ≡ true →
    (numbers_rise (take k rows) ≡ true) × (numbers_rise (drop k rows) ≡ true)
numbers_cut k rows rise =
    sorted_parts nat_cmp (map row_place (take k rows)) (map row_place (drop k rows))
    (ap (is_sorted nat_cmp)
    (sym (map-append row_place (take k rows) (drop k rows)))
    ∙ (ap numbers_rise (take-append-drop k rows) ∙ rise))

-- a number is up to another just where the other isn't below it
pub le_fails : (a b : ℕ) → nat_lt b a ≡ true → nat_le a b ≡ false
le_fails a b less = grind (arith, nat_tests, less)

pub le_passes : (a b : ℕ) → nat_lt b a ≡ false → nat_le a b ≡ true
le_passes a b more = grind (arith, nat_tests, more)

-- elements whose keys go up to a number, and those behind it
pub parted_behind : {A Y : Type 0} (key : A → ℕ × Y) (last : ℕ) (xs : List A) →
    is_sorted nat_cmp (map key xs) ≡ true → IsPartitionedBy (λ (x : A). nat_le (key x).0 last) xs
parted_behind key last xs rise i j d before within passes =
    let order : (key (get_or xs i d)).0 ≤ (key (get_or xs j d)).0 =
    keys_order key xs i j d rise before within in
    grind (arith, nat_tests, order, passes)

pub parted_before : {A Y : Type 0} (key : A → ℕ × Y) (first : ℕ) (xs : List A) →
    is_sorted nat_cmp (map key xs) ≡ true → IsPartitionedBy (λ (x : A). nat_lt (key x).0 first) xs
parted_before key first xs rise i j d before within passes =
    let order : (key (get_or xs i d)).0 ≤ (key (get_or xs j d)).0 =
    keys_order key xs i j d rise before within in
    grind (arith, nat_tests, order, passes)

-- what a search for the place of the cut says
abbrev pub Parts : (Row → Bool) → List Row → ℕ → Type 0
Parts p rows k =
    IsPartitionedBy p rows →
    IsPartitionPoint (λ (row : Row). p row ≡ true) (λ (row : Row). p row ≡ false) rows k

module _ {X : Type 0} (k end : ℕ) (rows seen left : List Row) (cells others : List (ColumnCell X))
  where
    cut_at : are_rows 0 rows (length cells) ≡ true → k ≤ length rows →
        end ≡ rows_end (drop k rows) (length cells) → IsCut 0 k rows cells end end
    cut_at are within ends =
        let whole : end - 0 ≡ end = omega arith in
        subst (λ (n : ℕ). IsCut 0 k rows cells end n) whole
        (cut_rows 0 k rows cells end are within
        (ap (rows_end (drop k rows)) (zero-add (length cells)) ∙ sym ends))

    -- the rows up to the one with this number
    pub left_front : (last : ℕ) → seen ≡ rows → left ≡ take k rows → others ≡ take end cells →
        are_rows 0 rows (length cells) ≡ true → numbers_rise rows ≡ true → k ≤ length rows →
        Parts (λ (row : Row). nat_le row.number last) seen k →
        end ≡ rows_end (drop k rows) (length cells) →
        AreLeft (λ n. nat_le n last) 0 rows left cells others
    left_front last same left_is others_are are rise within parts ends =
        let cut : IsCut 0 k rows cells end end = cut_at are within ends in
        let parted =
        subst (λ (rs : List Row). Parts (λ (row : Row). nat_le row.number last) rs k) same parts
        (parted_behind row_place last rows rise) in
        let kept : AreLeft (λ n. nat_le n last) 0 rows (take k rows) cells (take end cells) =
        record {
          shared = cut.front;
          numbers = (numbers_cut k rows rise).0;
          cells_are = front_passes (λ n. nat_le n last) 0 k rows cells end end cut
              (λ i d inside below. parted.0 i d (omega arith) below)
              (λ i d inside above. parted.1 i d above inside);
        } in
        subst (λ (rs : List Row). AreLeft (λ n. nat_le n last) 0 rows rs cells others) (sym left_is)
        (subst (λ (cs : List (ColumnCell X)).
        AreLeft (λ n. nat_le n last) 0 rows (take k rows) cells cs) (sym others_are) kept)

    -- the rows from the one with this number on
    pub left_back : (first : ℕ) → seen ≡ rows → left ≡ drop k rows → others ≡ drop end cells →
        are_rows 0 rows (length cells) ≡ true → numbers_rise rows ≡ true → k ≤ length rows →
        Parts (λ (row : Row). nat_lt row.number first) seen k →
        end ≡ rows_end (drop k rows) (length cells) →
        AreLeft (λ n. nat_le first n) (first_of_rows left) rows left cells others
    left_back first same left_is others_are are rise within parts ends =
        let cut : IsCut 0 k rows cells end end = cut_at are within ends in
        let parted =
        subst (λ (rs : List Row). Parts (λ (row : Row). nat_lt row.number first) rs k) same parts
        (parted_before row_place first rows rise) in
        let kept : AreLeft (λ n. nat_le first n) end rows (drop k rows) cells (drop end cells) =
        record {
          shared = cut.back;
          numbers = (numbers_cut k rows rise).1;
          cells_are = back_passes (λ n. nat_le first n) 0 k rows cells end end cut
              (λ i d inside below. le_fails first (get_or rows i d).number
              (parted.0 i d (omega arith) below))
              (λ i d inside above. le_passes first (get_or rows i d).number
              (parted.1 i d above inside));
        } in
        let moved : AreLeft (λ n. nat_le first n) end rows left cells others =
        subst (λ (rs : List Row). AreLeft (λ n. nat_le first n) end rows rs cells others)
        (sym left_is)
        (subst (λ (cs : List (ColumnCell X)). AreLeft (λ n. nat_le first n) end rows (drop k rows)
        cells cs) (sym others_are) kept) in
        record {
          shared = placed_first end left (length others) moved.shared;
          numbers = moved.numbers;
          cells_are = moved.cells_are;
        }

    pub fits_cells : are_rows 0 rows (length cells) ≡ true → k ≤ length rows →
        end ≡ rows_end (drop k rows) (length cells) → end ≤ length cells
    fits_cells are within ends = (cut_at are within ends).within
