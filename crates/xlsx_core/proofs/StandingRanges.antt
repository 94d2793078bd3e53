-- What stands at each position, and the range of it.
use Rattle.std.proofs.Common.{◌≡◌, ℕ, suc, ◌<◌, List, [], ◌∷◌, ◌++◌, Bool, true, false, cond, map}
use Rattle.std.proofs.Common.{Option, Some, None, refl, sym, ◌∙◌, ap, subst, arith}
use Rattle.std.specs.Prelude.{nat_le, nat_lt, ◌&&◌}
use Rattle.std.specs.List.{filter}
use Rattle.std.proofs.lemmas.Bool.Decides.{nat_tests}
use Rattle.cell_refs.specs.declared.dimensions.Dimensions.{Dimensions}
use Rattle.cell_refs.specs.Words.{position_cmp, last_of_each, least_area, lie_inside, is_in_area}
use Rattle.cell_refs.specs.Words.{is_rising, are_sheet_bounds}
use Rattle.cell_refs.proofs.PositionOrder.{and_both}
use Rattle.sorted_cells.specs.Words.{last_key, comes_after}
use Rattle.sorted_cells.proofs.Orders.{after_sorted}
use Rattle.cell_data.specs.Words.{AreInSheet, with_meaning}
use Rattle.cell_data.specs.declared.range.Range.{Range}
use Rattle.cell_data.specs.declared.value.HeaderRow.{HeaderRow}
use Rattle.cell_data.specs.declared.value.HeaderRow.TheVariants.{FirstNonEmptyRow, Row}
use Rattle.cell_data.proofs.Areas.{all_wider, filter_all, last_inside, least_inside, sheet_bounds}
use Rattle.cell_data.proofs.Areas.{used_in_sheet}
use Rattle.cell_data.proofs.LeastAreas.{least_last}
use Rattle.cell_data.proofs.Passing.{last_passing}
use Rattle.cell_data.proofs.Placing.{last_rising, rising_last}
use Rattle.xlsx_core.specs.Worksheets.{from_row, below_header, header_area, area_below, IsRangeFrom}
use Rattle.xlsx_core.specs.Worksheets.{IsRangeOf}
use Rattle.xlsx_core.proofs.LastOfEach.{last_mapped}
use Rattle.xlsx_core.proofs.RangesMade.{begins_by, begins_from, in_wider, all_kept, below_mapped}
use Rattle.xlsx_core.proofs.RangesMade.{meant_range}

-- ---- where the cells lie

inside_below : (row : ℕ) (k : ℕ × ℕ) → is_in_area (area_below (Row row)) k ≡ true →
    (nat_le row k.0 ≡ true) × (k.0 < 1048576) × (k.1 < 16384)
inside_below row k inside =
    let (rows, columns) =
    and_both (nat_le row k.0 && nat_le k.0 1048575) (nat_le 0 k.1 && nat_le k.1 16383) inside in
    let (top, bottom) = and_both (nat_le row k.0) (nat_le k.0 1048575) rows in
    let (left, right) = and_both (nat_le 0 k.1) (nat_le k.1 16383) columns in
    (top, grind (arith, nat_tests, bottom), grind (arith, nat_tests, right))

below_inside : (row : ℕ) (k : ℕ × ℕ) → k.0 < 1048576 → k.1 < 16384 →
    is_in_area (area_below (Row row)) k ≡ nat_le row k.0
below_inside row k in_rows in_columns = grind (arith, nat_tests, in_rows, in_columns)

-- the same test of each position
filter_alike : {X : Type 0} (p q : ℕ × ℕ → Bool) (cells : List ((ℕ × ℕ) × X)) →
    ((k : ℕ × ℕ) → k.0 < 1048576 → k.1 < 16384 → p k ≡ q k) → AreInSheet cells →
    filter (λ cell. p cell.0) cells ≡ filter (λ cell. q cell.0) cells
filter_alike p q [] alike inside = refl
filter_alike p q (e ∷ es) alike inside =
    let own = inside 0 e (omega arith) in
    let others = filter_alike p q es alike (λ k d below. inside (suc k) d (omega arith)) in
    let test = alike e.0 own.0 own.1 in
    λ i. cond (test i) (e ∷ others i) (others i)

abbrev sheet_area : Dimensions
sheet_area = record { start = (0, 0); end = (1048575, 16383) }

below_sheet : (header : HeaderRow) (k : ℕ × ℕ) → is_in_area (area_below header) k ≡ true →
    is_in_area sheet_area k ≡ true
below_sheet FirstNonEmptyRow k inside = inside
below_sheet (Row row) k inside =
    let own = inside_below row k inside in
    grind (arith, nat_tests, own.1, own.2)

bounds_header : (row : ℕ) (bounds : Option Dimensions) → begins_by row bounds →
    are_sheet_bounds bounds ≡ true → are_sheet_bounds (header_area (Row row) bounds) ≡ true
bounds_header row None first limits = refl
bounds_header row (Some area) first limits =
    let (rows, columns) =
    and_both (nat_le area.start.0 area.end.0 && nat_lt area.end.0 1048576)
    (nat_le area.start.1 area.end.1 && nat_lt area.end.1 16384) limits in
    let (rise, last) = and_both (nat_le area.start.0 area.end.0) (nat_lt area.end.0 1048576)
    rows in
    let begins : nat_le row area.end.0 ≡ true = grind (arith, nat_tests, first.0, first.1) in
    ap (λ (t : Bool). (t && nat_lt area.end.0 1048576)
    && (nat_le area.start.1 area.end.1 && nat_lt area.end.1 16384)) begins
    ∙ ap (λ (t : Bool). t && (nat_le area.start.1 area.end.1 && nat_lt area.end.1 16384)) last
    ∙ columns

module _ {X : Type 0} where
  -- what stands at last lies in the sheet
  last_in_sheet : (cells : List ((ℕ × ℕ) × X)) → AreInSheet cells → AreInSheet (last_of_each cells)
  last_in_sheet cells inside =
      used_in_sheet (least_area cells) (last_of_each cells) (sheet_bounds cells inside)
      (last_inside cells)

  -- what counts from a row on is what lies in the area from there
  pub last_from : (row : ℕ) (cells : List ((ℕ × ℕ) × X)) → AreInSheet cells →
      filter (λ cell. is_in_area (area_below (Row row)) cell.0) (last_of_each cells)
      ≡ last_of_each (from_row row cells)
  last_from row cells inside =
      filter_alike (is_in_area (area_below (Row row))) (λ k. nat_le row k.0) (last_of_each cells)
      (below_inside row) (last_in_sheet cells inside)
      ∙ last_passing (λ k. nat_le row k.0) cells

  pub kept_inside : (row : ℕ) (cells kept : List ((ℕ × ℕ) × X)) →
      kept ≡ filter (λ cell. is_in_area (area_below (Row row)) cell.0) cells →
      lie_inside (Some (area_below (Row row))) kept ≡ true
  kept_inside row cells kept is =
      ap (lie_inside (Some (area_below (Row row)))) is
      ∙ filter_all (is_in_area (area_below (Row row))) cells

  in_whole_sheet : (cells : List ((ℕ × ℕ) × X)) → AreInSheet cells →
      lie_inside (Some (area_below FirstNonEmptyRow)) cells ≡ true
  in_whole_sheet [] inside = refl
  in_whole_sheet (e ∷ es) inside =
      let own = inside 0 e (omega arith) in
      let first : is_in_area (area_below FirstNonEmptyRow) e.0 ≡ true =
      grind (arith, nat_tests, own.0, own.1) in
      ap (λ (t : Bool). t && lie_inside (Some (area_below FirstNonEmptyRow)) es) first
      ∙ in_whole_sheet es (λ k d below. inside (suc k) d (omega arith))

  pub last_whole : (cells kept : List ((ℕ × ℕ) × X)) → AreInSheet cells →
      kept ≡ last_of_each cells → lie_inside (Some (area_below FirstNonEmptyRow)) kept ≡ true
  last_whole cells kept inside is =
      ap (lie_inside (Some (area_below FirstNonEmptyRow))) is
      ∙ in_whole_sheet (last_of_each cells) (last_in_sheet cells inside)

  -- ---- the range of cells that lie there

  kept_in_sheet : (header : HeaderRow) (cells : List ((ℕ × ℕ) × X)) →
      lie_inside (Some (area_below header)) cells ≡ true → AreInSheet cells
  kept_in_sheet header cells inside =
      used_in_sheet (Some sheet_area) cells refl
      (all_wider (is_in_area (area_below header)) (is_in_area sheet_area) cells
      (below_sheet header) inside)

  pub kept_below : (header : HeaderRow) (cells : List ((ℕ × ℕ) × X)) →
      lie_inside (Some (area_below header)) cells ≡ true → below_header header cells ≡ cells
  kept_below FirstNonEmptyRow cells inside = refl
  kept_below (Row row) cells inside =
      all_kept (λ k. nat_le row k.0) cells
      (all_wider (is_in_area (area_below (Row row))) (λ k. nat_le row k.0) cells
      (λ k own. (inside_below row k own).0) inside)

  begins : (row : ℕ) (cells : List ((ℕ × ℕ) × X)) →
      lie_inside (Some (area_below (Row row))) cells ≡ true → begins_by row (least_area cells)
  begins row cells inside =
      subst (λ (own : List ((ℕ × ℕ) × X)). begins_by row (least_area own))
      (kept_below (Row row) cells inside) (begins_from row cells)

  inside_header : (row : ℕ) (bounds : Option Dimensions) (cells : List ((ℕ × ℕ) × X)) →
      begins_by row bounds → lie_inside bounds cells ≡ true →
      lie_inside (header_area (Row row) bounds) cells ≡ true
  inside_header row None cells first inside = inside
  inside_header row (Some area) cells first inside =
      all_wider (is_in_area area)
      (is_in_area (record { start = (row, area.start.1); end = area.end })) cells
      (λ k own. in_wider row area k first.0 own) inside

  pub header_inside : (header : HeaderRow) (cells : List ((ℕ × ℕ) × X)) →
      lie_inside (Some (area_below header)) cells ≡ true →
      lie_inside (header_area header (least_area cells)) cells ≡ true
  header_inside FirstNonEmptyRow cells inside = least_inside cells
  header_inside (Row row) cells inside =
      inside_header row (least_area cells) cells (begins row cells inside) (least_inside cells)

  pub header_bounds : (header : HeaderRow) (cells : List ((ℕ × ℕ) × X)) →
      lie_inside (Some (area_below header)) cells ≡ true →
      are_sheet_bounds (header_area header (least_area cells)) ≡ true
  header_bounds FirstNonEmptyRow cells inside =
      sheet_bounds cells (kept_in_sheet FirstNonEmptyRow cells inside)
  header_bounds (Row row) cells inside =
      bounds_header row (least_area cells) (begins row cells inside)
      (sheet_bounds cells (kept_in_sheet (Row row) cells inside))

-- ---- what is meant by them

module _ {X Y : Type 0} (meaning : X → Y) where
  -- it stands in the same places
  pub inside_meant : (area : Dimensions) (cells : List ((ℕ × ℕ) × X)) →
      lie_inside (Some area) (map (with_meaning meaning) cells) ≡ lie_inside (Some area) cells
  inside_meant area [] = refl
  inside_meant area (e ∷ es) = ap (λ (t : Bool). is_in_area area e.0 && t) (inside_meant area es)

  pub key_meant : (cells : List ((ℕ × ℕ) × X)) →
      last_key (map (with_meaning meaning) cells) ≡ last_key cells
  key_meant [] = refl
  key_meant (e ∷ []) = refl
  key_meant (e ∷ f ∷ es) = key_meant (f ∷ es)

  pub last_meant : (header : HeaderRow) (es : List ((ℕ × ℕ) × X))
      → map (with_meaning meaning) (last_of_each (below_header header es))
      ≡ last_of_each (below_header header (map (with_meaning meaning) es))
  last_meant header es =
      sym (last_mapped meaning (below_header header es))
      ∙ ap last_of_each (sym (below_mapped meaning header es))

  filter_mapped : (p : ℕ × ℕ → Bool) (cells : List ((ℕ × ℕ) × X)) →
      map (with_meaning meaning) (filter (λ cell. p cell.0) cells)
      ≡ filter (λ cell. p cell.0) (map (with_meaning meaning) cells)
  filter_mapped p [] = refl
  filter_mapped p (own ∷ cells) = filtered_if (p own.0) (filter_mapped p cells)
    where
      filtered_if : (test : Bool) → map (with_meaning meaning) (filter (λ cell. p cell.0) cells)
          ≡ filter (λ cell. p cell.0) (map (with_meaning meaning) cells)
          → map (with_meaning meaning)
          (cond test (own ∷ filter (λ cell. p cell.0) cells) (filter (λ cell. p cell.0) cells))
          ≡ cond test (with_meaning meaning own
          ∷ filter (λ cell. p cell.0) (map (with_meaning meaning) cells))
          (filter (λ cell. p cell.0) (map (with_meaning meaning) cells))
      filtered_if true rest = ap (λ others. with_meaning meaning own ∷ others) rest
      filtered_if false rest = rest

  -- what stands at last in an area is that of all
  pub area_meant : (header : HeaderRow) (area : Dimensions) (es : List ((ℕ × ℕ) × X))
      → map (with_meaning meaning)
      (filter (λ cell. is_in_area area cell.0) (last_of_each (below_header header es)))
      ≡ filter (λ cell. is_in_area area cell.0)
      (last_of_each (below_header header (map (with_meaning meaning) es)))
  area_meant header area es =
      filter_mapped (is_in_area area) (last_of_each (below_header header es))
      ∙ ap (filter (λ cell. is_in_area area cell.0)) (last_meant header es)

  -- the range of what stands at last is that of all
  pub standing_range : (header : HeaderRow) (all : List ((ℕ × ℕ) × Y)) (kept : List ((ℕ × ℕ) × X))
      (blank : X) (other : Y) (range : Range X) → IsRangeFrom header kept blank range
      → below_header header kept ≡ kept
      → map (with_meaning meaning) kept ≡ last_of_each (below_header header all)
      → meaning blank ≡ other → IsRangeOf meaning header all other range
  standing_range header all kept blank other range is below last same =
      let meant = meant_range meaning header kept blank range is in
      let standing = last_of_each (below_header header all) in
      let again : below_header header (map (with_meaning meaning) kept) ≡ standing =
      below_mapped meaning header kept ∙ ap (map (with_meaning meaning)) below ∙ last in
      record {
        cells = meant.cells ∙ ap last_of_each again
            ∙ sym (rising_last standing (last_rising (below_header header all)));
        bounds = meant.bounds ∙ ap (λ own. header_area header (least_area own)) again
            ∙ ap (header_area header) (least_last (below_header header all));
        blank = meant.blank ∙ same;
      }

-- a cell is put behind those whose positions are the same as those before it
pub follows : {X Y : Type 0} (own : List ((ℕ × ℕ) × Y)) (front : List ((ℕ × ℕ) × X))
    (e : (ℕ × ℕ) × X) (left rest whole : List ((ℕ × ℕ) × X)) → last_key own ≡ last_key front
    → left ≡ e ∷ rest → front ++ left ≡ whole → is_rising whole ≡ true
    → comes_after position_cmp (last_key own) e.0 ≡ true
follows own front e left rest whole same is are rising =
    ap (λ key. comes_after position_cmp key e.0) same
    ∙ after_sorted position_cmp front e rest
    (ap (λ (cells : List _). is_rising (front ++ cells)) (sym is) ∙ ap is_rising are ∙ rising)
