-- The ranges of cells, and of what is meant by them.
use Rattle.std.proofs.Common.{◌≡◌, ℕ, ◌≤◌, List, [], ◌∷◌, Bool, true, false, cond, refl, sym, ◌∙◌}
use Rattle.std.proofs.Common.{ap, Option, Some, None, arith, map}
use Rattle.std.specs.Prelude.{⊤, nat_le, ◌&&◌}
use Rattle.std.specs.List.{filter, list_all}
use Rattle.std.proofs.lemmas.Bool.Decides.{nat_tests}
use Rattle.cell_refs.specs.declared.dimensions.Dimensions.{Dimensions}
use Rattle.cell_refs.specs.Words.{last_of_each, least_area, area_with, is_in_area}
use Rattle.cell_refs.proofs.PositionOrder.{and_both}
use Rattle.cell_data.specs.declared.range.Range.{Range}
use Rattle.cell_data.specs.declared.value.HeaderRow.{HeaderRow}
use Rattle.cell_data.specs.declared.value.HeaderRow.TheVariants.{FirstNonEmptyRow, Row}
use Rattle.cell_data.specs.Words.{with_meaning}
use Rattle.xlsx_core.specs.Worksheets.{from_row, below_header, header_area, IsRangeFrom, IsRangeOf}
use Rattle.xlsx_core.proofs.LastOfEach.{last_mapped}

-- an area that begins in no row before this one
abbrev pub begins_by : ℕ → Option Dimensions → Type 0
begins_by row None = ⊤
begins_by row (Some area) = (row ≤ area.start.0) × (area.start.0 ≤ area.end.0)

begins_with : (row : ℕ) (k : ℕ × ℕ) (bounds : Option Dimensions) → nat_le row k.0 ≡ true
    → begins_by row bounds → begins_by row (Some (area_with k bounds))
begins_with row k None first is = (grind (arith, nat_tests, first), omega arith)
begins_with row k (Some area) first is =
    (grind (arith, nat_tests, first, is.0), grind (arith, is.1))

pub in_wider : (row : ℕ) (area : Dimensions) (k : ℕ × ℕ) → row ≤ area.start.0
    → is_in_area area k ≡ true
    → is_in_area (record { start = (row, area.start.1); end = area.end }) k ≡ true
in_wider row area k begins inside =
    let (rows, columns) =
    and_both (nat_le area.start.0 k.0 && nat_le k.0 area.end.0)
    (nat_le area.start.1 k.1 && nat_le k.1 area.end.1) inside in
    let (top, bottom) = and_both (nat_le area.start.0 k.0) (nat_le k.0 area.end.0) rows in
    let (left, right) = and_both (nat_le area.start.1 k.1) (nat_le k.1 area.end.1) columns in
    grind (arith, nat_tests, top, bottom, left, right, begins)

pub all_kept : {X : Type 0} (p : ℕ × ℕ → Bool) (cells : List ((ℕ × ℕ) × X))
    → list_all (λ cell. p cell.0) cells ≡ true → filter (λ cell. p cell.0) cells ≡ cells
all_kept p [] is = refl
all_kept p (e ∷ es) is =
    let (own, others) = and_both (p e.0) (list_all (λ cell. p cell.0) es) is in
    ap (λ test. cond test (e ∷ filter (λ cell. p cell.0) es) (filter (λ cell. p cell.0) es)) own
    ∙ ap (λ rest. e ∷ rest) (all_kept p es others)

module _ {X : Type 0} where
  pub begins_from : (row : ℕ) (es : List ((ℕ × ℕ) × X))
      → begins_by row (least_area (from_row row es))
  begins_from row [] = tt
  begins_from row (e ∷ es) = kept (nat_le row e.0.0) refl (begins_from row es)
    where
      kept : (test : Bool) → nat_le row e.0.0 ≡ test
          → begins_by row (least_area (from_row row es))
          → begins_by row (least_area (cond test (e ∷ from_row row es) (from_row row es)))
      kept true first rest = begins_with row e.0 (least_area (from_row row es)) first rest
      kept false first rest = rest

-- ---- what is meant by cells

module _ {X Y : Type 0} (meaning : X → Y) where
  from_mapped : (row : ℕ) (cells : List ((ℕ × ℕ) × X)) →
      from_row row (map (with_meaning meaning) cells)
      ≡ map (with_meaning meaning) (from_row row cells)
  from_mapped row [] = refl
  from_mapped row (own ∷ cells) =
      mapped_if (nat_le row own.0.0) (from_mapped row cells)
    where
      mapped_if : (test : Bool) → from_row row (map (with_meaning meaning) cells)
          ≡ map (with_meaning meaning) (from_row row cells)
          → cond test (with_meaning meaning own ∷ from_row row (map (with_meaning meaning) cells))
          (from_row row (map (with_meaning meaning) cells))
          ≡ map (with_meaning meaning) (cond test (own ∷ from_row row cells) (from_row row cells))
      mapped_if true rest = ap (λ others. with_meaning meaning own ∷ others) rest
      mapped_if false rest = rest

  pub below_mapped : (header : HeaderRow) (cells : List ((ℕ × ℕ) × X)) →
      below_header header (map (with_meaning meaning) cells)
      ≡ map (with_meaning meaning) (below_header header cells)
  below_mapped FirstNonEmptyRow cells = refl
  below_mapped (Row row) cells = from_mapped row cells

  pub least_mapped : (cells : List ((ℕ × ℕ) × X)) →
      least_area (map (with_meaning meaning) cells) ≡ least_area cells
  least_mapped [] = refl
  least_mapped (own ∷ cells) =
      ap (λ (area : Option Dimensions). Some (area_with own.0 area)) (least_mapped cells)

  -- the range of cells is that of what is meant by them
  pub meant_range : (header : HeaderRow) (cells : List ((ℕ × ℕ) × X)) (blank : X)
      (range : Range X) → IsRangeFrom header cells blank range
      → IsRangeOf meaning header (map (with_meaning meaning) cells) (meaning blank) range
  meant_range header cells blank range is =
      let below = below_header header cells in
      record {
        cells = ap (map (with_meaning meaning)) is.cells ∙ sym (last_mapped meaning below)
            ∙ ap last_of_each (sym (below_mapped header cells));
        bounds = is.bounds
            ∙ ap (header_area header) (sym (ap least_area (below_mapped header cells)
            ∙ least_mapped below));
        blank = ap meaning is.blank;
      }
