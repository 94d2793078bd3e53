-- The counters from one mark to the next.
use Rattle.std.proofs.Common.{◌≡◌, ℕ, suc, ◌+◌, List, [], ◌∷◌, refl, ◌∙◌, ap, Option, Some, None}
use Rattle.std.proofs.Common.{Result, Ok, Err, arith}
use Rattle.std.proofs.lemmas.Bool.Decides.{nat_tests}
use Rattle.std.specs.Prelude.{min, nat_le, Bool, true, false, if◌then◌else◌}
use Rattle.cell_refs.specs.declared.TheConstants.{MAX_ROWS, MAX_COLUMNS}
use Rattle.cell_refs.specs.declared.error.RefError.TheVariants as ref
use Rattle.part_events.specs.Words.{Element}
use Rattle.xlsx_cells.specs.Marks.{Mark, row_start, row_end, cell}
use Rattle.xlsx_cells.specs.Position.{row_named, position_named, row_counter, column_counter}
use Rattle.xlsx_cells.specs.Position.{or_further_row, or_further_column, implied_position}
use Rattle.xlsx_sections.specs.Words.{Refusal, plain, misplaced}

or_further_row_more : (ends : ℕ) (named : Result (Option ℕ) Refusal) (less more : ℕ) → more
    ≡ suc less → or_further_row (suc ends) named more ≡ suc (or_further_row ends named less)
or_further_row_more ends (Ok (Some row)) less more is = omega arith
or_further_row_more ends (Ok None) less more is = is
or_further_row_more ends (Err refusal) less more is = is

-- one end more
pub row_counter_more : (ends : ℕ) (before : List Mark) → row_counter (suc ends) before
    ≡ suc (row_counter ends before)
row_counter_more ends [] = refl
row_counter_more ends (row_start tag ∷ before) = or_further_row_more ends (row_named tag)
    (row_counter ends before) (row_counter (suc ends) before) (row_counter_more ends before)
row_counter_more ends (row_end ∷ before) = row_counter_more (suc ends) before
row_counter_more ends (cell element ∷ before) = row_counter_more ends before

or_further_column_more : (since : ℕ) (named : Result (Option (ℕ × ℕ)) Refusal) (less more : ℕ)
    → more ≡ suc less → or_further_column (suc since) named more
    ≡ suc (or_further_column since named less)
or_further_column_more since (Ok (Some position)) less more is = omega arith
or_further_column_more since (Ok None) less more is = is
or_further_column_more since (Err refusal) less more is = is

-- one cell more
pub column_counter_more : (since : ℕ) (before : List Mark) → column_counter (suc since) before
    ≡ suc (column_counter since before)
column_counter_more since [] = refl
column_counter_more since (row_start tag ∷ before) = column_counter_more since before
column_counter_more since (row_end ∷ before) = refl
column_counter_more since (cell element ∷ before) = or_further_column_more since
    (position_named element.tag) (column_counter (suc since) before) (column_counter (suc
    (suc since)) before) (column_counter_more (suc since) before)

pub column_counter_unnamed : (element : Element) (before : List Mark)
    → position_named element.tag ≡ Ok None → column_counter 0 (cell element ∷ before)
    ≡ column_counter 0 before + 1
column_counter_unnamed element before is = ap (λ (named : Result (Option (ℕ
    × ℕ)) Refusal). or_further_column 0 named (column_counter 1 before)) is
    ∙ omega (arith, column_counter_more 0 before)

by_tests : (wide low : Bool) (first second : ℕ × ℕ) (far_column far_row refusal : Refusal)
    → (if wide then Err far_column else (if low then Err far_row else Ok first)) ≡ Err refusal
    → (if wide then Err far_column else (if low then Err far_row else Ok second)) ≡ Err refusal
by_tests true low first second far_column far_row refusal is = is
by_tests false true first second far_column far_row refusal is = is
by_tests false false first second far_column far_row refusal is = absurd (cc)

-- a position that counters imply which stop at their last values is refused where the one is that
-- counters imply which don't
pub implied_refused : (row column rows columns : ℕ) (refusal : Refusal)
    → row ≡ min rows MAX_ROWS → column ≡ min columns MAX_COLUMNS
    → implied_position row column ≡ Err refusal → implied_position rows columns ≡ Err refusal
implied_refused row column rows columns refusal at_row at_column is =
    let wide : nat_le MAX_COLUMNS column ≡ nat_le MAX_COLUMNS columns =
    grind (arith, nat_tests, at_column) in
    let low : nat_le MAX_ROWS row ≡ nat_le MAX_ROWS rows = grind (arith, nat_tests, at_row) in
    by_tests (nat_le MAX_COLUMNS columns) (nat_le MAX_ROWS rows) (row, column) (rows, columns)
    (plain (misplaced ref.ColumnNumberOverflow)) (plain (misplaced ref.RowNumberOverflow)) refusal
    (rw (wide, low) at is)
