-- The count of a sheet that was read, and why one isn't had.
use Rattle.std.proofs.Common.{◌≡◌, ℕ, List, length, sym, ◌∙◌, arith, refl}
use Rattle.std.specs.Prelude.{String, string_bytes}
use Rattle.std.specs.declared.alloc.Global.{Global}
use Rattle.std.proofs.lemmas.List.{length-map}
use Rattle.part_events.specs.Words.{Contents, state_of}
use Rattle.xlsx_error.specs.declared.error.XlsxError.{XlsxError}
use Rattle.xlsx_error.specs.declared.error.XlsxError.TheVariants.{Io, OutOfMemory}
use Rattle.xlsx_error.specs.declared.error.XlsxError.TheVariants.{WorksheetNotFound}
use Rattle.cell_data.specs.Words.{cells_of, formula_pairs, with_meaning}
use Rattle.cell_data.specs.declared.range.Range.{Range}
use Rattle.xlsx_core.specs.Words.{SheetFails}
use Rattle.tests_calls.specs.Counting.{CountFails}

-- there are as many formulas as used cells of their range
pub counts : (range : Range (String Global)) (count : ℕ) → count ≡ length (cells_of range)
    → count ≡ length (formula_pairs range)
counts range count same = same ∙ sym (length-map (cells_of range) (with_meaning string_bytes))

-- a package in memory has no faults
pub count_fails : (name : List ℕ) (old new : Contents) (error : XlsxError)
    → SheetFails name (state_of old) (state_of new) error → CountFails old.parts name error
count_fails name old new Io fails = absurd (omega (arith, fails))
count_fails name old new OutOfMemory fails = tt
count_fails name old new (WorksheetNotFound asked) fails = fails refl
count_fails name old new error fails = fails refl
