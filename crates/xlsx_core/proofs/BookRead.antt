-- The sheet of a workbook that was opened, and what a call on the workbook said of it.
use Rattle.std.proofs.Common.{◌≡◌, ◌∙◌, ℕ, List, true, ap, map, string_bytes, Result, Ok, Err, inl}
use Rattle.std.proofs.Common.{inr}
use Rattle.std.specs.Prelude.{IfOk, IfErr, OnOk}
use Rattle.part_events.specs.Words.{Part, PackageState, SameParts, CountsUp, Uses}
use Rattle.part_events.proofs.Uses.{same_further}
use Rattle.xlsx_error.specs.declared.error.XlsxError.{XlsxError}
use Rattle.xlsx_error.specs.declared.error.XlsxError.TheVariants.{Io, OutOfMemory}
use Rattle.xlsx_error.specs.declared.error.XlsxError.TheVariants.{WorksheetNotFound}
use Rattle.xlsx_open.specs.Words.{TakesOpening, TakesSections, OpensFrom, FailsToOpen, OpeningFails}
use Rattle.xlsx_open.specs.Words.{IsOpeningError}
use Rattle.xlsx_open.specs.declared.shared_parts.SharedParts.{SharedParts}
use Rattle.xlsx_core.specs.Apart.{OpensInto}
use Rattle.xlsx_core.specs.ReadCells.{HoldsCells, ReadsCells}
use Rattle.xlsx_core.specs.SheetReading.{all_wanted, placed_events, data_events, TakesSheet}
use Rattle.xlsx_core.specs.SheetReading.{ReadsToData, SheetFails, PlacedSheetFails, TakesExactly}
use Rattle.xlsx_core.specs.SheetReading.{AnswersSheet, IsPlacedError, IsSheetError}
use Rattle.xlsx_core.specs.Worksheets.{path_of, context_of_book, palette_of_book}
use Rattle.xlsx_core.specs.declared.as_read.ReadCells.{ReadCells}
use Rattle.xlsx_core.specs.declared.xlsx.Xlsx.{Xlsx}
use Rattle.xlsx_core.proofs.SheetsRead.{OpensPlaced, opens_placed, holds_cells, sheet_fails}
use Rattle.xlsx_core.proofs.SheetsRead.{opening_fails}
use Rattle.xlsx_core.proofs.TakenOnce.{sheet_taken, sheet_to_data, uses_taken}

module _ {P : Type 0} (xlsx : Xlsx P) (name : List ℕ) (old mid new : PackageState)
    (same : SameParts old mid)
    (opened : old.is_visible ≡ true → OpensInto old.parts xlsx.workbook) where
  placed : old.is_visible ≡ true
      → OpensPlaced name (path_of xlsx name) (context_of_book xlsx) (palette_of_book xlsx)
      old.parts
  placed told = let own = opened told in opens_placed name own.0 own.1 own.2

  pub book_cells : (result : Result ReadCells XlsxError) → old.is_visible ≡ true
      → IfOk result (λ read. read.shared ≡ xlsx.workbook.shared)
      → IfOk result
      (ReadsCells (context_of_book xlsx) (palette_of_book xlsx) (path_of xlsx name) mid.parts)
      → IfOk result (HoldsCells old.parts name)
  book_cells (Err error) told shared has = tt
  book_cells (Ok read) told shared has =
      holds_cells name (path_of xlsx name) (context_of_book xlsx) (palette_of_book xlsx) old mid
      read same (placed told)
      (ap (λ (own : SharedParts). map string_bytes own.strings.items) shared)
      (ap (λ (own : SharedParts). own.style_sheet.styles.items) shared) has

  pub book_fails : (error : XlsxError)
      → PlacedSheetFails name all_wanted (context_of_book xlsx) (path_of xlsx name) mid new error
      → SheetFails name old new error
  book_fails error fails =
      sheet_fails name (path_of xlsx name) (context_of_book xlsx) (palette_of_book xlsx) old mid
      new error same placed fails

  pub book_taken : {A : Type 0} (result : Result A XlsxError) → old.is_visible ≡ true
      → TakesOpening old.parts old.taken mid.taken
      → Uses (placed_events (path_of xlsx name) mid.parts) Io result mid new
      → TakesSheet old.parts name old.taken new.taken
  book_taken result told takes uses =
      sheet_taken name (path_of xlsx name) (context_of_book xlsx) (palette_of_book xlsx) old mid
      new same (placed told) takes
      (uses_taken (placed_events (path_of xlsx name) mid.parts) Io result mid new uses
      (same.is_visible ∙ told))

  pub book_to_data : {A : Type 0} (result : Result A XlsxError) → old.is_visible ≡ true
      → TakesSections old.parts old.taken mid.taken
      → OnOk result (CountsUp (data_events (path_of xlsx name) mid.parts) mid.taken new.taken)
      → OnOk result (ReadsToData old.parts name old.taken new.taken)
  book_to_data result told takes exact =
      sheet_to_data result name (path_of xlsx name) (context_of_book xlsx) (palette_of_book xlsx)
      old mid new same (placed told) takes exact

-- ---- all that is answered

placed_error : (name : List ℕ) (error : XlsxError) → IsPlacedError name error
    → IsSheetError name error
placed_error name (WorksheetNotFound asked) is = is
placed_error name error is = inr is

-- how much such a call takes, whatever it answers
answers_taken : {P A : Type 0} (reads : List Part → A → Type 0) (xlsx : Xlsx P) (name : List ℕ)
    (result : Result A XlsxError) (old mid new : PackageState) → OpensFrom old mid
    → (old.is_visible ≡ true → OpensInto old.parts xlsx.workbook)
    → Uses (placed_events (path_of xlsx name) mid.parts) Io result mid new
    → old.is_visible ≡ true → TakesSheet old.parts name old.taken new.taken
answers_taken reads xlsx name result old mid new from opened uses told =
    book_taken xlsx name old mid new from.parts opened result told (from.taken told) uses

-- what a call answers that reads a sheet of a workbook that opened
pub book_answers : {P A : Type 0} (reads : List Part → A → Type 0) (xlsx : Xlsx P)
    (name : List ℕ) (result : Result A XlsxError) (old mid new : PackageState)
    → OpensFrom old mid → (old.is_visible ≡ true → OpensInto old.parts xlsx.workbook)
    → (old.is_visible ≡ true → IfOk result (reads old.parts))
    → Uses (placed_events (path_of xlsx name) mid.parts) Io result mid new
    → TakesExactly (data_events (path_of xlsx name) mid.parts) result mid new
    → IfErr result (PlacedSheetFails name all_wanted (context_of_book xlsx) (path_of xlsx name)
    mid new)
    → IfErr result (IsPlacedError name) → AnswersSheet reads name result old new
book_answers reads xlsx name (Ok read) old mid new from opened said uses exact fails kind = record {
  keeps = same_further from.parts uses.parts;
  faults = uses.faults ∙ from.faults;
  reading = said;
  err = tt;
  counts = tt;
  taken = answers_taken reads xlsx name (Ok read) old mid new from opened uses;
  to_end = λ told. book_to_data xlsx name old mid new from.parts opened (Ok read) told
      (from.to_end told) (exact (from.parts.is_visible ∙ told));
  kind = tt;
}
book_answers reads xlsx name (Err error) old mid new from opened said uses exact fails kind =
    record {
      keeps = same_further from.parts uses.parts;
      faults = tt;
      reading = λ told. tt;
      err = book_fails xlsx name old mid new from.parts opened error fails;
      counts = λ other. uses.faults other ∙ from.faults;
      taken = answers_taken reads xlsx name (Err error) old mid new from opened uses;
      to_end = λ told. tt;
      kind = placed_error name error kind;
    }

opening_error : (name : List ℕ) (error : XlsxError) → IsOpeningError error
    → IsSheetError name error
opening_error name (WorksheetNotFound asked) is = absurd is
opening_error name error is = inl is

-- what it answers where the workbook doesn't open
pub opening_answers : {A : Type 0} (reads : List Part → A → Type 0) (name : List ℕ)
    (old new : PackageState) (error : XlsxError) → FailsToOpen Io old new error
    → OpeningFails old new error → IsOpeningError error
    → AnswersSheet reads name (Err error) old new
opening_answers reads name old new error leaves fails kind = record {
  keeps = leaves.parts;
  faults = tt;
  reading = λ told. tt;
  err = opening_fails name old new error kind fails;
  counts = leaves.faults;
  taken = λ told. inl (leaves.taken told);
  to_end = λ told. tt;
  kind = opening_error name error kind;
}

-- what is answered by a call that makes something else of what was read
module _ {A B : Type 0} (reads : List Part → A → Type 0) (others : List Part → B → Type 0)
    (name : List ℕ) (old new : PackageState) where
  pub made_answers : (read : A) (made : B) → AnswersSheet reads name (Ok read) old new
      → (old.is_visible ≡ true → reads old.parts read → others old.parts made)
      → AnswersSheet others name (Ok made) old new
  made_answers read made answers onward = record {
    keeps = answers.keeps;
    faults = answers.faults;
    reading = λ told. onward told (answers.reading told);
    err = tt;
    counts = tt;
    taken = answers.taken;
    to_end = answers.to_end;
    kind = tt;
  }

  -- where memory lacks for it
  pub lacking_answers : (read : A) → AnswersSheet reads name (Ok read) old new
      → AnswersSheet others name (Err OutOfMemory) old new
  lacking_answers read answers = record {
    keeps = answers.keeps;
    faults = tt;
    reading = λ told. tt;
    err = tt;
    counts = λ other. answers.faults;
    taken = answers.taken;
    to_end = λ told. tt;
    kind = inl tt;
  }

  -- and where nothing was read
  pub refused_answers : (error : XlsxError) → AnswersSheet reads name (Err error) old new
      → AnswersSheet others name (Err error) old new
  refused_answers error answers = record {
    keeps = answers.keeps;
    faults = tt;
    reading = λ told. tt;
    err = answers.err;
    counts = answers.counts;
    taken = answers.taken;
    to_end = λ told. tt;
    kind = answers.kind;
  }
