-- What each call says that takes a cell, whatever it asks for.
use Rattle.std.specs.Prelude.{◌≡◌, ℕ, List, true, Option, Result, IfOk, IsErrAnd, is_err}
use Rattle.part_events.specs.Words.{ReadsPart, Element}
use Rattle.xlsx_error.specs.declared.error.XlsxError.{XlsxError}
use Rattle.xlsx_error.specs.declared.error.XlsxError.TheVariants.{Io, Failed}
use Rattle.xlsx_values.specs.Words.{context_of}
use Rattle.xlsx_formulas.specs.Words.{FormulaText}
use Rattle.xlsx_cells.specs.Marks.{Mark}
use Rattle.xlsx_cells.specs.Stream.{Stream, IsStreaming, RestsAtEnd, StandsBehind, StandsTo}
use Rattle.xlsx_cells.specs.Stream.{TakesEach, NextCellFails}
use Rattle.xlsx_cells.specs.declared.children.Asked.{Asked}

-- What a step does, whatever it takes: `position` tells the position of its answer. Each call that
-- takes a cell is one, also behind the end of the data and behind a refusal.
pub record TakesStep
    {A : Type 0} (position : A → ℕ × ℕ) (result : Result (Option A) XlsxError) (old new : Stream)
    : Type 0 where
  pub streaming : IsStreaming new
  pub reads : ReadsPart Io result old.reading new.reading
  pub rests : RestsAtEnd old new
  pub stands : IfOk result (λ found. StandsTo position found old new)
  pub after : old.is_failed ≡ true → IsErrAnd result (λ error. error ≡ Failed)
  pub failed : new.is_failed ≡ is_err result

-- Behind whatever marks and formulas a stream stands, a step takes a cell of which a fact holds,
-- and passes only cells that may be passed. The fact may speak of the formulas that were kept
-- before the cell.
abbrev pub TakesNext :
    {A : Type 0} → (List Mark → Element → Type 0) →
    (List FormulaText → A → List Mark → Element → List FormulaText → Type 0) →
    Result (Option A) XlsxError → Stream → Stream → Type 0
TakesNext passes fact result old new =
    old.reading.source.is_visible ≡ true → (before : List Mark) (earlier : List FormulaText) →
    StandsBehind before earlier old →
    IfOk result (λ found. TakesEach passes (fact earlier) before earlier found old new)

-- when a step is refused that takes the next cell with what is asked for
abbrev pub AskedStepFails : Asked → Stream → Stream → XlsxError → Type 0
AskedStepFails asked old new error =
    NextCellFails asked.wants (context_of asked.book) old new.reading error
