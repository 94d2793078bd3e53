-- Readings of all cells of a sheet's data, one by one.
use Rattle.std.proofs.Common.{◌≡◌, ℕ, List, [], ◌∷◌, ◌++◌, Result, Ok, refl, ◌∙◌, ap, sym, map}
use Rattle.std.proofs.Common.{true, subst}
use Rattle.cell_data.specs.Words.{CellValue}
use Rattle.cell_data.specs.declared.cell.Cell.{Cell}
use Rattle.cell_data.specs.declared.value.DataRef.{DataRef}
use Rattle.part_events.specs.Words.{Event, Element}
use Rattle.xlsx_error.specs.declared.error.XlsxError.{XlsxError}
use Rattle.xlsx_sections.specs.Words.{and_others, prepended, KeepsElements, Refusal}
use Rattle.xlsx_sections.proofs.ElementsRead.{keeps_none}
use Rattle.xlsx_sections.proofs.Kept.{prepended-nil}
use Rattle.xlsx_values.specs.Words.{ValueContext, cell_value}
use Rattle.xlsx_formulas.specs.Words.{FormulaText, behind_formulas}
use Rattle.xlsx_cells.specs.CellsReader.{IsValued, IsValuedFormula}
use Rattle.xlsx_cells.specs.Finding.{IsMarkRefused}
use Rattle.xlsx_cells.specs.Marks.{Mark, cell, is_cell_start, marks, behind_marks}
use Rattle.xlsx_cells.specs.Position.{cell_position, IsPlaced, NoCell}
use Rattle.xlsx_cells.specs.Sheet.{answers_from, placed_value, values_in}
use Rattle.xlsx_cells.specs.SheetPart.{DataFails}
use Rattle.xlsx_cells.specs.Stream.{Stream, StandsBehind, TakesCell, EndsData, marks_ahead}
use Rattle.xlsx_cells.specs.Stream.{data_ahead, IsGoing, IsCellRefused, NextCellFails, PassesCell}
use Rattle.xlsx_cells.specs.WholeReadings.{TakesAll, cell_value_entry, formula_value_entry}
use Rattle.xlsx_cells.specs.declared.cell_records.XlsxCellFormula.{XlsxCellFormula}
use Rattle.xlsx_cells.specs.declared.children.Wants.{Wants}
use Rattle.xlsx_cells.proofs.Collecting.{answer_kept, answers_whole, answers_passed, no_answers}
use Rattle.xlsx_cells.proofs.Collecting.{keeps_on, step_refused, taken_is_mark}
use Rattle.xlsx_cells.proofs.Fronts.{refused_further}

-- cells with these values were taken from the start of the data on
pub record ValuesTaken
    (wants : Wants) (context : ValueContext) (old now : Stream) (values : List ((ℕ × ℕ)
    × CellValue))
    : Type 0 where
  pub before : List Mark
  pub earlier : List FormulaText
  pub stands : StandsBehind before earlier now
  pub all :
      prepended values (answers_from (placed_value context) before (marks_ahead now))
      ≡ values_in context (data_ahead old)
  pub refused :
      (refusal : Refusal) →
      IsMarkRefused IsPlaced (IsCellRefused wants context) before (marks_ahead now) refusal →
      IsMarkRefused IsPlaced (IsCellRefused wants context) [] (marks_ahead old) refusal

pub values_none : (wants : Wants) (context : ValueContext) (old : Stream) → StandsBehind [] [] old
    → ValuesTaken wants context old old []
values_none wants context old stands = record {
  before = [];
  earlier = [];
  stands = stands;
  all = prepended-nil (answers_from (placed_value context) [] (marks_ahead old));
  refused = λ refusal is. is;
}

pub values_further : {wants : Wants} {context : ValueContext} {old mid new : Stream}
    {values : List ((ℕ × ℕ) × CellValue)}
    {fact : List Mark → Element → List FormulaText → Type 0} (own : (ℕ × ℕ) × CellValue)
    → (been : ValuesTaken wants context old mid values)
    → TakesCell NoCell been.before been.earlier mid new fact
    → ((before : List Mark) (element : Element) (kept : List FormulaText)
    → fact before element kept → (cell_position before element.tag ≡ Ok own.0)
    × (cell_value context element.tag element.inside ≡ Ok own.1))
    → ValuesTaken wants context old new (values ++ own ∷ [])
values_further {wants = wants} {context = context} {mid = mid} {new = new} {values = values} own
    been takes says =
    let front = takes.takes.front in
    let behind = behind_marks front.passed been.before in
    let element = takes.element in
    let is = says behind element takes.kept takes.holds in
    record {
      before = cell element ∷ behind;
      earlier = behind_formulas takes.kept been.earlier;
      stands = takes.stands;
      all = answer_kept (placed_value context) values own front.passed been.before
          (marks_ahead new) (marks_ahead mid) element _ front.fact
          (front.marks ∙ ap (λ (others : List Mark). front.passed ++ others) takes.takes.next)
          (rw (is.0, is.1) refl) been.all;
      refused = λ refusal own_is. been.refused refusal
          (refused_further (IsCellRefused wants context) refusal takes.takes (own.0, is.0)
          own_is);
    }

-- no cell is left
pub values_whole : {wants : Wants} {context : ValueContext} {old mid new : Stream}
    {values : List ((ℕ × ℕ) × CellValue)} → (been : ValuesTaken wants context old mid values)
    → EndsData NoCell been.before mid new → values_in context (data_ahead old) ≡ Ok values
values_whole {context = context} {mid = mid} {values = values} been ends =
    answers_whole (placed_value context) values been.before (marks_ahead mid) _ ends.rows been.all

-- ---- a reader of all cells

-- some were taken, and the reader stands behind them
pub record TookValues
    (wants : Wants) (context : ValueContext) (old now : Stream) (values : List ((ℕ × ℕ)
    × CellValue))
    : Type 0 where
  pub base : now.base ≡ old.base
  pub keeps : KeepsElements is_cell_start old.base old.reading now.reading
  pub going : IsGoing now
  pub taken : old.reading.source.is_visible ≡ true → ValuesTaken wants context old now values

pub took_none : (wants : Wants) (context : ValueContext) (old : Stream) → IsGoing old
    → StandsBehind [] [] old → TookValues wants context old old []
took_none wants context old going stands = record {
  base = refl;
  keeps = keeps_none is_cell_start old.base old.reading going.reading going.within;
  going = going;
  taken = λ told. values_none wants context old stands;
}

-- what was told to the reader is told still
pub told_still : {wants : Wants} {context : ValueContext} {old mid : Stream}
    {values : List ((ℕ × ℕ) × CellValue)} → TookValues wants context old mid values
    → old.reading.source.is_visible ≡ true → mid.reading.source.is_visible ≡ true
told_still been told = been.keeps.section.reads.moves.parts.is_visible ∙ told

-- one cell more
pub took_further : {wants : Wants} {context : ValueContext} {old mid new : Stream}
    {values more : List ((ℕ × ℕ) × CellValue)} {pos : ℕ × ℕ}
    → (been : TookValues wants context old mid values) → PassesCell pos mid new
    → (old.reading.source.is_visible ≡ true → ValuesTaken wants context old new more)
    → TookValues wants context old new more
took_further {old = old} {mid = mid} {new = new} been stands taken = record {
  base = stands.base ∙ been.base;
  keeps = keeps_on been.keeps
      (subst (λ (n : ℕ). KeepsElements is_cell_start n mid.reading new.reading) been.base
      stands.elements);
  going = stands.goes_on;
  taken = taken;
}

-- a step is refused, and so are the data
pub took_refused : {wants : Wants} {context : ValueContext} {old mid : Stream}
    {values : List ((ℕ × ℕ) × CellValue)} (new : Stream) (error : XlsxError)
    → TookValues wants context old mid values → NextCellFails wants context mid new.reading error
    → DataFails wants context old new error
took_refused {wants = wants} {context = context} {old = old} {mid = mid} new error been fails =
    step_refused wants context old mid new error been.going been.base been.keeps
    (λ told refusal is.
    let taken = been.taken told in
    taken.refused refusal (taken_is_mark (IsCellRefused wants context) taken.before
    (marks_ahead mid) refusal (is taken.before taken.stands.counters)))
    fails

-- ---- readings by two calls

-- what is answered of all cells that are left, each with its position and its value
values_of_all : {A : Type 0} (context : ValueContext)
    (fact : List FormulaText → A → List Mark → Element → List FormulaText → Type 0)
    (entry : A → (ℕ × ℕ) × CellValue)
    → ((earlier : List FormulaText) (own : A) (before : List Mark) (element : Element)
    (kept : List FormulaText) → fact earlier own before element kept
    → (cell_position before element.tag ≡ Ok (entry own).0)
    × (cell_value context element.tag element.inside ≡ Ok (entry own).1))
    → (before : List Mark) (earlier : List FormulaText) (old : Stream) (found : List A)
    → TakesAll fact before earlier old found
    → answers_from (placed_value context) before (marks_ahead old) ≡ Ok (map entry found)
values_of_all context fact entry says before earlier old [] all =
    no_answers (placed_value context) (marks_ahead old) before all.1.rows
values_of_all context fact entry says before earlier old (own ∷ others) all =
    let (new, takes, rest) = all in
    let front = takes.takes.front in
    let behind = behind_marks front.passed before in
    let is = says earlier own behind takes.element takes.kept takes.holds in
    let answer : placed_value context behind takes.element ≡ Ok (entry own) =
    rw (is.0, is.1) refl in
    let later = values_of_all context fact entry says (cell takes.element ∷ behind)
    (behind_formulas takes.kept earlier) new others rest in
    ap (answers_from (placed_value context) before)
    (front.marks ∙ ap (λ (own_marks : List Mark). front.passed ++ own_marks) takes.takes.next)
    ∙ answers_passed (placed_value context) front.passed before
    (cell takes.element ∷ marks_ahead new) front.fact
    ∙ ap (λ (first : Result ((ℕ × ℕ) × CellValue) Refusal). and_others first
    (answers_from (placed_value context) (cell takes.element ∷ behind) (marks_ahead new))) answer
    ∙ ap (and_others (Ok (entry own))) later

pub same_readings : (context : ValueContext) (before : List Mark) (earlier more : List FormulaText)
    (one two : Stream) (cells : List (Cell DataRef)) (records : List XlsxCellFormula)
    → data_ahead one ≡ data_ahead two
    → TakesAll (λ kept. IsValued context) before earlier one cells
    → TakesAll (IsValuedFormula context) before more two records
    → map cell_value_entry cells ≡ map formula_value_entry records
same_readings context before earlier more one two cells records same first second =
    let left = values_of_all context (λ kept. IsValued context) cell_value_entry
    (λ kept_before own passed element kept is. (is.placed, is.valued)) before earlier one cells
    first in
    let right = values_of_all context (IsValuedFormula context) formula_value_entry
    (λ kept_before own passed element kept is. (is.placed, is.valued)) before more two records
    second in
    let both : Ok (map cell_value_entry cells) ≡ Ok (map formula_value_entry records) =
    sym left
    ∙ ap (λ (inside : List Event). answers_from (placed_value context) before (marks inside)) same
    ∙ right in
    cc
