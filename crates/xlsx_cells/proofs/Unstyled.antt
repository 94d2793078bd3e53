-- Cells without a style id that counts are passed.
use Rattle.std.proofs.Common.{◌≡◌, ℕ, suc, List, [], ◌∷◌, ◌++◌, true, false, Ok, refl, sym, ◌∙◌, ap}
use Rattle.std.proofs.Common.{subst, inl, inr, codes}
use Rattle.part_events.specs.Words.{Element, behind_section, section_end}
use Rattle.xlsx_error.specs.declared.error.XlsxError.{XlsxError}
use Rattle.xlsx_error.specs.declared.error.XlsxError.TheVariants.{Failed}
use Rattle.cell_styles.specs.Words.{StyledCell, is_explicit}
use Rattle.xlsx_sections.specs.Words.{KeepsElements, end_outside, SectionFails, Refusal}
use Rattle.xlsx_sections.proofs.Refused.{refused_later}
use Rattle.xlsx_values.specs.Words.{ValueContext}
use Rattle.xlsx_formulas.specs.Words.{FormulaText, behind_formulas}
use Rattle.xlsx_formulas.proofs.Groups.{formulas_kept}
use Rattle.xlsx_sections.proofs.CutOff.{cut_weaker}
use Rattle.xlsx_cells.specs.CellsReader.{styles_alone}
use Rattle.xlsx_cells.specs.Counting.{AreKept}
use Rattle.xlsx_cells.specs.Ends.{end_in_cell, end_in_data}
use Rattle.xlsx_cells.specs.Finding.{IsStepRefused, IsCutOff, LacksCell, PassesTo}
use Rattle.xlsx_cells.specs.Marks.{Mark, cell, is_cell_start, behind_marks}
use Rattle.xlsx_cells.specs.Position.{NoCell}
use Rattle.xlsx_cells.specs.Stream.{Stream, StandsBehind, IsGoing, IsCellRefused, IsRead, TakesCell}
use Rattle.xlsx_cells.specs.Stream.{EndsData, NextCellFails, marks_ahead, are_closed_ahead}
use Rattle.xlsx_cells.specs.Stream.{data_ahead}
use Rattle.xlsx_cells.specs.StyleIds.{placed_id, IsIdRefused}
use Rattle.xlsx_cells.specs.StyleSteps.{IsUnstyled, IsStyled, StyledFails}
use Rattle.xlsx_cells.specs.declared.cell_read.CellRead.{CellRead}
use Rattle.xlsx_cells.proofs.Fronts.{behind_append, passes_weaker, mark_weaker, front_none}
use Rattle.xlsx_cells.proofs.Fronts.{front_joined, front_over, taken_behind, taken_weaker}
use Rattle.xlsx_cells.proofs.Fronts.{refused_behind_front, passes_all, lacks_behind, lacks_weaker}

-- cells without a style id that counts were passed
pub record HasSkipped
    (count : ℕ) (before : List Mark) (earlier : List FormulaText) (old now : Stream)
    : Type 0 where
  pub front : PassesTo (IsUnstyled count) before (data_ahead old) (data_ahead now)
  pub closed : are_closed_ahead old ≡ are_closed_ahead now
  pub stands : StandsBehind (behind_marks front.passed before) earlier now

pub skipped_none : (count : ℕ) (before : List Mark) (earlier : List FormulaText) (old : Stream)
    → StandsBehind before earlier old → HasSkipped count before earlier old old
skipped_none count before earlier old stands = record {
  front = front_none (IsUnstyled count) before (data_ahead old);
  closed = refl;
  stands = stands;
}

no_cell : (count : ℕ) (before : List Mark) (element : Element) → NoCell before element
    → IsUnstyled count before element
no_cell count before element is = absurd is

-- the position and the style id of a cell that was read
read_id : {context : ValueContext} (read : CellRead) (before : List Mark) (element : Element)
    (kept : List FormulaText) → IsRead styles_alone false context read before element kept
    → placed_id before element ≡ Ok (read.pos.0, read.pos.1, read.style_id)
read_id read before element kept is = rw (is.placed, is.styled refl) refl

-- one cell more
pub skipped_further : (count : ℕ) (before : List Mark) (earlier : List FormulaText)
    (context : ValueContext) (old mid new : Stream) (read : CellRead)
    → (been : HasSkipped count before earlier old mid)
    → TakesCell NoCell (behind_marks been.front.passed before) earlier mid new
    (IsRead styles_alone false context read)
    → is_explicit count (read.pos.0, read.pos.1, read.style_id) ≡ false
    → HasSkipped count before earlier old new
skipped_further count before earlier context old mid new read been takes uncounted =
    let behind = behind_marks been.front.passed before in
    let passed = takes.takes.front.passed in
    let element = takes.element in
    let own : StyledCell = (read.pos.0, read.pos.1, read.style_id) in
    let found : placed_id (behind_marks passed behind) element ≡ Ok own =
    read_id read (behind_marks passed behind) element takes.kept takes.holds in
    let same : behind_marks (been.front.passed ++ (passed ++ cell element ∷ [])) before
    ≡ cell element ∷ behind_marks passed behind =
    behind_append been.front.passed (passed ++ cell element ∷ []) before
    ∙ behind_append passed (cell element ∷ []) behind in
    record {
      front = front_joined been.front
          (front_over (taken_weaker (no_cell count) takes.takes) (own, found, uncounted));
      closed = been.closed ∙ takes.closed;
      stands = subst (λ (marks : List Mark). StandsBehind marks earlier new) (sym same)
          (subst (λ (kept : List FormulaText). StandsBehind (cell element
          ∷ behind_marks passed behind) (behind_formulas kept earlier) new) takes.holds.is_kept
          takes.stands);
    }

-- a cell whose style id counts
pub styled_taken : (count : ℕ) (before : List Mark) (earlier : List FormulaText)
    (context : ValueContext) (old mid new : Stream) (read : CellRead)
    → (been : HasSkipped count before earlier old mid)
    → TakesCell NoCell (behind_marks been.front.passed before) earlier mid new
    (IsRead styles_alone false context read)
    → TakesCell (IsUnstyled count) before earlier old new
    (IsStyled (read.pos.0, read.pos.1, read.style_id))
styled_taken count before earlier context old mid new read been takes =
    let behind = behind_marks been.front.passed before in
    let passed = takes.takes.front.passed in
    let element = takes.element in
    let same : behind_marks (been.front.passed ++ passed) before ≡ behind_marks passed behind =
    behind_append been.front.passed passed before in
    record {
      element = element;
      kept = takes.kept;
      takes = taken_behind been.front (taken_weaker (no_cell count) takes.takes);
      closed = been.closed ∙ takes.closed;
      holds = (
        ap (λ (marks : List Mark). placed_id marks element) same
            ∙ read_id read (behind_marks passed behind) element takes.kept takes.holds,
        takes.holds.is_kept,
      );
      stands = subst (λ (marks : List Mark). StandsBehind (cell element ∷ marks)
          (behind_formulas takes.kept earlier) new) (sym same) takes.stands;
    }

pub unstyled_ends : (count : ℕ) (before : List Mark) (earlier : List FormulaText)
    (old mid new : Stream) → (been : HasSkipped count before earlier old mid)
    → behind_section mid.base mid.reading ≡ behind_section old.base old.reading
    → section_end mid.base mid.reading ≡ section_end old.base old.reading
    → EndsData NoCell (behind_marks been.front.passed before) mid new
    → EndsData (IsUnstyled count) before old new
unstyled_ends count before earlier old mid new been behind last ends = record {
  rows = passes_all been.front
      (passes_weaker (no_cell count) (marks_ahead mid) (behind_marks been.front.passed before)
      ends.rows);
  closed = been.closed ∙ ends.closed;
  left = sym behind ∙ ends.left;
  ends = ends.ends ∙ ap suc last;
}

-- ---- what is refused

id_refused : (context : ValueContext) (before : List Mark) (element : Element) (refusal : Refusal)
    → IsCellRefused styles_alone context before element refusal
    → IsIdRefused before element refusal
id_refused context before element refusal (inl misplaced) = inl misplaced
id_refused context before element refusal (inr (inl valued)) =
    absurd (let both : false ≡ true = valued.0 in cc)
id_refused context before element refusal (inr (inr (inl listed))) =
    absurd (let both : false ≡ true = listed.0 in cc)
id_refused context before element refusal (inr (inr (inr named))) = inr named.1

-- a step behind them is cut off
styled_cut : (count : ℕ) (old mid : Stream) (error : XlsxError) → mid.base ≡ old.base
    → KeepsElements is_cell_start old.base old.reading mid.reading
    → (old.reading.source.is_visible ≡ true → (before : List Mark) (earlier : List FormulaText)
    → StandsBehind before earlier old → HasSkipped count before earlier old mid)
    → IsCutOff NoCell mid.counters mid.base mid.reading error
    → IsCutOff (IsUnstyled count) old.counters old.base old.reading error
styled_cut count old mid error same keeps skipped cut =
    cut_weaker (mid.reading.source.is_visible ≡ true → (before : List Mark)
    → AreKept before mid.counters → LacksCell NoCell before (data_ahead mid))
    (old.reading.source.is_visible ≡ true → (before : List Mark) → AreKept before old.counters
    → LacksCell (IsUnstyled count) before (data_ahead old)) error
    (λ lacks told before kept.
    let some = formulas_kept old.masters in
    let been = skipped told before some.0 (record { counters = kept; masters = some.1 }) in
    lacks_behind been.front (rw same (keeps.unclosed told))
    (lacks_weaker (no_cell count)
    (lacks (keeps.section.reads.moves.parts.is_visible ∙ told)
    (behind_marks been.front.passed before)
    been.stands.counters)))
    cut

-- a step behind them is refused
pub styled_refused : (count : ℕ) (context : ValueContext) (old mid new : Stream) (error : XlsxError)
    → IsGoing old → IsGoing mid → mid.base ≡ old.base
    → KeepsElements is_cell_start old.base old.reading mid.reading
    → (old.reading.source.is_visible ≡ true → (before : List Mark) (earlier : List FormulaText)
    → StandsBehind before earlier old → HasSkipped count before earlier old mid)
    → NextCellFails styles_alone context mid new.reading error
    → StyledFails count old new.reading error
styled_refused count context old mid new Failed first going same keeps skipped fails =
    absurd (let both : true ≡ false = sym fails ∙ going.failed in cc)
styled_refused count context old mid new error first going same keeps skipped fails =
    let refused = IsStepRefused NoCell (IsCellRefused styles_alone context) mid.counters in
    let here : SectionFails (end_in_data styles_alone) refused old.base mid.reading new.reading
    error = subst (λ (n : ℕ). SectionFails (end_in_data styles_alone) refused n mid.reading
    new.reading error) same fails.1 in
    let cause = refused_later old.base old.reading mid.reading (end_in_data styles_alone) refused
    (IsStepRefused (IsUnstyled count) IsIdRefused old.counters) new.reading error keeps.section
    (λ told. ap (end_outside (codes "sheetData") (end_in_cell styles_alone))
    (keeps.unclosed told))
    (λ told refusal is before kept.
    let some = formulas_kept old.masters in
    let been = skipped told before some.0 (record { counters = kept; masters = some.1 }) in
    let behind = behind_marks been.front.passed before in
    refused_behind_front IsIdRefused refusal been.front
    (mark_weaker (no_cell count) (id_refused context) behind (marks_ahead mid) refusal
    (rw same (is behind been.stands.counters))))
    here in
    (first, cause, styled_cut count old mid error same keeps skipped fails.2)
