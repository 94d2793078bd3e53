-- How the cells of a sheet's data are collected.
use Rattle.std.proofs.Common.{◌≡◌, ℕ, List, [], ◌∷◌, ◌++◌, append-nil, Bool, true, false, Option}
use Rattle.std.proofs.Common.{Result, Ok, refl, sym, ◌∙◌, ap, subst, codes, map}
use Rattle.std.specs.Prelude.{if◌then◌else◌, filter}
use Rattle.std.proofs.lemmas.List.Elements.{filter-append}
use Rattle.part_events.specs.Words.{Tag, Reading, Element, section_ahead}
use Rattle.xlsx_error.specs.declared.error.XlsxError.{XlsxError}
use Rattle.xlsx_error.specs.declared.error.XlsxError.TheVariants.{Failed}
use Rattle.cell_data.specs.Words.{CellValue, value_of_data_ref}
use Rattle.cell_data.specs.declared.value.DataRef.{DataRef}
use Rattle.cell_styles.specs.Words.{StyledCell, is_explicit}
use Rattle.xlsx_sections.specs.Words.{prepended, KeepsElements, end_outside, SectionFails, Refusal}
use Rattle.xlsx_sections.proofs.Kept.{prepended-and_others}
use Rattle.xlsx_sections.proofs.Refused.{refused_later}
use Rattle.xlsx_sections.proofs.SectionsRead.{keeps_further}
use Rattle.xlsx_values.specs.Words.{ValueContext}
use Rattle.xlsx_formulas.specs.Words.{FormulaText, cell_formula, behind_formulas}
use Rattle.xlsx_formulas.specs.declared.cell_formula.CellFormula.{CellFormula}
use Rattle.xlsx_cells.specs.CellErrors.{IsCellError, IsStyledError, IsStreamError}
use Rattle.xlsx_cells.specs.CellErrors.{IsStyledStreamError}
use Rattle.xlsx_cells.specs.Counting.{AreKept}
use Rattle.xlsx_cells.specs.Ends.{end_in_cell, end_in_data}
use Rattle.xlsx_cells.specs.Finding.{IsMarkRefused, IsStepRefused}
use Rattle.xlsx_cells.specs.Marks.{Mark, row_start, row_end, cell, is_cell_start, marks}
use Rattle.xlsx_cells.specs.Marks.{behind_marks}
use Rattle.xlsx_cells.specs.Position.{PassesMarks, NoCell, IsPlaced}
use Rattle.xlsx_cells.specs.Sheet.{behind_row, answers_from, placed_value, placed_formulas}
use Rattle.xlsx_cells.specs.Sheet.{values_in, formulas_written, formulas_along, is_nothing}
use Rattle.xlsx_cells.specs.Sheet.{is_empty, used_values, used_formulas}
use Rattle.xlsx_cells.specs.SheetPart.{AreDataRefused, DataFails, HoldsValues, HoldsFormulas}
use Rattle.xlsx_cells.specs.SheetPart.{LackUnwanted, value_entry, value_entries, formula_entry}
use Rattle.xlsx_cells.specs.SheetPart.{formula_entries}
use Rattle.xlsx_cells.specs.Stream.{Stream, StandsBehind, IsGoing, IsCellRefused, IsWritten}
use Rattle.xlsx_cells.specs.Stream.{TakesCell, NextCellFails, marks_ahead, data_ahead, WrittenCell}
use Rattle.xlsx_cells.specs.Stream.{LacksUnwantedText}
use Rattle.xlsx_cells.specs.StyleIds.{placed_id, ids_in, HoldsIds}
use Rattle.xlsx_cells.specs.declared.children.Wants.{Wants}
use Rattle.xlsx_cells.proofs.Fronts.{mark_weaker, no_cell, refused_further}

-- rows that were passed have no answer
pub answers_passed : {A : Type 0} (answer : List Mark → Element → Result A Refusal)
    (passed before marks : List Mark) → PassesMarks NoCell before passed
    → answers_from answer before (passed ++ marks)
    ≡ answers_from answer (behind_marks passed before) marks
answers_passed answer [] before marks rows = refl
answers_passed answer (row_start tag ∷ passed) before marks rows =
    ap (λ (row : Result (Option ℕ) Refusal). behind_row row
    (answers_from answer (row_start tag ∷ before) (passed ++ marks))) rows.0.1
    ∙ answers_passed answer passed (row_start tag ∷ before) marks rows.1
answers_passed answer (row_end ∷ passed) before marks rows =
    answers_passed answer passed (row_end ∷ before) marks rows
answers_passed answer (cell element ∷ passed) before marks rows = absurd rows.0

pub no_answers : {A : Type 0} (answer : List Mark → Element → Result A Refusal)
    (passed before : List Mark) → PassesMarks NoCell before passed
    → answers_from answer before passed ≡ Ok []
no_answers answer [] before rows = refl
no_answers answer (row_start tag ∷ passed) before rows =
    ap (λ (row : Result (Option ℕ) Refusal). behind_row row
    (answers_from answer (row_start tag ∷ before) passed)) rows.0.1
    ∙ no_answers answer passed (row_start tag ∷ before) rows.1
no_answers answer (row_end ∷ passed) before rows =
    no_answers answer passed (row_end ∷ before) rows
no_answers answer (cell element ∷ passed) before rows = absurd rows.0

-- the answer of a cell that was taken is kept
pub answer_kept : {A : Type 0} (answer : List Mark → Element → Result A Refusal) (kept : List A)
    (own : A) (passed before others all : List Mark) (element : Element)
    (whole : Result (List A) Refusal) → PassesMarks NoCell before passed
    → all ≡ passed ++ cell element ∷ others
    → answer (behind_marks passed before) element ≡ Ok own
    → prepended kept (answers_from answer before all) ≡ whole
    → prepended (kept ++ own ∷ [])
    (answers_from answer (cell element ∷ behind_marks passed before) others) ≡ whole
answer_kept answer kept own passed before others all element whole rows same is holds =
    let behind = behind_marks passed before in
    prepended-and_others kept own (answer behind element)
    (answers_from answer (cell element ∷ behind) others) is
    ∙ ap (prepended kept) (sym (answers_passed answer passed before (cell element ∷ others) rows))
    ∙ ap (λ (own_marks : List Mark). prepended kept (answers_from answer before own_marks))
    (sym same) ∙ holds

pub answers_whole : {A : Type 0} (answer : List Mark → Element → Result A Refusal) (kept : List A)
    (before all : List Mark) (whole : Result (List A) Refusal) → PassesMarks NoCell before all
    → prepended kept (answers_from answer before all) ≡ whole → whole ≡ Ok kept
answers_whole answer kept before all whole rows holds =
    sym holds ∙ ap (prepended kept) (no_answers answer all before rows) ∙ ap Ok (append-nil kept)

-- what stands before a cell, behind others with their formulas
abbrev pub behind_cells :
    List ((ℕ × ℕ) × List FormulaText) → List FormulaText → List FormulaText
behind_cells [] earlier = earlier
behind_cells (first ∷ others) earlier = behind_cells others (behind_formulas first.1 earlier)

pub behind_cells_further : (passed : List ((ℕ × ℕ) × List FormulaText)) (earlier : List FormulaText)
    (own : (ℕ × ℕ) × List FormulaText)
    → behind_cells (passed ++ own ∷ []) earlier
    ≡ behind_formulas own.1 (behind_cells passed earlier)
behind_cells_further [] earlier own = refl
behind_cells_further (first ∷ others) earlier own =
    behind_cells_further others (behind_formulas first.1 earlier) own

pub along_further : (passed : List ((ℕ × ℕ) × List FormulaText)) (earlier : List FormulaText)
    (own : (ℕ × ℕ) × List FormulaText)
    → formulas_along earlier (passed ++ own ∷ [])
    ≡ formulas_along earlier passed
    ++ (own.0, cell_formula (behind_cells passed earlier) own.0 own.1) ∷ []
along_further [] earlier own = refl
along_further (first ∷ others) earlier own =
    ap (λ (rest : List ((ℕ × ℕ) × List ℕ)).
    (first.0, cell_formula earlier first.0 first.1) ∷ rest)
    (along_further others (behind_formulas first.1 earlier) own)

used_value_if : {A : Type 0} (b : Bool) (own : A) (first second : List A)
    → (if b then first ++ second else own ∷ (first ++ second))
    ≡ (if b then first else own ∷ first) ++ second
used_value_if true own first second = refl
used_value_if false own first second = refl

used_values_further : (passed others : List ((ℕ × ℕ) × CellValue))
    → used_values (passed ++ others) ≡ used_values passed ++ used_values others
used_values_further [] others = refl
used_values_further (first ∷ passed) others =
    rw (used_values_further passed others)
    (used_value_if (is_nothing first.1) first (used_values passed) (used_values others))

used_formulas_further : (passed others : List ((ℕ × ℕ) × List ℕ))
    → used_formulas (passed ++ others) ≡ used_formulas passed ++ used_formulas others
used_formulas_further [] others = refl
used_formulas_further (first ∷ passed) others =
    rw (used_formulas_further passed others)
    (used_value_if (is_empty first.1) first (used_formulas passed) (used_formulas others))

-- a mark that a step takes is one of the marks
pub taken_is_mark : (refused : List Mark → Element → Refusal → Type 0) (before others : List Mark)
    (refusal : Refusal) → IsMarkRefused NoCell refused before others refusal
    → IsMarkRefused IsPlaced refused before others refusal
taken_is_mark refused before others refusal is =
    mark_weaker no_cell (λ own element one is_refused. is_refused) before others refusal is

-- the values so far, where they are wanted
pub record ValuesSoFar
    (context : ValueContext) (before : List Mark) (old now : Stream)
    (values : List ((ℕ × ℕ) × CellValue)) : Type 0 where
  pub passed : List ((ℕ × ℕ) × CellValue)
  pub all :
      prepended passed (answers_from (placed_value context) before (marks_ahead now))
      ≡ values_in context (data_ahead old)
  pub used : values ≡ used_values passed

-- and the formulas
pub record FormulasSoFar
    (before : List Mark) (earlier : List FormulaText) (old now : Stream)
    (formulas : List ((ℕ × ℕ) × List ℕ)) : Type 0 where
  pub passed : List ((ℕ × ℕ) × List FormulaText)
  pub all :
      prepended passed (answers_from placed_formulas before (marks_ahead now))
      ≡ formulas_written (data_ahead old)
  pub behind : earlier ≡ behind_cells passed []
  pub used : formulas ≡ used_formulas (formulas_along [] passed)

-- and the style ids
pub record IdsSoFar
    (count : ℕ) (before : List Mark) (old now : Stream) (ids : List StyledCell) : Type 0 where
  pub passed : List StyledCell
  pub all :
      prepended passed (answers_from placed_id before (marks_ahead now)) ≡ ids_in (data_ahead old)
  pub used : ids ≡ filter (is_explicit count) passed

-- the cells of a sheet's data were collected up to here
pub record HasCollected
    (wants : Wants) (context : ValueContext) (count : ℕ) (old now : Stream)
    (values : List ((ℕ × ℕ) × CellValue)) (formulas : List ((ℕ × ℕ) × List ℕ))
    (ids : List StyledCell) : Type 0 where
  pub before : List Mark
  pub earlier : List FormulaText
  pub stands : StandsBehind before earlier now
  pub valued : wants.values ≡ true → ValuesSoFar context before old now values
  pub listed : wants.formulas ≡ true → FormulasSoFar before earlier old now formulas
  pub styled : wants.styles ≡ true → IdsSoFar count before old now ids
  pub refused :
      (refusal : Refusal) →
      IsMarkRefused IsPlaced (IsCellRefused wants context) before (marks_ahead now) refusal →
      IsMarkRefused IsPlaced (IsCellRefused wants context) [] (marks_ahead old) refusal

-- one cell more
pub collected_further : (wants : Wants) (context : ValueContext) (count : ℕ) (old mid new : Stream)
    (values : List ((ℕ × ℕ) × CellValue)) (formulas : List ((ℕ × ℕ) × List ℕ))
    (ids : List StyledCell) (read : WrittenCell)
    → (been : HasCollected wants context count old mid values formulas ids)
    → TakesCell NoCell been.before been.earlier mid new
    (IsWritten wants context been.earlier read)
    → HasCollected wants context count old new
    (values ++ used_values ((read.pos, value_of_data_ref read.value) ∷ []))
    (formulas ++ used_formulas ((read.pos, read.text) ∷ []))
    (ids ++ filter (is_explicit count) ((read.pos.0, read.pos.1, read.style_id) ∷ []))
collected_further wants context count old mid new values formulas ids read been takes =
    let front = takes.takes.front in
    let behind = behind_marks front.passed been.before in
    let element = takes.element in
    let marks_same : marks_ahead mid ≡ front.passed ++ cell element ∷ marks_ahead new =
    front.marks ∙ ap (λ (others : List Mark). front.passed ++ others) takes.takes.next in
    let value = value_of_data_ref read.value in
    record {
      before = cell element ∷ behind;
      earlier = behind_formulas takes.kept been.earlier;
      stands = takes.stands;
      valued = λ wanted.
          let so_far = been.valued wanted in
          let answer : placed_value context behind element ≡ Ok (read.pos, value) =
          rw (takes.holds.placed, takes.holds.valued wanted) refl in
          record {
            passed = so_far.passed ++ (read.pos, value) ∷ [];
            all = answer_kept (placed_value context) so_far.passed (read.pos, value) front.passed
                been.before (marks_ahead new) (marks_ahead mid) element _ front.fact marks_same
                answer so_far.all;
            used = ap (λ (own : List ((ℕ × ℕ) × CellValue)). own
                ++ used_values ((read.pos, value) ∷ [])) so_far.used
                ∙ sym (used_values_further so_far.passed ((read.pos, value) ∷ []));
          };
      listed = λ wanted.
          let so_far = been.listed wanted in
          let own : (ℕ × ℕ) × List FormulaText = (read.pos, takes.kept) in
          let answer : placed_formulas behind element ≡ Ok own =
          rw (takes.holds.placed, takes.holds.listed wanted) refl in
          let text : read.text
          ≡ cell_formula (behind_cells so_far.passed []) read.pos takes.kept =
          takes.holds.found wanted
          ∙ ap (λ (all : List FormulaText). cell_formula all read.pos takes.kept) so_far.behind in
          record {
            passed = so_far.passed ++ own ∷ [];
            all = answer_kept placed_formulas so_far.passed own front.passed
                been.before (marks_ahead new) (marks_ahead mid) element _ front.fact marks_same
                answer so_far.all;
            behind = ap (behind_formulas takes.kept) so_far.behind
                ∙ sym (behind_cells_further so_far.passed [] own);
            used = ap (λ (all : List ((ℕ × ℕ) × List ℕ)). all
                ++ used_formulas ((read.pos, read.text) ∷ [])) so_far.used
                ∙ ap (λ (formula : List ℕ). used_formulas (formulas_along [] so_far.passed)
                ++ used_formulas ((read.pos, formula) ∷ [])) text
                ∙ sym (used_formulas_further (formulas_along [] so_far.passed)
                ((read.pos, cell_formula (behind_cells so_far.passed []) read.pos takes.kept) ∷ []))
                ∙ ap used_formulas (sym (along_further so_far.passed [] own));
          };
      styled = λ wanted.
          let so_far = been.styled wanted in
          let own : StyledCell = (read.pos.0, read.pos.1, read.style_id) in
          let answer : placed_id behind element ≡ Ok own =
          rw (takes.holds.placed, takes.holds.styled wanted) refl in
          record {
            passed = so_far.passed ++ own ∷ [];
            all = answer_kept placed_id so_far.passed own front.passed been.before
                (marks_ahead new) (marks_ahead mid) element _ front.fact marks_same answer
                so_far.all;
            used = ap (λ (all : List StyledCell). all ++ filter (is_explicit count) (own ∷ []))
                so_far.used
                ∙ sym (filter-append (is_explicit count) so_far.passed (own ∷ []));
          };
      refused = λ refusal is. been.refused refusal
          (refused_further (IsCellRefused wants context) refusal takes.takes
          (read.pos, takes.holds.placed) is);
    }

no_entries : {A B : Type 0} (entry : A → B) (cells : List A) → map entry cells ≡ [] → cells ≡ []
no_entries entry [] is = refl
no_entries entry (own ∷ cells) is = absurd (cc)

-- what isn't wanted of one cell more leaves nothing
pub unwanted_further : (wants : Wants) (count : ℕ)
    (values more_values : List ((ℕ × ℕ) × DataRef))
    (formulas more_formulas : List ((ℕ × ℕ) × CellFormula)) (ids more_ids : List StyledCell)
    (read : WrittenCell) → LackUnwanted wants values formulas ids
    → LacksUnwantedText wants read
    → value_entries more_values
    ≡ value_entries values ++ used_values ((read.pos, value_of_data_ref read.value) ∷ [])
    → formula_entries more_formulas
    ≡ formula_entries formulas ++ used_formulas ((read.pos, read.text) ∷ [])
    → more_ids
    ≡ ids ++ filter (is_explicit count) ((read.pos.0, read.pos.1, read.style_id) ∷ [])
    → LackUnwanted wants more_values more_formulas more_ids
unwanted_further wants count values more_values formulas more_formulas ids more_ids read
    been lacks valued listed styled = record {
      values = λ unwanted. no_entries value_entry more_values
          (valued ∙ rw (been.values unwanted, lacks.value unwanted) refl);
      formulas = λ unwanted. no_entries formula_entry more_formulas
          (listed ∙ rw (been.formulas unwanted, lacks.text unwanted) refl);
      ids = λ unwanted. styled ∙ rw (been.ids unwanted, lacks.style unwanted) refl;
    }

pub values_whole : (wants : Wants) (context : ValueContext) (count : ℕ) (old now : Stream)
    (values : List ((ℕ × ℕ) × CellValue)) (formulas : List ((ℕ × ℕ) × List ℕ))
    (ids : List StyledCell)
    → (been : HasCollected wants context count old now values formulas ids)
    → PassesMarks NoCell been.before (marks_ahead now) → wants.values ≡ true
    → HoldsValues context (data_ahead old) values
values_whole wants context count old now values formulas ids been rows wanted =
    let so_far = been.valued wanted in (
      so_far.passed,
      answers_whole (placed_value context) so_far.passed been.before (marks_ahead now) _ rows
          so_far.all,
      so_far.used,
    )

pub formulas_whole : (wants : Wants) (context : ValueContext) (count : ℕ) (old now : Stream)
    (values : List ((ℕ × ℕ) × CellValue)) (formulas : List ((ℕ × ℕ) × List ℕ))
    (ids : List StyledCell)
    → (been : HasCollected wants context count old now values formulas ids)
    → PassesMarks NoCell been.before (marks_ahead now) → wants.formulas ≡ true
    → HoldsFormulas (data_ahead old) formulas
formulas_whole wants context count old now values formulas ids been rows wanted =
    let so_far = been.listed wanted in (
      so_far.passed,
      answers_whole placed_formulas so_far.passed been.before (marks_ahead now) _ rows
          so_far.all,
      so_far.used,
    )

pub ids_whole : (wants : Wants) (context : ValueContext) (count : ℕ) (old now : Stream)
    (values : List ((ℕ × ℕ) × CellValue)) (formulas : List ((ℕ × ℕ) × List ℕ))
    (ids : List StyledCell)
    → (been : HasCollected wants context count old now values formulas ids)
    → PassesMarks NoCell been.before (marks_ahead now) → wants.styles ≡ true
    → HoldsIds count (data_ahead old) ids
ids_whole wants context count old now values formulas ids been rows wanted =
    let so_far = been.styled wanted in (
      so_far.passed,
      answers_whole placed_id so_far.passed been.before (marks_ahead now) _ rows so_far.all,
      so_far.used,
    )

pub keeps_on : {wanted : Tag → Bool} {base : ℕ} {first mid last : Reading}
    → KeepsElements wanted base first mid → KeepsElements wanted base mid last
    → KeepsElements wanted base first last
keeps_on before after = record {
  section = keeps_further before.section after.section;
  unclosed = λ told.
      after.unclosed (before.section.reads.moves.parts.is_visible ∙ told) ∙ before.unclosed told;
  behind = λ told.
      after.behind (before.section.reads.moves.parts.is_visible ∙ told) ∙ before.behind told;
}

-- a step is refused, and so are the data
pub step_refused : (wants : Wants) (context : ValueContext) (old mid new : Stream)
    (error : XlsxError)
    → IsGoing mid → mid.base ≡ old.base → KeepsElements is_cell_start old.base old.reading
    mid.reading
    → (old.reading.source.is_visible ≡ true
    → (refusal : Refusal) → ((before : List Mark) → AreKept before mid.counters
    → IsMarkRefused NoCell (IsCellRefused wants context) before (marks_ahead mid) refusal)
    → IsMarkRefused IsPlaced (IsCellRefused wants context) [] (marks_ahead old) refusal)
    → NextCellFails wants context mid new.reading error → DataFails wants context old new error
step_refused wants context old mid new Failed going same keeps weaker fails =
    absurd (let both : true ≡ false = sym fails ∙ going.failed in cc)
step_refused wants context old mid new error going same keeps weaker fails =
    let refused = IsStepRefused NoCell (IsCellRefused wants context) mid.counters in
    let here : SectionFails (end_in_data wants) refused old.base mid.reading new.reading error =
    subst (λ (n : ℕ). SectionFails (end_in_data wants) refused n mid.reading new.reading error) same
    fails.1 in
    refused_later old.base old.reading mid.reading (end_in_data wants) refused
    (AreDataRefused wants context) new.reading error keeps.section
    (λ told. ap (end_outside (codes "sheetData") (end_in_cell wants)) (keeps.unclosed told))
    (λ told refusal is. weaker told refusal (λ before kept.
    subst (λ (n : ℕ). IsMarkRefused NoCell (IsCellRefused wants context) before
    (marks (section_ahead n mid.reading)) refusal) (sym same) (is before kept)))
    here

-- a step behind which no call was refused doesn't answer that one was
pub step_error : (wants : Wants) (context : ValueContext) (mid new : Stream) (error : XlsxError)
    → IsGoing mid → NextCellFails wants context mid new.reading error → IsStreamError error
    → IsCellError error
step_error wants context mid new Failed going fails is =
    absurd (let both : true ≡ false = sym fails ∙ going.failed in cc)
step_error wants context mid new error going fails is = is

pub styled_error : (wants : Wants) (context : ValueContext) (mid new : Stream) (error : XlsxError)
    → IsGoing mid → NextCellFails wants context mid new.reading error → IsStyledStreamError error
    → IsStyledError error
styled_error wants context mid new Failed going fails is =
    absurd (let both : true ≡ false = sym fails ∙ going.failed in cc)
styled_error wants context mid new error going fails is = is
