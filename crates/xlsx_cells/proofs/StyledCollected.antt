-- How the values of a sheet's data are collected, each with the style id of its cell.
use Rattle.std.proofs.Common.{◌≡◌, ℕ, suc, List, [], ◌∷◌, ◌++◌, Bool, Ok, true, refl, sym, ◌∙◌, ap}
use Rattle.std.proofs.Common.{length, map}
use Rattle.std.specs.Prelude.{filter, zip}
use Rattle.std.proofs.lemmas.List.Elements.{filter-append}
use Rattle.cell_data.specs.Words.{CellValue, value_of_data_ref}
use Rattle.cell_styles.specs.Words.{StyledCell}
use Rattle.xlsx_sections.specs.Words.{prepended, Refusal}
use Rattle.xlsx_sections.proofs.Kept.{prepended-nil}
use Rattle.xlsx_values.specs.Words.{ValueContext}
use Rattle.xlsx_formulas.specs.Words.{FormulaText, behind_formulas}
use Rattle.xlsx_cells.specs.Finding.{IsMarkRefused}
use Rattle.xlsx_cells.specs.Marks.{Mark, cell, behind_marks}
use Rattle.xlsx_cells.specs.Position.{PassesMarks, NoCell, IsPlaced}
use Rattle.xlsx_cells.specs.Sheet.{answers_from, placed_value, placed_formulas, values_in}
use Rattle.xlsx_cells.specs.Sheet.{formulas_written}
use Rattle.xlsx_cells.specs.Stream.{Stream, StandsBehind, IsCellRefused, IsRead, TakesCell}
use Rattle.xlsx_cells.specs.Stream.{marks_ahead, data_ahead}
use Rattle.xlsx_cells.specs.StyleIds.{placed_id, ids_in}
use Rattle.xlsx_cells.specs.StyledValues.{value_with_style, is_used, styled_values}
use Rattle.xlsx_cells.specs.StyledValues.{HoldsStyledValues}
use Rattle.xlsx_cells.specs.declared.cell_read.CellRead.{CellRead}
use Rattle.xlsx_cells.specs.declared.children.Wants.{Wants}
use Rattle.xlsx_cells.proofs.Collecting.{answer_kept, answers_whole}
use Rattle.xlsx_cells.proofs.Fronts.{refused_further}

-- one pair more
pub zip_further : {A B : Type 0} (xs : List A) (ys : List B) (a : A) (b : B) → length xs ≡ length ys
    → zip (xs ++ a ∷ []) (ys ++ b ∷ []) ≡ zip xs ys ++ (a, b) ∷ []
zip_further [] [] a b same = refl
zip_further [] (y ∷ ys) a b same = absurd (cc)
zip_further (x ∷ xs) [] a b same = absurd (cc)
zip_further (x ∷ xs) (y ∷ ys) a b same =
    ap (λ others. (x, y) ∷ others) (zip_further xs ys a b (cc))

pub map_further : {A B : Type 0} (f : A → B) (xs : List A) (a : A)
    → map f (xs ++ a ∷ []) ≡ map f xs ++ f a ∷ []
map_further f [] a = refl
map_further f (x ∷ xs) a = ap (λ others. f x ∷ others) (map_further f xs a)

pub length_further : {A : Type 0} (xs : List A) (a : A) → length (xs ++ a ∷ []) ≡ suc (length xs)
length_further [] a = refl
length_further (x ∷ xs) a = ap suc (length_further xs a)

styled_further : (values : List ((ℕ × ℕ) × CellValue)) (ids : List StyledCell)
    (value : (ℕ × ℕ) × CellValue) (id : StyledCell) → length values ≡ length ids
    → styled_values (values ++ value ∷ []) (ids ++ id ∷ [])
    ≡ styled_values values ids ++ filter is_used (value_with_style (value, id) ∷ [])
styled_further values ids value id same =
    ap (λ pairs. filter is_used (map value_with_style pairs)) (zip_further values ids value id same)
    ∙ ap (filter is_used) (map_further value_with_style (zip values ids) (value, id))
    ∙ filter-append is_used (map value_with_style (zip values ids))
    (value_with_style (value, id) ∷ [])

-- the values of a sheet's data were collected up to here
pub record HasStyled
    (wants : Wants) (context : ValueContext) (old now : Stream)
    (found : List ((ℕ × ℕ) × (CellValue × ℕ))) : Type 0
  where
    pub before : List Mark
    pub earlier : List FormulaText
    pub stands : StandsBehind before earlier now
    pub values : List ((ℕ × ℕ) × CellValue)
    pub ids : List StyledCell
    pub valued :
        prepended values (answers_from (placed_value context) before (marks_ahead now))
        ≡ values_in context (data_ahead old)
    pub written :
        wants.formulas ≡ true →
        (formulas : List ((ℕ × ℕ) × List FormulaText))
        × (prepended formulas (answers_from placed_formulas before (marks_ahead now))
        ≡ formulas_written (data_ahead old))
    pub styled :
        prepended ids (answers_from placed_id before (marks_ahead now)) ≡ ids_in (data_ahead old)
    pub same : length values ≡ length ids
    pub used : found ≡ styled_values values ids
    pub refused :
        (refusal : Refusal) →
        IsMarkRefused IsPlaced (IsCellRefused wants context) before (marks_ahead now) refusal
        → IsMarkRefused IsPlaced (IsCellRefused wants context) [] (marks_ahead old) refusal

-- none so far
pub styled_none : (wants : Wants) (context : ValueContext) (s : Stream) → StandsBehind [] [] s
    → HasStyled wants context s s []
styled_none wants context s stands = record {
  before = [];
  earlier = [];
  stands = stands;
  values = [];
  ids = [];
  valued = prepended-nil (values_in context (data_ahead s));
  written = λ wanted. ([], prepended-nil (formulas_written (data_ahead s)));
  styled = prepended-nil (ids_in (data_ahead s));
  same = refl;
  used = refl;
  refused = λ refusal is. is;
}

-- one cell more
pub styled_cell : (wants : Wants) (keeps : Bool) (context : ValueContext) (old mid new : Stream)
    (found : List ((ℕ × ℕ) × (CellValue × ℕ))) (read : CellRead) → wants.values ≡ true
    → wants.styles ≡ true → (been : HasStyled wants context old mid found)
    → TakesCell NoCell been.before been.earlier mid new (IsRead wants keeps context read)
    → HasStyled wants context old new (found
    ++ filter is_used ((read.pos, (value_of_data_ref read.value, read.style_id)) ∷ []))
styled_cell wants keeps context old mid new found read values_wanted ids_wanted been takes =
    let front = takes.takes.front in
    let behind = behind_marks front.passed been.before in
    let element = takes.element in
    let marks_same : marks_ahead mid ≡ front.passed ++ cell element ∷ marks_ahead new =
    front.marks ∙ ap (λ (others : List Mark). front.passed ++ others) takes.takes.next in
    let value : (ℕ × ℕ) × CellValue = (read.pos, value_of_data_ref read.value) in
    let formulas : (ℕ × ℕ) × List FormulaText = (read.pos, takes.holds.written) in
    let id : StyledCell = (read.pos.0, read.pos.1, read.style_id) in
    let valued : placed_value context behind element ≡ Ok value =
    rw (takes.holds.placed, takes.holds.valued values_wanted) refl in
    let styled : placed_id behind element ≡ Ok id =
    rw (takes.holds.placed, takes.holds.styled ids_wanted) refl in
    record {
      before = cell element ∷ behind;
      earlier = behind_formulas takes.kept been.earlier;
      stands = takes.stands;
      values = been.values ++ value ∷ [];
      ids = been.ids ++ id ∷ [];
      valued = answer_kept (placed_value context) been.values value front.passed been.before
          (marks_ahead new) (marks_ahead mid) element _ front.fact marks_same valued been.valued;
      written = λ wanted.
          let (passed, all) = been.written wanted in
          let own : placed_formulas behind element ≡ Ok formulas =
          rw (takes.holds.placed, takes.holds.listed wanted) refl in (
            passed ++ formulas ∷ [],
            answer_kept placed_formulas passed formulas front.passed been.before
                (marks_ahead new) (marks_ahead mid) element _ front.fact marks_same own all,
          );
      styled = answer_kept placed_id been.ids id front.passed been.before (marks_ahead new)
          (marks_ahead mid) element _ front.fact marks_same styled been.styled;
      same = length_further been.values value ∙ ap suc been.same
          ∙ sym (length_further been.ids id);
      used = ap (λ own. own ++ filter is_used (value_with_style (value, id) ∷ [])) been.used
          ∙ sym (styled_further been.values been.ids value id been.same);
      refused = λ refusal is. been.refused refusal
          (refused_further (IsCellRefused wants context) refusal takes.takes
          (read.pos, takes.holds.placed) is);
    }

-- all cells
pub styled_whole : (wants : Wants) (context : ValueContext) (old now : Stream)
    (found : List ((ℕ × ℕ) × (CellValue × ℕ))) (been : HasStyled wants context old now found)
    → PassesMarks NoCell been.before (marks_ahead now)
    → HoldsStyledValues wants context (data_ahead old) found
styled_whole wants context old now found been rows = record {
  values = been.values;
  ids = been.ids;
  valued = answers_whole (placed_value context) been.values been.before (marks_ahead now) _ rows
      been.valued;
  styled = answers_whole placed_id been.ids been.before (marks_ahead now) _ rows been.styled;
  used = been.used;
  written = λ wanted.
      let (passed, all) = been.written wanted in
      (passed, answers_whole placed_formulas passed been.before (marks_ahead now) _ rows all);
}
