-- How the formulas of a sheet's data are collected, each with the area that it covers.
use Rattle.std.proofs.Common.{◌≡◌, ℕ, suc, List, [], ◌∷◌, ◌++◌, Ok, true, refl, sym, ◌∙◌, ap}
use Rattle.std.proofs.Common.{length, map, append-nil, append_assoc, Option}
use Rattle.std.specs.Prelude.{filter, zip}
use Rattle.std.proofs.lemmas.List.Elements.{filter-append}
use Rattle.cell_refs.specs.declared.dimensions.Dimensions.{Dimensions}
use Rattle.xlsx_sections.specs.Words.{prepended, Refusal}
use Rattle.xlsx_sections.proofs.Kept.{prepended-nil}
use Rattle.xlsx_values.specs.Words.{ValueContext}
use Rattle.xlsx_formulas.specs.Words.{FormulaText, behind_formulas, cell_formula, covers_in}
use Rattle.xlsx_formulas.specs.Words.{covered}
use Rattle.xlsx_cells.specs.CoveredFormulas.{covers_said, with_covers, is_written, covered_formulas}
use Rattle.xlsx_cells.specs.CoveredFormulas.{covered_among, covered_in}
use Rattle.xlsx_cells.specs.Finding.{IsMarkRefused}
use Rattle.xlsx_cells.specs.Marks.{Mark, row_start, row_end, cell, behind_marks}
use Rattle.xlsx_cells.specs.Position.{PassesMarks, NoCell, IsPlaced}
use Rattle.xlsx_cells.specs.Sheet.{answers_from, placed_formulas, formulas_written, formulas_along}
use Rattle.xlsx_cells.specs.Stream.{Stream, StandsBehind, IsCellRefused, IsWritten, TakesCell}
use Rattle.xlsx_cells.specs.Stream.{WrittenCell, marks_ahead, data_ahead}
use Rattle.xlsx_cells.specs.declared.children.Wants.{Wants}
use Rattle.xlsx_cells.proofs.Collecting.{answer_kept, answers_whole, behind_cells}
use Rattle.xlsx_cells.proofs.Collecting.{behind_cells_further, along_further}
use Rattle.xlsx_cells.proofs.Fronts.{refused_further}
use Rattle.xlsx_cells.proofs.StyledCollected.{zip_further, map_further, length_further}

-- rows that were passed cover nothing
covers_passed : (passed before others : List Mark) → PassesMarks NoCell before passed
    → covers_said (passed ++ others) ≡ covers_said others
covers_passed [] before others rows = refl
covers_passed (row_start tag ∷ passed) before others rows =
    covers_passed passed (row_start tag ∷ before) others rows.1
covers_passed (row_end ∷ passed) before others rows =
    covers_passed passed (row_end ∷ before) others rows
covers_passed (cell element ∷ passed) before others rows = absurd rows.0

no_covers : (passed before : List Mark) → PassesMarks NoCell before passed
    → covers_said passed ≡ []
no_covers [] before rows = refl
no_covers (row_start tag ∷ passed) before rows = no_covers passed (row_start tag ∷ before) rows.1
no_covers (row_end ∷ passed) before rows = no_covers passed (row_end ∷ before) rows
no_covers (cell element ∷ passed) before rows = absurd rows.0

along_length : (earlier : List FormulaText) (cells : List ((ℕ × ℕ) × List FormulaText))
    → length (formulas_along earlier cells) ≡ length cells
along_length earlier [] = refl
along_length earlier (first ∷ others) =
    ap suc (along_length (behind_formulas first.1 earlier) others)

covered_further : (formulas : List ((ℕ × ℕ) × List ℕ)) (said : List (Option Dimensions))
    (formula : (ℕ × ℕ) × List ℕ) (own : Option Dimensions) → length formulas ≡ length said
    → covered_formulas (formulas ++ formula ∷ []) (said ++ own ∷ [])
    ≡ covered_formulas formulas said ++ filter is_written (with_covers (formula, own) ∷ [])
covered_further formulas said formula own same =
    ap (λ pairs. filter is_written (map with_covers pairs))
    (zip_further formulas said formula own same)
    ∙ ap (filter is_written) (map_further with_covers (zip formulas said) (formula, own))
    ∙ filter-append is_written (map with_covers (zip formulas said))
    (with_covers (formula, own) ∷ [])

-- the formulas of a sheet's data were collected up to here
pub record HasCovered
    (wants : Wants) (context : ValueContext) (old now : Stream)
    (found : List ((ℕ × ℕ) × (List ℕ × Dimensions))) : Type 0
  where
    pub before : List Mark
    pub earlier : List FormulaText
    pub stands : StandsBehind before earlier now
    pub passed : List ((ℕ × ℕ) × List FormulaText)
    pub said : List (Option Dimensions)
    pub all :
        prepended passed (answers_from placed_formulas before (marks_ahead now))
        ≡ formulas_written (data_ahead old)
    pub along : said ++ covers_said (marks_ahead now) ≡ covers_said (marks_ahead old)
    pub behind : earlier ≡ behind_cells passed []
    pub same : length passed ≡ length said
    pub used : found ≡ covered_formulas (formulas_along [] passed) said
    pub refused :
        (refusal : Refusal) →
        IsMarkRefused IsPlaced (IsCellRefused wants context) before (marks_ahead now) refusal
        → IsMarkRefused IsPlaced (IsCellRefused wants context) [] (marks_ahead old) refusal

-- none so far
pub covered_none : (wants : Wants) (context : ValueContext) (s : Stream) → StandsBehind [] [] s
    → HasCovered wants context s s []
covered_none wants context s stands = record {
  before = [];
  earlier = [];
  stands = stands;
  passed = [];
  said = [];
  all = prepended-nil (formulas_written (data_ahead s));
  along = refl;
  behind = refl;
  same = refl;
  used = refl;
  refused = λ refusal is. is;
}

-- one cell more
pub covered_cell : (wants : Wants) (context : ValueContext) (old mid new : Stream)
    (found : List ((ℕ × ℕ) × (List ℕ × Dimensions))) (read : WrittenCell)
    → wants.formulas ≡ true → (been : HasCovered wants context old mid found)
    → TakesCell NoCell been.before been.earlier mid new
    (IsWritten wants context been.earlier read)
    → HasCovered wants context old new (found
    ++ filter is_written ((read.pos, (read.text, read.covers)) ∷ []))
covered_cell wants context old mid new found read wanted been takes =
    let front = takes.takes.front in
    let behind = behind_marks front.passed been.before in
    let element = takes.element in
    let marks_same : marks_ahead mid ≡ front.passed ++ cell element ∷ marks_ahead new =
    front.marks ∙ ap (λ (others : List Mark). front.passed ++ others) takes.takes.next in
    let own : (ℕ × ℕ) × List FormulaText = (read.pos, takes.kept) in
    let covers = covers_in element.inside in
    let answer : placed_formulas behind element ≡ Ok own =
    rw (takes.holds.placed, takes.holds.listed wanted) refl in
    let text : read.text ≡ cell_formula (behind_cells been.passed []) read.pos takes.kept =
    takes.holds.found wanted
    ∙ ap (λ (all : List FormulaText). cell_formula all read.pos takes.kept) been.behind in
    let here : (read.pos, (read.text, read.covers))
    ≡ with_covers (
      (read.pos, cell_formula (behind_cells been.passed []) read.pos takes.kept),
      covers,
    ) =
    rw (text, takes.holds.covers wanted) refl in
    let along = formulas_along [] been.passed in
    record {
      before = cell element ∷ behind;
      earlier = behind_formulas takes.kept been.earlier;
      stands = takes.stands;
      passed = been.passed ++ own ∷ [];
      said = been.said ++ covers ∷ [];
      all = answer_kept placed_formulas been.passed own front.passed been.before
          (marks_ahead new) (marks_ahead mid) element _ front.fact marks_same answer been.all;
      along =
          append_assoc been.said (covers ∷ []) (covers_said (marks_ahead new))
          ∙ ap (λ (others : List (Option Dimensions)). been.said ++ others)
          (sym (covers_passed front.passed been.before (cell element ∷ marks_ahead new) front.fact)
          ∙ ap covers_said (sym marks_same))
          ∙ been.along;
      behind = ap (behind_formulas takes.kept) been.behind
          ∙ sym (behind_cells_further been.passed [] own);
      same = length_further been.passed own ∙ ap suc been.same
          ∙ sym (length_further been.said covers);
      used =
          ap (λ all. all ++ filter is_written ((read.pos, (read.text, read.covers)) ∷ [])) been.used
          ∙ ap (λ one. covered_formulas along been.said ++ filter is_written (one ∷ [])) here
          ∙ sym (covered_further along been.said
          (read.pos, cell_formula (behind_cells been.passed []) read.pos takes.kept) covers
          (along_length [] been.passed ∙ been.same))
          ∙ ap (λ all. covered_formulas all (been.said ++ covers ∷ []))
          (sym (along_further been.passed [] own));
      refused = λ refusal is. been.refused refusal
          (refused_further (IsCellRefused wants context) refusal takes.takes
          (read.pos, takes.holds.placed) is);
    }

-- all cells
pub covered_whole : (wants : Wants) (context : ValueContext) (old now : Stream)
    (found : List ((ℕ × ℕ) × (List ℕ × Dimensions))) (been : HasCovered wants context old now found)
    → PassesMarks NoCell been.before (marks_ahead now) → covered_in (data_ahead old) ≡ Ok found
covered_whole wants context old now found been rows =
    let written = answers_whole placed_formulas been.passed been.before (marks_ahead now) _ rows
    been.all in
    let said : been.said ≡ covers_said (marks_ahead old) =
    sym (append-nil been.said)
    ∙ ap (λ (others : List (Option Dimensions)). been.said ++ others)
    (sym (no_covers (marks_ahead now) been.before rows)) ∙ been.along in
    ap (covered_among (marks_ahead old)) written
    ∙ ap (λ (all : List (Option Dimensions)).
    Ok (covered_formulas (formulas_along [] been.passed) all)) (sym said)
    ∙ ap Ok (sym been.used)
