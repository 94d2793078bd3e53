-- A sound sheet has no cause to be refused.
use Rattle.std.proofs.Common.{◌≡◌, ℕ, List, [], ◌∷◌, true, Option, Some, None, Result, Ok, Err}
use Rattle.std.proofs.Common.{refl, sym, ◌∙◌, subst, inl, inr, codes}
use Rattle.std.specs.Prelude.{option_map, IsSomeAnd}
use Rattle.part_events.specs.Words.{Tag, Event, whole, Element, behind_start, is_named}
use Rattle.cell_refs.specs.declared.dimensions.Dimensions.{Dimensions}
use Rattle.xlsx_error.specs.declared.error.XlsxError.{XlsxError}
use Rattle.cell_styles.specs.Words.{StyledCell}
use Rattle.xlsx_sections.specs.Words.{and_others, with_first, PartSection, inside_of, has_end}
use Rattle.xlsx_sections.specs.Words.{section_from, section_in, Refusal, in_element}
use Rattle.xlsx_sections.proofs.Sound.{no_section_cause}
use Rattle.xlsx_values.specs.Words.{ValueContext, cell_value}
use Rattle.xlsx_formulas.specs.Words.{formulas_in}
use Rattle.xlsx_cells.specs.CellsReader.{formulas_alone, styles_alone}
use Rattle.xlsx_cells.specs.Ends.{end_in_data}
use Rattle.xlsx_cells.specs.Marks.{Mark, row_start, row_end, cell, marks}
use Rattle.xlsx_cells.specs.Finding.{IsMarkRefused}
use Rattle.xlsx_cells.specs.Head.{dimensions_in}
use Rattle.xlsx_cells.specs.Position.{row_named, cell_position, IsPlaced, PassesMarks}
use Rattle.xlsx_cells.specs.Sheet.{behind_row, answers_from, at_position, placed_value}
use Rattle.xlsx_cells.specs.Sheet.{placed_formulas}
use Rattle.xlsx_cells.specs.SheetPart.{AreDataRefused, DataCause, SheetPartCause}
use Rattle.xlsx_cells.specs.Stream.{IsCellRefused}
use Rattle.xlsx_cells.specs.StyleIds.{id_named, with_id, placed_id}
use Rattle.xlsx_cells.specs.declared.children.Wants.{Wants}
use Rattle.xlsx_cells.proofs.HeadRead.{no_head_cause}

never_both : {A : Type 0} (answer : Result A Refusal) (a : A) (refusal : Refusal)
    → answer ≡ Ok a → answer ≡ Err refusal → ⊥
never_both answer a refusal good bad =
    let both : Ok a ≡ Err refusal = sym good ∙ bad in
    absurd (cc)

-- ---- what stands in answers that aren't refused

row_sound : {A : Type 0} (row : Result (Option ℕ) Refusal) (others : Result (List A) Refusal)
    (all : List A) → behind_row row others ≡ Ok all
    → ((own : Option ℕ) × (row ≡ Ok own)) × (others ≡ Ok all)
row_sound (Ok own) others all is = ((own, refl), is)
row_sound (Err refusal) others all is = absurd (cc)

rest_sound : {A : Type 0} (first : A) (others : Result (List A) Refusal) (all : List A)
    → with_first first others ≡ Ok all → (rest : List A) × (others ≡ Ok rest)
rest_sound first (Ok rest) all is = (rest, refl)
rest_sound first (Err refusal) all is = absurd (cc)

cell_sound : {A : Type 0} (own : Result A Refusal) (others : Result (List A) Refusal)
    (all : List A) → and_others own others ≡ Ok all
    → ((a : A) × (own ≡ Ok a)) × ((rest : List A) × (others ≡ Ok rest))
cell_sound (Ok a) others all is = ((a, refl), rest_sound a others all is)
cell_sound (Err refusal) others all is = absurd (cc)

placed_sound : {A : Type 0} (position : Result (ℕ × ℕ) Refusal) (own : Result A Refusal)
    (found : (ℕ × ℕ) × A) → at_position position own ≡ Ok found
    → (position ≡ Ok found.0) × (own ≡ Ok found.1)
placed_sound (Ok position) (Ok a) found is =
    let same : (position, a) ≡ found = cc in
    (cc, cc)
placed_sound (Ok position) (Err refusal) found is = absurd (cc)
placed_sound (Err refusal) own found is = absurd (cc)

id_sound : (position : Result (ℕ × ℕ) Refusal) (own : Result ℕ Refusal) (found : StyledCell)
    → with_id position own ≡ Ok found
    → ((placed : ℕ × ℕ) × (position ≡ Ok placed)) × ((id : ℕ) × (own ≡ Ok id))
id_sound (Ok position) (Ok id) found is = ((position, refl), (id, refl))
id_sound (Ok position) (Err refusal) found is = absurd (cc)
id_sound (Err refusal) own found is = absurd (cc)

-- ---- no mark is refused

-- no cell gives a refusal, and no row
abbrev pub AnswerAll :
    {A : Type 0} → (List Mark → Element → Result A Refusal) → List Mark → List Mark → Type 0
AnswerAll {A} answer before marks =
    (all : List A) × (answers_from answer before marks ≡ Ok all)

row_answers : {A : Type 0} (answer : List Mark → Element → Result A Refusal)
    (before marks : List Mark) (tag : Tag) → AnswerAll answer before (row_start tag ∷ marks)
    → ((row : Option ℕ) × (row_named tag ≡ Ok row))
    × AnswerAll answer (row_start tag ∷ before) marks
row_answers answer before marks tag are =
    let sound = row_sound (row_named tag) (answers_from answer (row_start tag ∷ before) marks)
    are.0 are.1 in
    (sound.0, (are.0, sound.1))

cell_answers : {A : Type 0} (answer : List Mark → Element → Result A Refusal)
    (before marks : List Mark) (element : Element)
    → AnswerAll answer before (cell element ∷ marks)
    → ((own : A) × (answer before element ≡ Ok own))
    × AnswerAll answer (cell element ∷ before) marks
cell_answers answer before marks element are =
    cell_sound (answer before element) (answers_from answer (cell element ∷ before) marks) are.0
    are.1

-- then each row and each cell has its place
all_placed : {A : Type 0} (answer : List Mark → Element → Result A Refusal)
    → ((before : List Mark) (element : Element) (own : A) → answer before element ≡ Ok own
    → IsPlaced before element) → (before marks : List Mark) → AnswerAll answer before marks
    → PassesMarks IsPlaced before marks
all_placed answer places before [] are = tt
all_placed answer places before (row_start tag ∷ marks) are =
    let sound = row_answers answer before marks tag are in
    (sound.0, all_placed answer places (row_start tag ∷ before) marks sound.1)
all_placed answer places before (row_end ∷ marks) are =
    all_placed answer places (row_end ∷ before) marks are
all_placed answer places before (cell element ∷ marks) are =
    let sound = cell_answers answer before marks element are in (
      places before element sound.0.0 sound.0.1,
      all_placed answer places (cell element ∷ before) marks sound.1,
    )

-- what is wanted of such marks isn't refused
pub record AreSound (wants : Wants) (context : ValueContext) (before marks : List Mark)
    : Type 0 where
  placed : PassesMarks IsPlaced before marks
  valued : wants.values ≡ true → AnswerAll (placed_value context) before marks
  listed : wants.formulas ≡ true → AnswerAll placed_formulas before marks
  styled : wants.styles ≡ true → AnswerAll placed_id before marks

pub sound_by_values : (wants : Wants) (context : ValueContext) (before marks : List Mark)
    → AnswerAll (placed_value context) before marks
    → (wants.formulas ≡ true → AnswerAll placed_formulas before marks)
    → (wants.styles ≡ true → AnswerAll placed_id before marks)
    → AreSound wants context before marks
sound_by_values wants context before marks valued listed styled = record {
  placed = all_placed (placed_value context) (λ earlier element own is. (
    own.0,
    (placed_sound (cell_position earlier element.tag)
        (in_element element (cell_value context element.tag element.inside)) own is).0,
  )) before
      marks valued;
  valued = λ wanted. valued;
  listed = listed;
  styled = styled;
}

pub sound_by_formulas : (context : ValueContext) (before marks : List Mark)
    → AnswerAll placed_formulas before marks → AreSound formulas_alone context before marks
sound_by_formulas context before marks listed = record {
  placed = all_placed placed_formulas (λ earlier element own is. (
    own.0,
    (placed_sound (cell_position earlier element.tag)
        (in_element element (formulas_in element.inside)) own is).0,
  )) before marks listed;
  valued = λ wanted. absurd (cc);
  listed = λ wanted. listed;
  styled = λ wanted. absurd (cc);
}

pub sound_by_ids : (context : ValueContext) (before marks : List Mark)
    → AnswerAll placed_id before marks → AreSound styles_alone context before marks
sound_by_ids context before marks styled = record {
  placed = all_placed placed_id (λ earlier element own is.
      (id_sound (cell_position earlier element.tag)
      (in_element element (id_named element.tag)) own is).0) before marks styled;
  valued = λ wanted. absurd (cc);
  listed = λ wanted. absurd (cc);
  styled = λ wanted. styled;
}

cell_never : (wants : Wants) (context : ValueContext) (before marks : List Mark) (element : Element)
    (refusal : Refusal) → AreSound wants context before (cell element ∷ marks)
    → IsCellRefused wants context before element refusal → ⊥
cell_never wants context before marks element refusal are (inl misplaced) =
    never_both (cell_position before element.tag) are.placed.0.0 refusal are.placed.0.1 misplaced
cell_never wants context before marks element refusal are (inr (inl refused)) =
    let own = in_element element (cell_value context element.tag element.inside) in
    let answer = cell_answers (placed_value context) before marks element
    (are.valued refused.0) in
    let sound = placed_sound (cell_position before element.tag) own answer.0.0 answer.0.1 in
    never_both own answer.0.0.1 refusal sound.1 refused.1
cell_never wants context before marks element refusal are (inr (inr (inl refused))) =
    let own = in_element element (formulas_in element.inside) in
    let answer = cell_answers placed_formulas before marks element (are.listed refused.0) in
    let sound = placed_sound (cell_position before element.tag) own answer.0.0 answer.0.1 in
    never_both own answer.0.0.1 refusal sound.1 refused.1
cell_never wants context before marks element refusal are (inr (inr (inr refused))) =
    let own = in_element element (id_named element.tag) in
    let answer = cell_answers placed_id before marks element (are.styled refused.0) in
    let sound = id_sound (cell_position before element.tag) own answer.0.0 answer.0.1 in
    never_both own sound.1.0 refusal sound.1.1 refused.1

marks_never : (wants : Wants) (context : ValueContext) (before marks : List Mark)
    (refusal : Refusal)
    → AreSound wants context before marks
    → IsMarkRefused IsPlaced (IsCellRefused wants context) before marks refusal → ⊥
marks_never wants context before [] refusal are is = is
marks_never wants context before (row_start tag ∷ marks) refusal are is =
    marks_never wants context (row_start tag ∷ before) marks refusal
    (record {
      placed = are.placed.1;
      valued = λ wanted. (row_answers (placed_value context) before marks tag
          (are.valued wanted)).1;
      listed = λ wanted. (row_answers placed_formulas before marks tag (are.listed wanted)).1;
      styled = λ wanted. (row_answers placed_id before marks tag (are.styled wanted)).1;
    }) (rw are.placed.0.1 at is)
marks_never wants context before (row_end ∷ marks) refusal are is =
    marks_never wants context (row_end ∷ before) marks refusal (record {
      placed = are.placed;
      valued = are.valued;
      listed = are.listed;
      styled = are.styled;
    }) is
marks_never wants context before (cell element ∷ marks) refusal are is =
    elim is [
      | inl refused ↦ cell_never wants context before marks element refusal are refused
      | inr others ↦ marks_never wants context (cell element ∷ before) marks refusal (record {
        placed = are.placed.1;
        valued = λ wanted. (cell_answers (placed_value context) before marks element
            (are.valued wanted)).1;
        listed = λ wanted. (cell_answers placed_formulas before marks element
            (are.listed wanted)).1;
        styled = λ wanted. (cell_answers placed_id before marks element
            (are.styled wanted)).1;
      }) others.1
    ]

-- ---- the part of a sheet

start_of_section : (events : List Event) (found : Option (List Event)) (s : PartSection)
    → option_map (section_from events) found ≡ Some s → (after : List Event)
    × (found ≡ Some after)
start_of_section events None s is = absurd (cc)
start_of_section events (Some after) s is = (after, refl)

-- a part with a sound head and closed data, of which what is wanted isn't refused, can be read
pub no_part_cause : (wants : Wants) (context : ValueContext) (events : List Event) (s : PartSection)
    (area : Option Dimensions) (error : XlsxError)
    → section_in (codes "sheetData") events ≡ Some s → dimensions_in (whole events) ≡ Ok area
    → has_end s ≡ true → AreSound wants context [] (marks (inside_of s))
    → SheetPartCause wants context events error → ⊥
no_part_cause wants context events s area error found dimensions closed are (inl head) =
    let after = start_of_section events
    (behind_start (is_named (codes "sheetData" ∷ [])) (whole events)) s found in
    no_head_cause events (whole events) after.0 area error after.1 dimensions head
no_part_cause wants context events s area error found dimensions closed are (inr cause) =
    no_section_cause (end_in_data wants) (AreDataRefused wants context) s error closed
    (λ refusal is. marks_never wants context [] (marks (inside_of s)) refusal are is)
    (subst (λ (own : Option PartSection). IsSomeAnd own (λ one. DataCause wants context one error))
    found cause)
