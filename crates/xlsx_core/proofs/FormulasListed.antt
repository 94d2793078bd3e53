-- The formulas of sheets, as they are read and listed.
use Rattle.std.proofs.Common.{◌≡◌, ℕ, List, [], ◌∷◌, ◌++◌, map, length, Bool, true, false, refl}
use Rattle.std.proofs.Common.{sym, ◌∙◌, ap, Option, Some, None, Result, Ok, Err, inl, inr, ◌⊎◌}
use Rattle.std.proofs.Common.{arith, codes, String, eqb-true, subst}
use Rattle.std.specs.Prelude.{option_map, option_and_then, if◌then◌else◌, IsSomeAnd, is_some, IfOk}
use Rattle.std.specs.Prelude.{OnOk}
use Rattle.std.specs.declared.alloc.Global.{Global}
use Rattle.cell_data.specs.Words.{cells_gathered, with_meaning}
use Rattle.cell_data.specs.declared.gathered.GatheredCells.{GatheredCells}
use Rattle.cell_refs.specs.Words.{last_of_each}
use Rattle.cell_refs.specs.declared.dimensions.Dimensions.{Dimensions}
use Rattle.part_events.specs.Words.{Event, whole, whole_rest, goes_on, Part, PackageState}
use Rattle.part_events.specs.Words.{UsesPackage, LeavesPackage, CountsUp, part_of, event_count}
use Rattle.part_events.specs.Words.{Reading, events_of, behind_start, is_closed, content, is_named}
use Rattle.xlsx_error.specs.declared.error.XlsxError.{XlsxError}
use Rattle.xlsx_error.specs.declared.error.XlsxError.TheVariants.{NotAWorksheet, OutOfMemory, Io}
use Rattle.xlsx_sections.specs.Words.{ReachesEnd, FailsBy, PartSection, section_in, section_from}
use Rattle.xlsx_sections.specs.Words.{inside_of, has_end, if_closed, Refusal, section_events_of}
use Rattle.xlsx_sections.proofs.Failing.{fails_by_weaker, same_parts}
use Rattle.xlsx_parts.specs.Words.{Appends, ok_or_none, section_said, is_whole, unless_absent}
use Rattle.xlsx_parts.specs.Words.{IfThere, SheetPath}
use Rattle.xlsx_parts.proofs.ManySaid.{no_some_cause}
use Rattle.xlsx_parts.proofs.SaidRead.{said_there, is_whole_part}
use Rattle.xlsx_values.specs.Words.{ValueContext}
use Rattle.xlsx_formulas.specs.Words.{FormulaText}
use Rattle.xlsx_cells.specs.Words.{formulas_alone, covered_in, covered_among, covered_meaning}
use Rattle.xlsx_cells.specs.Words.{covered_entries, covered_formulas, covers_said, dimensions_in}
use Rattle.xlsx_cells.specs.Words.{other_in, Mark, marks, formulas_written, formulas_along}
use Rattle.xlsx_cells.specs.Words.{SheetPartCause, DataCause, HoldsFormulas, EntersData, Stream}
use Rattle.xlsx_cells.specs.Words.{data_ahead}
use Rattle.xlsx_cells.specs.declared.covered_cells.CoveredFormula.{CoveredFormula}
use Rattle.xlsx_core.specs.FormulaList.{if_dimensions, data_formulas, part_formulas, path_formulas}
use Rattle.xlsx_core.specs.FormulaList.{no_context, NumberedSheet, sheet_formulas}
use Rattle.xlsx_core.specs.FormulaList.{SheetFormulasCause, workbook_formulas, FormulasCause}
use Rattle.xlsx_core.specs.FormulaList.{formulas_ask, IsFormulasError, sheets_from, FormulaSaid}
use Rattle.xlsx_core.specs.FormulaList.{formula_on, formula_pair}
use Rattle.xlsx_core.specs.Worksheets.{HasSheetData, IsNoWorksheet, AnswersFormulas, RangePartCause}
use Rattle.xlsx_core.proofs.FormulaTexts.{as_many, as_many_along, text_alone, texts_used}
use Rattle.xlsx_core.proofs.FormulaTexts.{pairs_alone}
use Rattle.xlsx_core.proofs.LastOfEach.{last_mapped}
use Rattle.xlsx_core.proofs.RangesRead.{formulas_in_part, IsOther}
use Rattle.xlsx_core.proofs.TakenOnce.{leaves_behind}

-- ---- what is read of a part is said of it

by_dimensions : (events : List Event) (area : Option Dimensions) (found : Option PartSection)
    → dimensions_in (whole events) ≡ Ok area → section_in (codes "sheetData") events ≡ found
    → part_formulas events ≡ data_formulas events found
by_dimensions events area found is there =
    ap (λ (own : Result (Option Dimensions) Refusal). if_dimensions own
    (data_formulas events (section_in (codes "sheetData") events))) is
    ∙ ap (data_formulas events) there

-- the data of a sheet
pub data_say : {events : List Event} {section : PartSection}
    {found : List ((ℕ × ℕ) × (List ℕ × Dimensions))} → HasSheetData events section
    → covered_in (inside_of section) ≡ Ok found → part_formulas events ≡ Some found
data_say {events = events} {section = section} sheet is =
    by_dimensions events sheet.area (Some section) sheet.dimensions sheet.found
    ∙ said_there (codes "sheetData") events covered_in sheet.found sheet.closed is

abbrev nothing : (A : Type 0) → List ℕ → List A
nothing A name = []

some_nothing : {A : Type 0} (other : Option (List ℕ)) → is_some other ≡ true
    → option_map (nothing A) other ≡ Some []
some_nothing None is = absurd (cc)
some_nothing (Some name) is = refl

-- a part that is no worksheet
nothing_says : (events : List Event) → IsNoWorksheet events → part_formulas events ≡ Some []
nothing_says events none =
    by_dimensions events none.dimensions.0 None none.dimensions.1
    (ap (option_map (section_from events)) none.none)
    ∙ ap (λ (b : Bool). if b then option_map (nothing _) (other_in (whole events))
    else None) (is_whole_part events none.nested)
    ∙ some_nothing (other_in (whole events)) none.other

no_data : (found : Option PartSection) (name : String Global)
    → IsSomeAnd found (λ s. DataCause formulas_alone no_context s (NotAWorksheet name)) → ⊥
no_data None name cause = cause
no_data (Some s) name cause = cause

other_says : (part : Option (List Event)) (name : String Global)
    → IfThere (SheetPartCause formulas_alone no_context) part (NotAWorksheet name)
    → unless_absent [] part (option_and_then part_formulas part) ≡ Some []
other_says None name cause = absurd cause
other_says (Some events) name (inl head) =
    nothing_says events (record {
      nested = head.0;
      none = head.1;
      dimensions = head.2;
      other = ap is_some head.3;
    })
other_says (Some events) name (inr cause) =
    absurd (no_data (section_in (codes "sheetData") events) name cause)

pub none_said : (parts : List Part) (path : List ℕ) (name : String Global)
    → IfThere (SheetPartCause formulas_alone no_context) (part_of parts path) (NotAWorksheet name)
    → path_formulas parts path ≡ Some []
none_said parts path name cause = other_says (part_of parts path) name cause

pub absent_said : (parts : List Part) (path : List ℕ) → part_of parts path ≡ None
    → path_formulas parts path ≡ Some []
absent_said parts path none =
    ap (λ (part : Option (List Event)). unless_absent [] part (option_and_then part_formulas part))
    none

pub there_said : (parts : List Part) (path : List ℕ) (events : List Event)
    (found : List ((ℕ × ℕ) × (List ℕ × Dimensions))) → part_of parts path ≡ Some events
    → part_formulas events ≡ Some found → path_formulas parts path ≡ Some found
there_said parts path events found there is =
    ap (λ (part : Option (List Event)). unless_absent [] part (option_and_then part_formulas part))
    there ∙ is

-- the data of a sheet that were entered and read to their end
pub entered_say : (result : Result (GatheredCells CoveredFormula) XlsxError) (path : List ℕ)
    (area : Dimensions) (old : PackageState) (mid : Stream) (new : Reading)
    → EntersData path area old mid → old.is_visible ≡ true
    → OnOk result (ReachesEnd mid.base mid.reading new)
    → IfOk result (λ cells. covered_in (data_ahead mid)
    ≡ Ok (covered_entries (cells_gathered cells)))
    → IfOk result (λ cells. path_formulas old.parts path
    ≡ Some (covered_entries (cells_gathered cells)))
entered_say (Err error) path area old mid new enters told ends is = tt
entered_say (Ok cells) path area old mid new enters told ends is =
    let (found, dimensions, same) = enters.dimensions told in
    there_said old.parts path (events_of mid.reading) (covered_entries (cells_gathered cells))
    (enters.part told)
    (data_say {events = events_of mid.reading} (record {
      area = found;
      found = enters.section told;
      dimensions = dimensions;
      closed = ends.closed;
    }) is)

range_there : (part : Option (List Event)) (error : XlsxError) → IsOther error
    → IfThere (SheetPartCause formulas_alone no_context) part error
    → IfThere (RangePartCause formulas_alone no_context) part error
range_there None error other cause = cause
range_there (Some events) (NotAWorksheet name) other cause = absurd other
range_there (Some events) error other cause = cause

-- a refusal that tells something else than that the part is no worksheet
pub other_fails : (part : Option (List Event)) (old new : PackageState) (error : XlsxError)
    → IsOther error
    → FailsBy (IfThere (SheetPartCause formulas_alone no_context) part) old new error
    → FailsBy (IfThere (RangePartCause formulas_alone no_context) part) old new error
other_fails part old new error other fails =
    fails_by_weaker (IfThere (RangePartCause formulas_alone no_context) part)
    (IfThere (SheetPartCause formulas_alone no_context) part) new error (same_parts old)
    (λ told cause. range_there part error other cause) fails

-- the last formula of each position
pub last_covered : (cells : List ((ℕ × ℕ) × CoveredFormula))
    → covered_entries (last_of_each cells) ≡ last_of_each (covered_entries cells)
last_covered cells = sym (last_mapped covered_meaning cells)

pub sheet_said : (parts : List Part) (sheet : NumberedSheet)
    (cells kept : List ((ℕ × ℕ) × CoveredFormula))
    → path_formulas parts sheet.path ≡ Some (covered_entries cells) → kept ≡ last_of_each cells
    → sheet_formulas parts sheet ≡ Some (map (formula_on sheet.number) (covered_entries kept))
sheet_said parts sheet cells kept is last =
    ap (option_map (λ all. map (formula_on sheet.number) (last_of_each all))) is
    ∙ ap (λ all. Some (map (formula_on sheet.number) all)) (sym (last_covered cells))
    ∙ ap (λ own. Some (map (formula_on sheet.number) (covered_entries own))) (sym last)

-- what was read of a sheet was put behind what was kept before
pub sheet_appends : {R : Type 0} (sheet : NumberedSheet) (before after : List FormulaSaid)
    (cells kept : List ((ℕ × ℕ) × CoveredFormula)) (old new : PackageState) (answer : R)
    → UsesPackage (event_count old.parts sheet.path) old new
    → (old.is_visible ≡ true
    → CountsUp (section_events_of (codes "sheetData") old.parts sheet.path) old.taken new.taken)
    → (old.is_visible ≡ true → path_formulas old.parts sheet.path ≡ Some (covered_entries cells))
    → kept ≡ last_of_each cells
    → after ≡ before ++ map (formula_on sheet.number) (covered_entries kept)
    → Appends (formulas_ask sheet) before after (Ok answer) old new
sheet_appends sheet before after cells kept old new answer uses exact reads last put = record {
  uses = uses;
  to_end = exact;
  said = λ told. (
    map (formula_on sheet.number) (covered_entries kept),
    sheet_said old.parts sheet cells kept (reads told) last,
    put,
  );
  err = tt;
  kind = tt;
}

-- a sheet is refused
pub sheet_refused : {R : Type 0} (sheet : NumberedSheet) (before after : List FormulaSaid)
    (old new : PackageState) (error : XlsxError)
    → LeavesPackage (event_count old.parts sheet.path) Io old new error
    → FailsBy (SheetFormulasCause old.parts sheet) old new error → IsFormulasError error
    → Appends {R = R} (formulas_ask sheet) before after (Err error) old new
sheet_refused sheet before after old new error leaves fails is = record {
  uses = leaves;
  to_end = λ told. tt;
  said = λ told. tt;
  err = fails;
  kind = is;
}

-- memory is wanting behind it
pub sheet_without_memory : {R : Type 0} (sheet : NumberedSheet) (before after : List FormulaSaid)
    (old new : PackageState) → UsesPackage (event_count old.parts sheet.path) old new
    → Appends {R = R} (formulas_ask sheet) before after (Err OutOfMemory) old new
sheet_without_memory sheet before after old new uses =
    sheet_refused sheet before after old new OutOfMemory
    (leaves_behind (event_count old.parts sheet.path) old new OutOfMemory uses) tt (inl tt)

-- ---- what is said has no cause to be refused

rest_whole : (past rest : List Event) → length (whole_rest past rest) ≡ length rest
    → whole_rest past rest ≡ rest
rest_whole past [] is = refl
rest_whole past (event ∷ rest) is =
    elim (goes_on past event) as (λ b.
    length (if b then event ∷ whole_rest (event ∷ past) rest else []) ≡ length (event ∷ rest)
    → (if b then event ∷ whole_rest (event ∷ past) rest else []) ≡ event ∷ rest) [
      | true ↦ λ same. ap (λ others. event ∷ others)
          (rest_whole (event ∷ past) rest (omega (arith, same)))
      | false ↦ λ never. absurd (omega (arith, never))
    ] is

dimensions_of : {A : Type 0} (area : Result (Option Dimensions) Refusal) (said : Option A) (all : A)
    → if_dimensions area said ≡ Some all
    → ((own : Option Dimensions) × (area ≡ Ok own)) × (said ≡ Some all)
dimensions_of (Ok own) said all is = ((own, refl), is)
dimensions_of (Err refusal) said all is = absurd (cc)

other_of : {A : Type 0} (events : List Event) (other : Option (List ℕ)) (all : List A)
    → (if is_whole events then option_map (nothing A) other else None) ≡ Some all
    → (is_whole events ≡ true) × (is_some other ≡ true) × (all ≡ [])
other_of {A = A} events other all is =
    elim (is_whole events) as (λ b. (if b then option_map (nothing A) other else None) ≡ Some all
    → (b ≡ true) × (is_some other ≡ true) × (all ≡ [])) [
      | true ↦ λ says.
          let both = some_of other says in
          (refl, both.0, both.1)
      | false ↦ λ never. absurd (cc)
    ] is
  where
    some_of : (own : Option (List ℕ)) → option_map (nothing A) own ≡ Some all
        → (is_some own ≡ true) × (all ≡ [])
    some_of None never = absurd (cc)
    some_of (Some name) says = (refl, cc)

closed_of : (events : List Event) (found : Option (List Event)) (s : PartSection)
    (all : List ((ℕ × ℕ) × (List ℕ × Dimensions))) → option_map (section_from events) found ≡ Some s
    → option_and_then (λ (inside : List Event). ok_or_none (covered_in inside))
    (option_and_then if_closed found) ≡ Some all
    → (has_end s ≡ true) × (ok_or_none (covered_in (inside_of s)) ≡ Some all)
closed_of events None s all is says = absurd (cc)
closed_of events (Some ahead) s all is says =
    let same : section_from events ahead ≡ s = cc in
    subst (λ (own : PartSection). (has_end own ≡ true)
    × (ok_or_none (covered_in (inside_of own)) ≡ Some all)) same
    (elim (is_closed 0 ahead) as (λ b. is_closed 0 ahead ≡ b
    → option_and_then (λ (inside : List Event). ok_or_none (covered_in inside))
    (if b then Some (content 0 ahead) else None) ≡ Some all
    → (is_closed 0 ahead ≡ true) × (ok_or_none (covered_in (content 0 ahead)) ≡ Some all)) [
      | true ↦ λ closed here. (closed, here)
      | false ↦ λ _ never. absurd (cc)
    ] refl says)

written_of : (all_marks : List Mark)
    (written : Result (List ((ℕ × ℕ) × List FormulaText)) Refusal)
    (all : List ((ℕ × ℕ) × (List ℕ × Dimensions)))
    → ok_or_none (covered_among all_marks written) ≡ Some all
    → (own : List ((ℕ × ℕ) × List FormulaText)) × (written ≡ Ok own)
    × (all ≡ covered_formulas (formulas_along [] own) (covers_said all_marks))
written_of all_marks (Ok own) all is = (own, refl, cc)
written_of all_marks (Err refusal) all is = absurd (cc)

held_by : (inside : List Event) (all : List ((ℕ × ℕ) × (List ℕ × Dimensions)))
    → ok_or_none (covered_in inside) ≡ Some all
    → HoldsFormulas inside (map (with_meaning text_alone) all)
held_by inside all is =
    let (own, written, same) = written_of (marks inside) (formulas_written inside) all is in
    let along = formulas_along [] own in (
      own,
      written,
      ap (map (with_meaning text_alone)) same
          ∙ texts_used along (covers_said (marks inside))
          (as_many_along [] own ∙ as_many [] (marks inside) own written),
    )

no_start : (events : List Event) (after : Option (List Event))
    → option_map (section_from events) after ≡ None → after ≡ None
no_start events None is = refl
no_start events (Some after) is = absurd (cc)

answers_by : (events : List Event) (area : Option Dimensions) (found : Option PartSection)
    (all : List ((ℕ × ℕ) × (List ℕ × Dimensions))) → dimensions_in (whole events) ≡ Ok area
    → section_in (codes "sheetData") events ≡ found → data_formulas events found ≡ Some all
    → AnswersFormulas events (map (with_meaning text_alone) all)
answers_by events area None all dimensions there says =
    let both = other_of events (other_in (whole events)) all says in
    inr (
      record {
        nested = rest_whole [] events (eqb-true (length (whole events)) (length events) both.0);
        none =
            no_start events (behind_start (is_named (codes "sheetData" ∷ [])) (whole events)) there;
        dimensions = (area, dimensions);
        other = both.1;
      },
      ap (map (with_meaning text_alone)) both.2,
    )
answers_by events area (Some section) all dimensions there says =
    let both = closed_of events
    (behind_start (is_named (codes "sheetData" ∷ [])) (whole events)) section all there says in
    inl (
      section,
      record { area = area; found = there; dimensions = dimensions; closed = both.0 },
      held_by (inside_of section) all both.1,
    )

-- the formulas that a part says are answered of it
pub part_answers : (events : List Event) (all : List ((ℕ × ℕ) × (List ℕ × Dimensions)))
    → part_formulas events ≡ Some all
    → AnswersFormulas events (map (with_meaning text_alone) all)
part_answers events all is =
    let both = dimensions_of (dimensions_in (whole events))
    (data_formulas events (section_in (codes "sheetData") events)) all is in
    answers_by events both.0.0 (section_in (codes "sheetData") events) all both.0.1 refl both.1

path_never : (context : ValueContext) (part : Option (List Event))
    (all : List ((ℕ × ℕ) × (List ℕ × Dimensions))) (error : XlsxError)
    → unless_absent [] part (option_and_then part_formulas part) ≡ Some all
    → IfThere (RangePartCause formulas_alone context) part error → ⊥
path_never context None all error is cause = cause
path_never context (Some events) all error is cause =
    formulas_in_part context events (map (with_meaning text_alone) all) error
    (part_answers events all is) cause

made_of : {A B : Type 0} (f : A → B) (said : Option A) (all : B) → option_map f said ≡ Some all
    → (own : A) × (said ≡ Some own) × (all ≡ f own)
made_of f None all is = absurd (cc)
made_of f (Some own) all is = (own, refl, cc)

sheet_never : (parts : List Part) (sheet : NumberedSheet) (all : List FormulaSaid)
    (error : XlsxError) → sheet_formulas parts sheet ≡ Some all
    → SheetFormulasCause parts sheet error → ⊥
sheet_never parts sheet all error is cause =
    let own = made_of (λ cells. map (formula_on sheet.number) (last_of_each cells))
    (path_formulas parts sheet.path) all is in
    path_never no_context (part_of parts sheet.path) own.0 error own.1 cause

pub formulas_never_refused : (parts : List Part) (sheets : List SheetPath) (all : List FormulaSaid)
    (error : XlsxError) → workbook_formulas parts sheets ≡ Some all
    → FormulasCause parts sheets error → ⊥
formulas_never_refused parts sheets all error is cause =
    no_some_cause (sheet_formulas parts) (SheetFormulasCause parts) (sheets_from 0 sheets) error
    all (λ sheet own. sheet_never parts sheet own error) is cause

-- ---- what is said of a sheet are its formulas

path_of_part : (parts : List Part) (path : List ℕ) (events : List Event)
    (all : List ((ℕ × ℕ) × (List ℕ × Dimensions))) → part_of parts path ≡ Some events
    → path_formulas parts path ≡ Some all → part_formulas events ≡ Some all
path_of_part parts path events all there is =
    sym (ap (λ (part : Option (List Event)). unless_absent [] part
    (option_and_then part_formulas part)) there) ∙ is

pub listed_as_answered : (parts : List Part) (sheet : NumberedSheet) (events : List Event)
    (all : List FormulaSaid) → part_of parts sheet.path ≡ Some events
    → sheet_formulas parts sheet ≡ Some all
    → (formulas : List ((ℕ × ℕ) × List ℕ)) × AnswersFormulas events formulas
    × (map formula_pair all ≡ last_of_each formulas)
listed_as_answered parts sheet events all there is =
    let (cells, says, listed) = made_of (λ own. map (formula_on sheet.number) (last_of_each own))
    (path_formulas parts sheet.path) all is in
    let texts = map (with_meaning text_alone) cells in (
      texts,
      part_answers events cells (path_of_part parts sheet.path events cells there says),
      ap (map formula_pair) listed
          ∙ pairs_alone sheet.number (last_of_each cells)
          ∙ sym (last_mapped text_alone cells),
    )
