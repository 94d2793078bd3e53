-- The parts of a sheet that is written, from the texts of its cells up.
use Rattle.std.proofs.Common.{◌≡◌, ℕ, zero, suc, ◌+◌, Bool, true, false, List, [], ◌∷◌, ◌++◌}
use Rattle.std.proofs.Common.{Option, Some, None, refl, sym, ap, ◌∙◌, arith, append-nil}
use Rattle.std.specs.Prelude.{⊤, codes, if◌then◌else◌, String, string_bytes, map}
use Rattle.std.specs.Fmt.{decimal}
use Rattle.std.specs.FinMap.{find}
use Rattle.std.specs.List.{All, list_any, flat_map}
use Rattle.std.specs.Option.{unwrap_or}
use Rattle.std.specs.Ordering.{eq_by_cmp}
use Rattle.std.specs.declared.alloc.Global.{Global}
use Rattle.std.proofs.lemmas.Bool.{or_parts}
use Rattle.std.proofs.lemmas.Str.{IsUtf8-string_bytes}
use Rattle.cell_refs.specs.Words.{position_cmp, reference, row_reference}
use Rattle.cell_data.specs.Words.{CellValue, nothing, integer, number, text, shared_text, truth}
use Rattle.cell_data.specs.Words.{time, iso_time, failure, value_of_data, value_pairs}
use Rattle.cell_data.specs.Words.{formula_pairs, with_meaning, cells_of}
use Rattle.cell_data.specs.declared.range.Range.{Range}
use Rattle.cell_data.specs.declared.value.Data.{Data}
use Rattle.cell_data.specs.declared.value.Data.TheVariants as owned
use Rattle.cell_data.specs.declared.value.ExcelDateTimeType.TheVariants.{DateTime, TimeDelta}
use Rattle.part_events.specs.Words.{Event, Part}
use Rattle.markup.specs.Words.{ends_name, are_spellable, spelled}
use Rattle.text_package.specs.PartSpelling.{IsPartText, begin_with_tag}
use Rattle.text_package.specs.PartText.{part_markup}
use Rattle.text_package.proofs.SpelledParts.{part_cut_back}
use Rattle.written_markup.specs.Words.{has_byte, element, attribute, attribute_if, text_events}
use Rattle.written_markup.specs.Words.{encoded}
use Rattle.xlsx_writer.specs.Words.{PlacedFormulas, formula_held, WrittenFormula, plain, master}
use Rattle.xlsx_writer.specs.Words.{derived, written_formula, group_head, group_end, group_index}
use Rattle.xlsx_writer.specs.Words.{is_same_position, is_master, PlacedValues, type_written}
use Rattle.xlsx_writer.specs.Words.{style_written, text_written, value_written, value_events}
use Rattle.xlsx_writer.specs.Words.{group_text, master_attributes, text_attributes, has_outer_space}
use Rattle.xlsx_writer.specs.Words.{derived_attributes, formula_events, optional_formula}
use Rattle.xlsx_writer.specs.Words.{cell_attributes, cell_events, SheetRow, in_rows, row_events}
use Rattle.xlsx_writer.specs.Words.{written_positions, data_markup, office, of_sheets, of_packages}
use Rattle.xlsx_writer.specs.Words.{space_attributes, workbook_attributes, relationship}
use Rattle.xlsx_writer.specs.Words.{relationships_of, to_workbook, to_sheet, to_styles, root_events}
use Rattle.xlsx_writer.specs.Words.{related_events, is_from_1904, properties_by, sheet_attributes}
use Rattle.xlsx_writer.specs.Words.{sheets_events, workbook_by, workbook_markup, cell_format}
use Rattle.xlsx_writer.specs.Words.{cell_formats, bare, font_list, fill_with, fill_list}
use Rattle.xlsx_writer.specs.Words.{border_list, style_formats, style_front, style_behind}
use Rattle.xlsx_writer.specs.Words.{style_inside, style_events, default_type, own_type, type_events}
use Rattle.xlsx_writer.specs.Words.{type_parts, sheet_markup, part, has_zero, text_has_zero}
use Rattle.xlsx_writer.specs.WrittenSheet.{written_parts}
use Rattle.xlsx_writer.specs.declared.form.WrittenForm.{WrittenForm}
use Rattle.xlsx_writer.specs.declared.form.WrittenForm.TheVariants.{PackageText, WorkbookFile}
use Rattle.xlsx_writer_as_markup.specs.WrittenPieces.{HaveNoZero, IsTextIn, pieces_of, IsSpelled}
use Rattle.xlsx_writer_as_markup.specs.WrittenPieces.{AreSpelled, AreCutBack, HasPartText}
use Rattle.xlsx_writer_as_markup.specs.WrittenPieces.{HaveTexts}
use Rattle.xlsx_writer_as_markup.proofs.Texts.{least_text, is_word, word_text, in_one_word}
use Rattle.xlsx_writer_as_markup.proofs.Texts.{underscores_text}
use Rattle.xlsx_writer_as_markup.proofs.AttributesFit.{IsAttributes, word_value, encoded_value}
use Rattle.xlsx_writer_as_markup.proofs.AttributesFit.{no_attributes, attribute_fits}
use Rattle.xlsx_writer_as_markup.proofs.AttributesFit.{attributes_in_row, attribute_if_fits}
use Rattle.xlsx_writer_as_markup.proofs.AttributesFit.{is_word_if}
use Rattle.xlsx_writer_as_markup.proofs.EventsFit.{AreElements, no_elements, elements_in_row}
use Rattle.xlsx_writer_as_markup.proofs.EventsFit.{each_elements, IsName, word_name, element_fits}
use Rattle.xlsx_writer_as_markup.proofs.EventsFit.{text_fits, events_of_pieces, texts_of_pieces}
use Rattle.xlsx_writer_as_markup.proofs.WordsWritten.{decimal_word, reference_word, printed_word}
use Rattle.xlsx_writer_as_markup.proofs.WordsWritten.{error_text}

-- ---- what is found

-- what holds of all that is placed holds of what is found
abbrev HoldsOf : {X : Type 0} → (X → Type 0) → Option X → Type 0
HoldsOf P None = ⊤
HoldsOf P (Some x) = P x

by_test : {X : Type 0} (P : X → Type 0) (test : Bool) (x : X) (found : Option X) → P x
    → HoldsOf P found → HoldsOf P (if test then Some x else found)
by_test P true x found own more = own
by_test P false x found own more = more

found_holds : {X : Type 0} (P : X → Type 0) (position : ℕ × ℕ) (placed : List ((ℕ × ℕ) × X))
    → All (λ entry. P entry.1) placed → HoldsOf P (find position_cmp position placed)
found_holds P position [] all = tt
found_holds P position (entry ∷ placed) all =
    by_test P (eq_by_cmp position_cmp position entry.0) entry.1
    (find position_cmp position placed) (all 0 entry (omega arith))
    (found_holds P position placed (λ k d within. all (suc k) d (omega arith)))

-- ---- attributes

type_word : (value : CellValue) → is_word_if (type_written value) ≡ true
type_word nothing = refl
type_word (integer n) = refl
type_word (number n) = refl
type_word (text bytes) = refl
type_word (shared_text place) = refl
type_word (truth holds) = refl
type_word (time days kind is_1904) = refl
type_word (iso_time bytes) = refl
type_word (failure error) = refl

style_word : (value : CellValue) → is_word_if (style_written value) ≡ true
style_word nothing = refl
style_word (integer n) = refl
style_word (number n) = refl
style_word (text bytes) = refl
style_word (shared_text place) = refl
style_word (truth holds) = refl
style_word (time days DateTime is_1904) = refl
style_word (time days TimeDelta is_1904) = refl
style_word (iso_time bytes) = refl
style_word (failure error) = refl

cell_attributes_fit : (Known : Type 0) (position : ℕ × ℕ) (value : CellValue)
    → IsAttributes Known (cell_attributes position value)
cell_attributes_fit Known position value =
    let style = attribute_if (codes "s") (style_written value) in
    let type = attribute_if (codes "t") (type_written value) in
    attributes_in_row Known (attribute (codes "r") (reference position)) (style ++ type)
    (attribute_fits Known (codes "r") (reference position) refl refl
    (word_value Known (reference position) (reference_word position)))
    (attributes_in_row Known style type
    (attribute_if_fits Known (codes "s") (style_written value) refl refl (style_word value))
    (attribute_if_fits Known (codes "t") (type_written value) refl refl (type_word value)))

shared_fits : (Known : Type 0) → IsAttributes Known (attribute (codes "t") (codes "shared"))
shared_fits Known =
    attribute_fits Known (codes "t") (codes "shared") refl refl
    (word_value Known (codes "shared") refl)

index_fits : (Known : Type 0) (index : ℕ)
    → IsAttributes Known (attribute (codes "si") (decimal index))
index_fits Known index =
    attribute_fits Known (codes "si") (decimal index) refl refl
    (word_value Known (decimal index) (decimal_word index))

group_word : (position : ℕ × ℕ) (last : ℕ) → is_word (group_text position last) ≡ true
group_word position last =
    in_one_word (reference position) (58 ∷ reference (last, position.1)) (reference_word position)
    (reference_word (last, position.1))

master_fits : (Known : Type 0) (position : ℕ × ℕ) (last index : ℕ)
    → IsAttributes Known (master_attributes position last index)
master_fits Known position last index =
    let area = attribute (codes "ref") (group_text position last) in
    let number = attribute (codes "si") (decimal index) in
    attributes_in_row Known (attribute (codes "t") (codes "shared")) (area ++ number)
    (shared_fits Known)
    (attributes_in_row Known area number
    (attribute_fits Known (codes "ref") (group_text position last) refl refl
    (word_value Known (group_text position last) (group_word position last)))
    (index_fits Known index))

derived_fits : (Known : Type 0) (index : ℕ) → IsAttributes Known (derived_attributes index)
derived_fits Known index =
    attributes_in_row Known (attribute (codes "t") (codes "shared"))
    (attribute (codes "si") (decimal index)) (shared_fits Known) (index_fits Known index)

-- ---- cells

-- a `v` with a text
value_with : (Known : Type 0) (attributes bytes : List ℕ) → IsAttributes Known attributes
    → (Known → IsPartText bytes)
    → AreElements Known (element (codes "v") attributes (text_events bytes))
value_with Known attributes bytes fit own =
    element_fits Known (codes "v") attributes (text_events bytes)
    (word_name (codes "v") refl refl refl) fit (text_fits Known bytes own)

-- and one without attributes
value_element : (Known : Type 0) (bytes : List ℕ) → (Known → IsPartText bytes)
    → AreElements Known (element (codes "v") [] (text_events bytes))
value_element Known bytes own = value_with Known [] bytes (no_attributes Known) own

-- the attributes of a `v` with a text
kept_space_fits : (Known : Type 0) (test : Bool) → IsAttributes Known
    (if test then attribute (codes "xml:space") (codes "preserve") else [])
kept_space_fits Known true =
    attribute_fits Known (codes "xml:space") (codes "preserve") refl refl
    (word_value Known (codes "preserve") refl)
kept_space_fits Known false = no_attributes Known

text_attributes_fit : (form : WrittenForm) (Known : Type 0) (bytes : List ℕ)
    → IsAttributes Known (text_attributes form bytes)
text_attributes_fit PackageText Known bytes = no_attributes Known
text_attributes_fit WorkbookFile Known bytes = kept_space_fits Known (has_outer_space bytes)

-- a text that can be written is that of a part as it is written
written_text : (form : WrittenForm) (bytes : List ℕ) → IsTextIn form bytes
    → IsPartText (text_written form bytes)
written_text PackageText bytes own = underscores_text bytes own
written_text WorkbookFile bytes own = least_text bytes own

truth_fits : (form : WrittenForm) (Known : Type 0) (holds : Bool) → AreElements Known
    (value_events form (truth holds))
truth_fits form Known true = value_element Known (codes "1") (λ known. word_text (codes "1") refl)
truth_fits form Known false = value_element Known (codes "0") (λ known. word_text (codes "0") refl)

value_fits : (form : WrittenForm) (Known : Type 0) (value : CellValue) →
    (Known → HasPartText form value)
    → AreElements Known (value_events form value)
value_fits form Known nothing own = no_elements Known
value_fits form Known (integer n) own = value_element Known [] (λ known. word_text [] refl)
value_fits form Known (number n) own =
    value_element Known (value_written form (number n)) (λ known. word_text _ (printed_word n))
value_fits form Known (text bytes) own =
    value_with Known (text_attributes form bytes) (text_written form bytes)
    (text_attributes_fit form Known bytes) (λ known. written_text form bytes (own known))
value_fits form Known (shared_text place) own =
    value_element Known [] (λ known. word_text [] refl)
value_fits form Known (truth holds) own = truth_fits form Known holds
value_fits form Known (time days kind is_1904) own =
    value_element Known (value_written form (time days kind is_1904))
    (λ known. word_text _ (printed_word days))
value_fits form Known (iso_time bytes) own = value_element Known bytes own
value_fits form Known (failure error) own =
    value_element Known (value_written form (failure error)) (λ known. error_text error)

-- the text of a formula as it is written, where it has one, is that of a part
abbrev HasFormulaText : WrittenFormula → Type 0
HasFormulaText (plain formula) = IsPartText formula
HasFormulaText (master formula last index) = IsPartText formula
HasFormulaText (derived index) = ⊤

formula_fits : (Known : Type 0) (position : ℕ × ℕ) (formula : WrittenFormula)
    → (Known → HasFormulaText formula) → AreElements Known (formula_events position formula)
formula_fits Known position (plain formula) own =
    element_fits Known (codes "f") [] (text_events formula) (word_name (codes "f") refl refl refl)
    (no_attributes Known) (text_fits Known formula own)
formula_fits Known position (master formula last index) own =
    element_fits Known (codes "f") (master_attributes position last index) (text_events formula)
    (word_name (codes "f") refl refl refl) (master_fits Known position last index)
    (text_fits Known formula own)
formula_fits Known position (derived index) own =
    element_fits Known (codes "f") (derived_attributes index) []
    (word_name (codes "f") refl refl refl) (derived_fits Known index) (no_elements Known).markup

-- a formula by whether it is its own head, and a master
form_text : (is_head is_own : Bool) (formula : List ℕ) (last index other : ℕ)
    → IsPartText formula
    → HasFormulaText (if is_head then (if is_own then master formula last index else plain formula)
    else derived other)
form_text true true formula last index other own = own
form_text true false formula last index other own = own
form_text false is_own formula last index other own = tt

-- the text of a formula as it is written is that of a part where the formula's is
written_formula_text : (form : WrittenForm) (formulas : PlacedFormulas) (position : ℕ × ℕ)
    (formula : List ℕ) → IsPartText formula
    → HasFormulaText (written_formula form formulas position formula)
written_formula_text PackageText formulas position formula own =
    form_text (is_same_position (group_head formulas position) position) (is_master formulas
    position)
    formula (group_end formulas position) (group_index formulas position)
    (group_index formulas (group_head formulas position)) own
written_formula_text WorkbookFile formulas position formula own = own

optional_fits : (form : WrittenForm) (Known : Type 0) (formulas : PlacedFormulas) (position : ℕ × ℕ)
    (found : Option (List ℕ)) → (Known → HoldsOf IsPartText found)
    → AreElements Known (optional_formula form formulas position found)
optional_fits form Known formulas position None own = no_elements Known
optional_fits form Known formulas position (Some formula) own =
    formula_fits Known position (written_formula form formulas position formula)
    (λ known. written_formula_text form formulas position formula (own known))

value_or_nothing : (form : WrittenForm) (found : Option CellValue)
    → HoldsOf (HasPartText form) found → HasPartText form (unwrap_or found nothing)
value_or_nothing form None own = tt
value_or_nothing form (Some value) own = own

-- what is known of a sheet's cells
abbrev KnowsCells : WrittenForm → Type 0 → PlacedValues → PlacedFormulas → Type 0
KnowsCells form Known values formulas =
    (Known → All (λ entry. HasPartText form entry.1) values)
    × (Known → All (λ entry. IsPartText entry.1) formulas)

cell_fits : (form : WrittenForm) (Known : Type 0) (values : PlacedValues)
    (formulas : PlacedFormulas)
    → KnowsCells form Known values formulas → (position : ℕ × ℕ)
    → AreElements Known (cell_events form values formulas position)
cell_fits form Known values formulas texts position =
    let value = unwrap_or (find position_cmp position values) nothing in
    element_fits Known (codes "c") (cell_attributes position value)
    (optional_formula form formulas position (formula_held formulas position)
    ++ value_events form value)
    (word_name (codes "c") refl refl refl) (cell_attributes_fit Known position value)
    (elements_in_row Known
    (optional_formula form formulas position (formula_held formulas position))
    (value_events form value)
    (optional_fits form Known formulas position (formula_held formulas position)
    (λ known. found_holds IsPartText position formulas (texts.1 known)))
    (value_fits form Known value (λ known. value_or_nothing form (find position_cmp position values)
    (found_holds (HasPartText form) position values (texts.0 known))))).markup

row_fits : (form : WrittenForm) (Known : Type 0) (values : PlacedValues) (formulas : PlacedFormulas)
    → KnowsCells form Known values formulas → (found : SheetRow)
    → AreElements Known (row_events form values formulas found)
row_fits form Known values formulas texts found =
    element_fits Known (codes "row") (attribute (codes "r") (row_reference found.row))
    (flat_map (cell_events form values formulas) found.positions)
    (word_name (codes "row") refl refl refl)
    (attribute_fits Known (codes "r") (row_reference found.row) refl refl
    (word_value Known (row_reference found.row) (decimal_word (found.row + 1))))
    (each_elements Known (cell_events form values formulas) found.positions
    (cell_fits form Known values formulas texts)).markup

-- ---- parts

-- the attributes of an outermost element
space_fits : (form : WrittenForm) (Known : Type 0) (space : List ℕ) → is_word space ≡ true
    → IsAttributes Known (space_attributes form space)
space_fits PackageText Known space are = no_attributes Known
space_fits WorkbookFile Known space are =
    attribute_fits Known (codes "xmlns") space refl refl (word_value Known space are)

workbook_space_fits : (form : WrittenForm) (Known : Type 0)
    → IsAttributes Known (workbook_attributes form)
workbook_space_fits PackageText Known = no_attributes Known
workbook_space_fits WorkbookFile Known =
    attributes_in_row Known (attribute (codes "xmlns") of_sheets)
    (attribute (codes "xmlns:r") (office []))
    (attribute_fits Known (codes "xmlns") of_sheets refl refl (word_value Known of_sheets refl))
    (attribute_fits Known (codes "xmlns:r") (office []) refl refl
    (word_value Known (office []) refl))

sheet_fits : (form : WrittenForm) (Known : Type 0) (values : PlacedValues)
    (formulas : PlacedFormulas)
    → KnowsCells form Known values formulas → AreElements Known (sheet_markup form values formulas)
sheet_fits form Known values formulas texts =
    element_fits Known (codes "worksheet") (space_attributes form of_sheets)
    (element (codes "sheetData") [] (data_markup form values formulas))
    (word_name (codes "worksheet") refl refl refl) (space_fits form Known of_sheets refl)
    (element_fits Known (codes "sheetData") [] (data_markup form values formulas)
    (word_name (codes "sheetData") refl refl refl) (no_attributes Known)
    (each_elements Known (row_events form values formulas)
    (in_rows (written_positions values formulas))
    (row_fits form Known values formulas texts)).markup).markup

-- an element with one attribute, whose value is a word, and nothing in it
one_word_fits : (Known : Type 0) (name key value : List ℕ) → IsName name
    → list_any ends_name key ≡ false → is_word key ≡ true → is_word value ≡ true
    → AreElements Known (element name (attribute key value) [])
one_word_fits Known name key value is clear are own =
    element_fits Known name (attribute key value) [] is
    (attribute_fits Known key value clear are (word_value Known value own))
    (no_elements Known).markup

relationship_fits : (Known : Type 0) (id kind target : List ℕ) → is_word id ≡ true
    → is_word (office kind) ≡ true → is_word target ≡ true
    → AreElements Known (relationship id kind target)
relationship_fits Known id kind target own type path =
    let name = attribute (codes "Id") id in
    let meaning = attribute (codes "Type") (office kind) in
    let end = attribute (codes "Target") target in
    element_fits Known (codes "Relationship") (name ++ (meaning ++ end)) []
    (word_name (codes "Relationship") refl refl refl)
    (attributes_in_row Known name (meaning ++ end)
    (attribute_fits Known (codes "Id") id refl refl (word_value Known id own))
    (attributes_in_row Known meaning end
    (attribute_fits Known (codes "Type") (office kind) refl refl
    (word_value Known (office kind) type))
    (attribute_fits Known (codes "Target") target refl refl (word_value Known target path))))
    (no_elements Known).markup

relationships_fit : (form : WrittenForm) (Known : Type 0) (listed : List Event)
    → AreElements Known listed → AreElements Known (relationships_of form listed)
relationships_fit form Known listed own =
    let space = of_packages (codes "relationships") in
    element_fits Known (codes "Relationships") (space_attributes form space) listed
    (word_name (codes "Relationships") refl refl refl) (space_fits form Known space refl) own.markup

to_styles_fit : (form : WrittenForm) (Known : Type 0) → AreElements Known (to_styles form)
to_styles_fit PackageText Known = no_elements Known
to_styles_fit WorkbookFile Known =
    relationship_fits Known (codes "rId2") (codes "/styles") (codes "styles.xml") refl refl refl

properties_fit : (Known : Type 0) (is_1904 : Bool) → AreElements Known (properties_by is_1904)
properties_fit Known true =
    one_word_fits Known (codes "workbookPr") (codes "date1904") (codes "1")
    (word_name (codes "workbookPr") refl refl refl) refl refl refl
properties_fit Known false = no_elements Known

sheet_attributes_fit : (Known : Type 0) (name : List ℕ) → (Known → IsPartText name)
    → IsAttributes Known (sheet_attributes name)
sheet_attributes_fit Known name own =
    let number = attribute (codes "sheetId") (codes "1") in
    let relationship = attribute (codes "r:id") (codes "rId1") in
    attributes_in_row Known (attribute (codes "name") (encoded name)) (number ++ relationship)
    (attribute_fits Known (codes "name") (encoded name) refl refl (encoded_value Known name own))
    (attributes_in_row Known number relationship
    (attribute_fits Known (codes "sheetId") (codes "1") refl refl
    (word_value Known (codes "1") refl))
    (attribute_fits Known (codes "r:id") (codes "rId1") refl refl
    (word_value Known (codes "rId1") refl)))

workbook_fits : (form : WrittenForm) (Known : Type 0) (name : List ℕ) (is_1904 : Bool)
    → (Known → IsPartText name) → AreElements Known (workbook_by form name is_1904)
workbook_fits form Known name is_1904 own =
    element_fits Known (codes "workbook") (workbook_attributes form)
    (properties_by is_1904 ++ sheets_events name)
    (word_name (codes "workbook") refl refl refl) (workbook_space_fits form Known)
    (elements_in_row Known (properties_by is_1904) (sheets_events name)
    (properties_fit Known is_1904)
    (element_fits Known (codes "sheets") [] (element (codes "sheet") (sheet_attributes name) [])
    (word_name (codes "sheets") refl refl refl) (no_attributes Known)
    (element_fits Known (codes "sheet") (sheet_attributes name) []
    (word_name (codes "sheet") refl refl refl) (sheet_attributes_fit Known name own)
    (no_elements Known).markup).markup)).markup

-- ---- styles

format_fits : (Known : Type 0) (id : List ℕ) → is_word id ≡ true
    → AreElements Known (cell_format id)
format_fits Known id are =
    one_word_fits Known (codes "xf") (codes "numFmtId") id (word_name (codes "xf") refl refl refl)
    refl refl are

formats_fit : (Known : Type 0) → AreElements Known cell_formats
formats_fit Known =
    let dates = cell_format (codes "14") ++ cell_format (codes "46") in
    element_fits Known (codes "cellXfs") [] (cell_format (codes "0") ++ dates)
    (word_name (codes "cellXfs") refl refl refl) (no_attributes Known)
    (elements_in_row Known (cell_format (codes "0")) dates (format_fits Known (codes "0") refl)
    (elements_in_row Known (cell_format (codes "14")) (cell_format (codes "46"))
    (format_fits Known (codes "14") refl) (format_fits Known (codes "46") refl))).markup

fonts_fit : (Known : Type 0) → AreElements Known font_list
fonts_fit Known =
    let size = bare (codes "sz") (codes "val") (codes "11") in
    let name = bare (codes "name") (codes "val") (codes "Calibri") in
    element_fits Known (codes "fonts") [] (element (codes "font") [] (size ++ name))
    (word_name (codes "fonts") refl refl refl) (no_attributes Known)
    (element_fits Known (codes "font") [] (size ++ name)
    (word_name (codes "font") refl refl refl) (no_attributes Known)
    (elements_in_row Known size name
    (one_word_fits Known (codes "sz") (codes "val") (codes "11")
    (word_name (codes "sz") refl refl refl) refl refl refl)
    (one_word_fits Known (codes "name") (codes "val") (codes "Calibri")
    (word_name (codes "name") refl refl refl) refl refl refl)).markup).markup

fill_fits : (Known : Type 0) (pattern : List ℕ) → is_word pattern ≡ true
    → AreElements Known (fill_with pattern)
fill_fits Known pattern are =
    element_fits Known (codes "fill") []
    (bare (codes "patternFill") (codes "patternType") pattern)
    (word_name (codes "fill") refl refl refl) (no_attributes Known)
    (one_word_fits Known (codes "patternFill") (codes "patternType") pattern
    (word_name (codes "patternFill") refl refl refl) refl refl are).markup

fills_fit : (Known : Type 0) → AreElements Known fill_list
fills_fit Known =
    let first = fill_with (codes "none") in
    let second = fill_with (codes "gray125") in
    element_fits Known (codes "fills") [] (first ++ second)
    (word_name (codes "fills") refl refl refl) (no_attributes Known)
    (elements_in_row Known first second (fill_fits Known (codes "none") refl)
    (fill_fits Known (codes "gray125") refl)).markup

borders_fit : (Known : Type 0) → AreElements Known border_list
borders_fit Known =
    element_fits Known (codes "borders") [] (element (codes "border") [] [])
    (word_name (codes "borders") refl refl refl) (no_attributes Known)
    (element_fits Known (codes "border") [] [] (word_name (codes "border") refl refl refl)
    (no_attributes Known) (no_elements Known).markup).markup

style_formats_fit : (Known : Type 0) → AreElements Known style_formats
style_formats_fit Known =
    element_fits Known (codes "cellStyleXfs") [] (cell_format (codes "0"))
    (word_name (codes "cellStyleXfs") refl refl refl) (no_attributes Known)
    (format_fits Known (codes "0") refl).markup

front_fits : (form : WrittenForm) (Known : Type 0) → AreElements Known (style_front form)
front_fits PackageText Known = no_elements Known
front_fits WorkbookFile Known =
    elements_in_row Known font_list (fill_list ++ (border_list ++ style_formats)) (fonts_fit Known)
    (elements_in_row Known fill_list (border_list ++ style_formats) (fills_fit Known)
    (elements_in_row Known border_list style_formats (borders_fit Known)
    (style_formats_fit Known)))

behind_fits : (form : WrittenForm) (Known : Type 0) → AreElements Known (style_behind form)
behind_fits PackageText Known = no_elements Known
behind_fits WorkbookFile Known =
    let name = attribute (codes "name") (codes "Normal") in
    let format = attribute (codes "xfId") (codes "0") in
    let own = attribute (codes "builtinId") (codes "0") in
    element_fits Known (codes "cellStyles") []
    (element (codes "cellStyle") (name ++ (format ++ own)) [])
    (word_name (codes "cellStyles") refl refl refl) (no_attributes Known)
    (element_fits Known (codes "cellStyle") (name ++ (format ++ own)) []
    (word_name (codes "cellStyle") refl refl refl)
    (attributes_in_row Known name (format ++ own)
    (attribute_fits Known (codes "name") (codes "Normal") refl refl
    (word_value Known (codes "Normal") refl))
    (attributes_in_row Known format own
    (attribute_fits Known (codes "xfId") (codes "0") refl refl (word_value Known (codes "0") refl))
    (attribute_fits Known (codes "builtinId") (codes "0") refl refl
    (word_value Known (codes "0") refl))))
    (no_elements Known).markup).markup

styles_fit : (form : WrittenForm) (Known : Type 0) → AreElements Known (style_events form)
styles_fit form Known =
    element_fits Known (codes "styleSheet") (space_attributes form of_sheets) (style_inside form)
    (word_name (codes "styleSheet") refl refl refl) (space_fits form Known of_sheets refl)
    (elements_in_row Known (style_front form) (cell_formats ++ style_behind form)
    (front_fits form Known)
    (elements_in_row Known cell_formats (style_behind form) (formats_fit Known)
    (behind_fits form Known))).markup

-- ---- types

two_words_fit : (Known : Type 0) (name key value other more : List ℕ) → IsName name
    → list_any ends_name key ≡ false → is_word key ≡ true → is_word value ≡ true
    → list_any ends_name other ≡ false → is_word other ≡ true → is_word more ≡ true
    → AreElements Known (element name (attribute key value ++ attribute other more) [])
two_words_fit Known name key value other more is clear are own apart second last =
    element_fits Known name (attribute key value ++ attribute other more) [] is
    (attributes_in_row Known (attribute key value) (attribute other more)
    (attribute_fits Known key value clear are (word_value Known value own))
    (attribute_fits Known other more apart second (word_value Known more last)))
    (no_elements Known).markup

default_fits : (Known : Type 0) (extension type : List ℕ) → is_word extension ≡ true
    → is_word type ≡ true → AreElements Known (default_type extension type)
default_fits Known extension type own are =
    two_words_fit Known (codes "Default") (codes "Extension") extension (codes "ContentType") type
    (word_name (codes "Default") refl refl refl) refl refl own refl refl are

own_fits : (Known : Type 0) (name kind : List ℕ) → is_word name ≡ true
    → is_word (codes "application/vnd.openxmlformats-officedocument.spreadsheetml." ++ kind) ≡ true
    → AreElements Known (own_type name kind)
own_fits Known name kind own are =
    two_words_fit Known (codes "Override") (codes "PartName") name (codes "ContentType")
    (codes "application/vnd.openxmlformats-officedocument.spreadsheetml." ++ kind)
    (word_name (codes "Override") refl refl refl) refl refl own refl refl are

types_fit : (Known : Type 0) → AreElements Known type_events
types_fit Known =
    let relationships = default_type (codes "rels")
    (codes "application/vnd.openxmlformats-package.relationships+xml") in
    let markup = default_type (codes "xml") (codes "application/xml") in
    let workbook = own_type (codes "/xl/workbook.xml") (codes "sheet.main+xml") in
    let styles = own_type (codes "/xl/styles.xml") (codes "styles+xml") in
    let sheet = own_type (codes "/xl/worksheets/sheet1.xml") (codes "worksheet+xml") in
    let space = of_packages (codes "content-types") in
    element_fits Known (codes "Types") (space_attributes WorkbookFile space)
    (relationships ++ (markup ++ (workbook ++ (styles ++ sheet))))
    (word_name (codes "Types") refl refl refl) (space_fits WorkbookFile Known space refl)
    (elements_in_row Known relationships (markup ++ (workbook ++ (styles ++ sheet)))
    (default_fits Known (codes "rels")
    (codes "application/vnd.openxmlformats-package.relationships+xml") refl refl)
    (elements_in_row Known markup (workbook ++ (styles ++ sheet))
    (default_fits Known (codes "xml") (codes "application/xml") refl refl)
    (elements_in_row Known workbook (styles ++ sheet)
    (own_fits Known (codes "/xl/workbook.xml") (codes "sheet.main+xml") refl refl)
    (elements_in_row Known styles sheet
    (own_fits Known (codes "/xl/styles.xml") (codes "styles+xml") refl refl)
    (own_fits Known (codes "/xl/worksheets/sheet1.xml") (codes "worksheet+xml") refl
    refl))))).markup

-- ---- all parts

-- what holds of a part, and of those behind it
all_more : (P : Part → Type 0) (first : Part) (parts : List Part) → P first → All P parts
    → All P (first ∷ parts)
all_more P first parts own more zero d within = own
all_more P first parts own more (suc k) d within = more k d (omega arith)

-- where a part's elements fit, and it begins with one, what is wanted of each part holds of it
abbrev HoldsByElements : (Part → Type 0) → Type 0 → Type 0
HoldsByElements P Known =
    (own : Part) → AreElements Known own.events → begin_with_tag (pieces_of own.events) ≡ true
    → P own

type_part : (form : WrittenForm) (P : Part → Type 0) (Known : Type 0) (parts : List Part)
    → HoldsByElements P Known → All P parts → All P (type_parts form ++ parts)
type_part PackageText P Known parts each more = more
type_part WorkbookFile P Known parts each more =
    let types = part (codes "[Content_Types].xml") type_events in
    all_more P types parts (each types (types_fit Known) refl) more

-- what holds of each part's elements, with its first event
all_parts : (form : WrittenForm) (P : Part → Type 0) (Known : Type 0) (name : List ℕ)
    (values : PlacedValues) (formulas : PlacedFormulas)
    → (Known → HaveTexts form name values formulas) → HoldsByElements P Known
    → All P (written_parts form name values formulas)
unfolding written_parts
all_parts form P Known name values formulas texts each =
    let roots = part (codes "_rels/.rels") (root_events form) in
    let targets = part (codes "xl/_rels/workbook.xml.rels") (related_events form) in
    let workbook = part (codes "xl/workbook.xml") (workbook_markup form name values) in
    let styles = part (codes "xl/styles.xml") (style_events form) in
    let sheet = part (codes "xl/worksheets/sheet1.xml") (sheet_markup form values formulas) in
    type_part form P Known (roots ∷ targets ∷ workbook ∷ styles ∷ sheet ∷ []) each
    (all_more P roots (targets ∷ workbook ∷ styles ∷ sheet ∷ [])
    (each roots (relationships_fit form Known to_workbook
    (relationship_fits Known (codes "rId1") (codes "/officeDocument") (codes "xl/workbook.xml")
    refl refl refl)) refl)
    (all_more P targets (workbook ∷ styles ∷ sheet ∷ [])
    (each targets (relationships_fit form Known (to_sheet ++ to_styles form)
    (elements_in_row Known to_sheet (to_styles form)
    (relationship_fits Known (codes "rId1") (codes "/worksheet") (codes "worksheets/sheet1.xml")
    refl refl refl) (to_styles_fit form Known))) refl)
    (all_more P workbook (styles ∷ sheet ∷ [])
    (each workbook (workbook_fits form Known name (list_any (λ entry. is_from_1904 entry.1) values)
    (λ known. (texts known).of_name)) refl)
    (all_more P styles (sheet ∷ []) (each styles (styles_fit form Known) refl)
    (all_more P sheet []
    (each sheet (sheet_fits form Known values formulas
    (λ known. (texts known).of_values, λ known. (texts known).of_formulas)) refl)
    (λ k d within. absurd (omega arith)))))))

are_spellable_alone : (Known : Type 0) (events : List Event) → AreElements Known events
    → are_spellable (pieces_of events) ≡ true
are_spellable_alone Known events own =
    ap (λ (all : List Event). are_spellable (pieces_of all)) (sym (append-nil events))
    ∙ own.markup.spelled [] refl refl

pub parts_spelled : (form : WrittenForm) (name : List ℕ) (values : PlacedValues)
    (formulas : PlacedFormulas)
    → AreSpelled (written_parts form name values formulas)
parts_spelled form name values formulas =
    all_parts form IsSpelled (HaveTexts form name values formulas) name values formulas
    (λ known. known)
    (λ own fits tag. record {
      spellable = are_spellable_alone (HaveTexts form name values formulas) own.events fits;
      events = events_of_pieces own.events;
    })

pub parts_cut_back : (form : WrittenForm) (name : List ℕ) (values : PlacedValues)
    (formulas : PlacedFormulas)
    → HaveTexts form name values formulas → AreCutBack (written_parts form name values formulas)
parts_cut_back form name values formulas texts =
    let Known = HaveTexts form name values formulas in
    all_parts form (λ own. part_markup (spelled (pieces_of own.events))
    ≡ own.events) Known name values
    formulas (λ known. known)
    (λ own fits tag. part_cut_back (pieces_of own.events)
    (are_spellable_alone Known own.events fits) tag
    (texts_of_pieces own.events (fits.markup.texts texts))
    ∙ events_of_pieces own.events)

-- ---- ranges

string_text : {Z : Type 0} (own : String Z) → has_byte 0 (string_bytes own) ≡ false
    → IsPartText (string_bytes own)
string_text own none = record { utf8 = IsUtf8-string_bytes own; no_zero = none }

text_by : {Z : Type 0} (form : WrittenForm) (own : String Z)
    → text_has_zero form (string_bytes own) ≡ false → IsTextIn form (string_bytes own)
text_by PackageText own none = string_text own none
text_by WorkbookFile own none = IsUtf8-string_bytes own

data_text : (form : WrittenForm) (data_of : Data) → has_zero form (value_of_data data_of) ≡ false
    → HasPartText form (value_of_data data_of)
data_text form (owned.Int n) none = tt
data_text form (owned.Decimal d) none = tt
data_text form (owned.String own) none = text_by form own none
data_text form (owned.Bool b) none = tt
data_text form (owned.DateTime date) none = tt
data_text form (owned.DateTimeIso own) none = string_text own none
data_text form (owned.Error error) none = tt
data_text form owned.Empty none = tt

-- what holds of each thing of which a test fails holds of all of which it fails
all_by_test : {X Y : Type 0} (meaning : X → Y) (test : Y → Bool) (P : Y → Type 0)
    → ((x : X) → test (meaning x) ≡ false → P (meaning x)) → (cells : List ((ℕ × ℕ) × X))
    → list_any (λ entry. test entry.1) (map (with_meaning meaning) cells) ≡ false
    → All (λ entry. P entry.1) (map (with_meaning meaning) cells)
all_by_test meaning test P each [] none k d within = absurd (omega arith)
all_by_test meaning test P each (cell ∷ cells) none zero d within =
    each cell.1 (or_parts _ _ none).0
all_by_test meaning test P each (cell ∷ cells) none (suc k) d within =
    all_by_test meaning test P each cells (or_parts _ _ none).1 k d (omega arith)

pub ranges_cut_back : (form : WrittenForm) (name : List ℕ) (values : Range Data)
    (formulas : Range (String Global))
    → IsPartText name → HaveNoZero form values formulas
    → AreCutBack (written_parts form name (value_pairs values) (formula_pairs formulas))
ranges_cut_back form name values formulas own none =
    parts_cut_back form name (value_pairs values) (formula_pairs formulas) (record {
      of_name = own;
      of_values = all_by_test value_of_data (has_zero form) (HasPartText form) (data_text form)
          (cells_of values)
          none.of_values;
      of_formulas = all_by_test (λ (s : String Global). string_bytes s) (has_byte 0) IsPartText
          string_text (cells_of formulas) none.of_formulas;
    })
