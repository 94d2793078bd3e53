-- A written cell has the value that was written, in the format of the style that was written.
use Rattle.std.proofs.Common.{◌≡◌, ℕ, ℤ, ◌<◌, Bool, true, false, List, [], ◌∷◌, ◌++◌, map, Option}
use Rattle.std.proofs.Common.{Some, None, Ok, Err, Result, refl, sym, ap, ◌∙◌, append-nil, arith}
use Rattle.std.specs.List.{list_any}
use Rattle.std.specs.Prelude.{◌==◌, ◌&&◌, ◌||◌, ◌%◌, not, nat_abs, pos, negsuc, codes}
use Rattle.std.proofs.lemmas.Bool.{eq-eqb, eqb-true}
use Rattle.cell_refs.proofs.PositionOrder.{and_both}
use Rattle.std.specs.Str.{trim_start, trim_end, chars}
use lib.Utf8.{encode}
use Rattle.attr_text.specs.Words.{lookup, first_values, unescaped}
use Rattle.part_events.specs.Words.{Event, leaf, text as text_leaf, joined_text, children, is_any}
use Rattle.cell_refs.specs.Words.{reference}
use Rattle.cell_data.specs.Words.{CellValue, nothing, integer, number, text, shared_text, truth}
use Rattle.cell_data.specs.Words.{time, iso_time, failure}
use Rattle.cell_data.specs.declared.format.CellFormat.{CellFormat}
use Rattle.cell_data.specs.declared.format.CellFormat.TheVariants as format
use Rattle.cell_data.specs.declared.value.CellErrorType.{CellErrorType}
use Rattle.cell_data.specs.declared.value.CellErrorType.TheVariants.{Div0, NA, Name, Null, Num, Ref}
use Rattle.cell_data.specs.declared.value.CellErrorType.TheVariants.{Value, GettingData}
use Rattle.cell_data.specs.declared.value.ExcelDateTimeType.{ExcelDateTimeType}
use Rattle.cell_data.specs.declared.value.ExcelDateTimeType.TheVariants.{DateTime, TimeDelta}
use Rattle.decimals.specs.Words.{printed, has_bits}
use Rattle.decimals.specs.Decimals.{decimal_of}
use Rattle.decimals.proofs.ReadsBack.{printed_back}
use Rattle.written_markup.specs.Words.{element, IsNested, none, is_referenced, text_events}
use Rattle.written_markup.proofs.EventsReadBack.{joined_text_events, text_events_are_known, one_run}
use Rattle.written_markup.proofs.Nested.{outermost_of_elements, text_events_nested}
use Rattle.written_markup.proofs.PairsReadBack.{lookup_written}
use Rattle.written_markup.proofs.LeastEscapes.{unescaped_least}
use Rattle.written_markup.proofs.TextsReadBack.{unescaped_escaped}
use Rattle.xlsx_sections.specs.Words.{last_answer, or_later, known_text, element_text, Refusal}
use Rattle.xlsx_values.specs.Words.{CellKind, of_text, of_date, kind_named, ValueContext}
use Rattle.xlsx_values.specs.Words.{cell_value, looked_value, value_in, value_element, child_value}
use Rattle.xlsx_values.specs.Words.{or_nothing, format_of, first_text, number_value, formatted}
use Rattle.xlsx_values.specs.Words.{of_first, of_joined, value_of_joined, some_value}
use Rattle.xlsx_writer.specs.Words.{PlacedFormulas, WrittenFormula, plain, master, derived}
use Rattle.xlsx_writer.specs.Words.{written_formula, is_decimal, is_writable_value, counts_from}
use Rattle.xlsx_writer.specs.Words.{cell_attributes, style_written, type_written, value_written}
use Rattle.xlsx_writer.specs.Words.{value_events, formula_events, optional_formula}
use Rattle.xlsx_writer.specs.Words.{master_attributes, derived_attributes, text_written}
use Rattle.xlsx_writer.specs.Words.{value_attributes}
use Rattle.round_trip.specs.ReadValues.{IsKeptAs, written_formats}
use Rattle.round_trip.proofs.CellPairs.{cell_pairs, cell_attributes_are, cell_pairs_writable}
use Rattle.round_trip.proofs.WrittenBytes.{printed_is_plain}
use Rattle.xlsx_writer.specs.declared.form.WrittenForm.{WrittenForm}
use Rattle.xlsx_writer.specs.declared.form.WrittenForm.TheVariants.{PackageText, WorkbookFile}

-- ---- the text of a `v`

-- the text of a `v` whose texts are joined
pub element_text_written : (bytes : List ℕ) → element_text false (text_events bytes) ≡ Ok bytes
element_text_written bytes =
    ap (known_text (joined_text false (text_events bytes))) (text_events_are_known bytes)
    ∙ ap Ok (joined_text_events bytes)

-- what is read of the first text of events that are one text
first_of_one : (read : List ℕ → Result CellValue Refusal) (bytes : List ℕ) (events : List Event)
    → events ≡ leaf (text_leaf bytes) ∷ [] → of_first read (first_text events) ≡ read bytes
first_of_one read bytes events is =
    ap (λ (own : List Event). of_first read (first_text own)) is

-- ---- numbers

abs_zero : (z : ℤ) → nat_abs z ≡ 0 → z ≡ pos 0
abs_zero (pos n) is = ap pos is
abs_zero (negsuc n) is = absurd (omega (arith, is))

zero_ends : (z : ℤ) → z ≡ pos 0 → nat_abs z % 10 ≡ 0
zero_ends z is = ap (λ (own : ℤ). nat_abs own % 10) is

-- only zero ends in a zero, and has the power 0
zero_alone : (a b : ℕ) → (not (a % 10 == 0) || (a == 0 && b == 0)) ≡ true → a % 10 ≡ 0
    → (a ≡ 0) × (b ≡ 0)
zero_alone a b test ends =
    let both = and_both (a == 0) (b == 0) (rw (eq-eqb (a % 10) 0 ends) at test) in
    (eqb-true a 0 both.0, eqb-true b 0 both.1)

-- the bits of a decimal
decimal_fits : (n : ℤ × ℤ) → is_decimal n ≡ true
    → (has_bits 127 n.0 ≡ true) × (has_bits 31 n.1 ≡ true)
decimal_fits n is =
    and_both (has_bits 127 n.0) (has_bits 31 n.1)
    (and_both (has_bits 127 n.0 && has_bits 31 n.1)
    (not (nat_abs n.0 % 10 == 0) || (nat_abs n.0 == 0 && nat_abs n.1 == 0)) is).0

-- the text of a decimal says it
decimal_is_back : (n : ℤ × ℤ) → is_decimal n ≡ true → decimal_of (printed n) ≡ Some n
decimal_is_back n is =
    let fits = decimal_fits n is in
    let form = zero_alone (nat_abs n.0) (nat_abs n.1)
    (and_both (has_bits 127 n.0 && has_bits 31 n.1)
    (not (nat_abs n.0 % 10 == 0) || (nat_abs n.0 == 0 && nat_abs n.1 == 0)) is).1 in
    printed_back n.0 n.1 fits.0 fits.1
    (λ zero. abs_zero n.1 (form (zero_ends n.0 zero)).1)
    (λ ends. abs_zero n.0 (form ends).0)

no_decimal : decimal_of [] ≡ None
unfolding decimal_of
no_decimal = refl

-- a text of a number is read by the format of its style
number_of_text : (is_1904 : Bool) (form : CellFormat) (n : ℤ × ℤ) (bytes : List ℕ)
    → list_any is_referenced bytes ≡ false → decimal_of bytes ≡ Some n
    → of_first (number_value is_1904 form false) (first_text (text_events bytes))
    ≡ Ok (formatted is_1904 form n)
number_of_text is_1904 form n [] lacks reads =
    absurd (let none : decimal_of [] ≡ None = no_decimal in cc)
number_of_text is_1904 form n (b ∷ bs) lacks reads =
    first_of_one (number_value is_1904 form false) (b ∷ bs) (text_events (b ∷ bs))
    (one_run (b ∷ bs) lacks)
    ∙ (rw reads refl)

number_read : (is_1904 : Bool) (form : CellFormat) (n : ℤ × ℤ) → is_decimal n ≡ true
    → of_first (number_value is_1904 form false) (first_text (text_events (printed n)))
    ≡ Ok (formatted is_1904 form n)
number_read is_1904 form n is =
    let fits = decimal_fits n is in
    number_of_text is_1904 form n (printed n) (printed_is_plain n fits.0 fits.1)
    (decimal_is_back n is)

-- ---- one case a kind

-- what the `v` of a value says, in a cell with the style and the type that are written of it
abbrev Says : WrittenForm → ValueContext → CellValue → Type 0
Says form context value =
    value_element context (format_of context.formats (style_written value))
    (kind_named (type_written value)) (text_events (value_written form value)) ≡ Ok (Some value)

truth_says : (form : WrittenForm) (context : ValueContext) (holds : Bool) → Says form context
    (truth holds)
unfolding trim_start trim_end chars encode
truth_says form context true = refl
truth_says form context false = refl

error_says : (form : WrittenForm) (context : ValueContext) (error : CellErrorType)
    → IsKeptAs context.is_1904 (failure error) → Says form context (failure error)
error_says form context Div0 is = refl
error_says form context NA is = refl
error_says form context Name is = refl
error_says form context Null is = refl
error_says form context Num is = refl
error_says form context Ref is = refl
error_says form context Value is = refl
error_says form context GettingData is = absurd (cc)

-- a text as it is written in a form is read back
text_reads : (form : WrittenForm) (bytes : List ℕ) → unescaped (text_written form bytes) ≡ bytes
text_reads PackageText bytes = unescaped_escaped bytes
text_reads WorkbookFile bytes = unescaped_least bytes

text_says : (form : WrittenForm) (context : ValueContext) (bytes : List ℕ)
    → Says form context (text bytes)
text_says form context bytes =
    ap (λ own. some_value (of_joined (value_of_joined of_text) own))
    (element_text_written (text_written form bytes))
    ∙ ap (λ (own : List ℕ). Ok (Some (text own))) (text_reads form bytes)

iso_says : (form : WrittenForm) (context : ValueContext) (bytes : List ℕ) → Says form context
    (iso_time bytes)
iso_says form context bytes =
    ap (λ own. some_value (of_joined (value_of_joined of_date) own)) (element_text_written bytes)

number_says : (form : WrittenForm) (context : ValueContext) (n : ℤ × ℤ) → is_decimal n ≡ true
    → Says form context (number n)
number_says form context n is = ap some_value (number_read context.is_1904 format.Other n is)

-- the formats that the styles of times have
time_format : (formats : List CellFormat) → formats ≡ written_formats
    → (days : ℤ × ℤ) (kind : ExcelDateTimeType) (is_1904 : Bool)
    → formatted is_1904 (format_of formats (style_written (time days kind is_1904))) days
    ≡ time days kind is_1904
time_format formats are days DateTime is_1904 = rw are refl
time_format formats are days TimeDelta is_1904 = rw are refl

time_says : (form : WrittenForm) (context : ValueContext) → context.formats ≡ written_formats
    → (days : ℤ × ℤ) (kind : ExcelDateTimeType) (is_1904 : Bool) → is_decimal days ≡ true
    → is_1904 ≡ context.is_1904 → Says form context (time days kind is_1904)
time_says form context are days kind is_1904 is epoch =
    ap some_value (number_read context.is_1904
    (format_of context.formats (style_written (time days kind is_1904))) days is)
    ∙ ap (λ (own : Bool). Ok (Some (formatted own
    (format_of context.formats (style_written (time days kind is_1904))) days))) (sym epoch)
    ∙ ap (λ (own : CellValue). Ok (Some own)) (time_format context.formats are days kind is_1904)

-- ---- the cell

-- what a cell of no type gives behind an `f`
formula_says_nothing : (context : ValueContext) (form : CellFormat) (kind : CellKind)
    (position : ℕ × ℕ) (w : WrittenFormula) (rest : List Event)
    → last_answer (child_value context form kind) (children (formula_events position w ++ rest))
    ≡ last_answer (child_value context form kind) (children rest)
formula_says_nothing context form kind position w rest =
    by w where
      later : (r : Result (Option CellValue) Refusal) → or_later (Ok None) r ≡ r
      later (Ok (Some found)) = refl
      later (Ok None) = refl
      later (Err refusal) = refl

      one : (attributes : List ℕ) (inside : List Event) → IsNested inside
          → last_answer (child_value context form kind)
          (children (element (codes "f") attributes inside ++ rest))
          ≡ last_answer (child_value context form kind) (children rest)
      one attributes inside is =
          ap (last_answer (child_value context form kind))
          (outermost_of_elements is_any (codes "f") attributes inside rest is refl)
          ∙ later (last_answer (child_value context form kind) (children rest))

      by : (w : WrittenFormula)
          → last_answer (child_value context form kind)
          (children (formula_events position w ++ rest))
          ≡ last_answer (child_value context form kind) (children rest)
      by (plain formula) = one [] (text_events formula) (text_events_nested formula)
      by (master formula last index) =
          one (master_attributes position last index) (text_events formula)
          (text_events_nested formula)
      by (derived index) = one (derived_attributes index) [] none

optional_says_nothing : (form : WrittenForm) (context : ValueContext) (style : CellFormat)
    (kind : CellKind) (formulas : PlacedFormulas) (position : ℕ × ℕ) (o : Option (List ℕ))
    (rest : List Event)
    → last_answer (child_value context style kind)
    (children (optional_formula form formulas position o ++ rest))
    ≡ last_answer (child_value context style kind) (children rest)
optional_says_nothing form context style kind formulas position None rest = refl
optional_says_nothing form context style kind formulas position (Some formula) rest =
    formula_says_nothing context style kind position
    (written_formula form formulas position formula) rest

-- a `v` alone
one_value : (context : ValueContext) (style : CellFormat) (kind : CellKind)
    (attributes bytes : List ℕ)
    (value : CellValue) → value_element context style kind (text_events bytes) ≡ Ok (Some value)
    → value_in context style kind (element (codes "v") attributes (text_events bytes)) ≡ Ok value
one_value context style kind attributes bytes value says =
    ap (λ (events : List Event). or_nothing (last_answer (child_value context style kind)
    (children events))) (sym (append-nil (element (codes "v") attributes (text_events bytes))))
    ∙ ap (λ elements. or_nothing (last_answer (child_value context style kind) elements))
    (outermost_of_elements is_any (codes "v") attributes (text_events bytes) []
    (text_events_nested bytes) refl)
    ∙ (rw says refl)

-- the `v` of a value, in a cell with what is written of it
its_value : (form : WrittenForm) (context : ValueContext) (value : CellValue)
    → Says form context value
    → value_in context (format_of context.formats (style_written value))
    (kind_named (type_written value))
    (element (codes "v") (value_attributes form value) (text_events (value_written form value)))
    ≡ Ok value
its_value form context value says =
    one_value context (format_of context.formats (style_written value))
    (kind_named (type_written value)) (value_attributes form value) (value_written form value) value
    says

-- the value of what is written in a cell
written_value : (form : WrittenForm) (context : ValueContext) → context.formats ≡ written_formats →
    (value : CellValue)
    → IsKeptAs context.is_1904 value
    → value_in context (format_of context.formats (style_written value))
    (kind_named (type_written value)) (value_events form value) ≡ Ok value
written_value form context are nothing is = refl
written_value form context are (integer n) is = absurd is
written_value form context are (number n) is =
    its_value form context (number n) (number_says form context n is)
written_value form context are (text bytes) is =
    its_value form context (text bytes) (text_says form context bytes)
written_value form context are (shared_text place) is = absurd is
written_value form context are (truth holds) is =
    its_value form context (truth holds) (truth_says form context holds)
written_value form context are (time days kind is_1904) is =
    its_value form context (time days kind is_1904)
    (time_says form context are days kind is_1904 is.0 is.1)
written_value form context are (iso_time bytes) is =
    its_value form context (iso_time bytes) (iso_says form context bytes)
written_value form context are (failure error) is =
    its_value form context (failure error) (error_says form context error is)

-- what is looked up at the start of a cell: its position, its style and its type
pub cell_keys_read : (position : ℕ × ℕ) (value : CellValue) → position.0 < 1048576
    → lookup (codes "r" ∷ codes "s" ∷ codes "t" ∷ []) (cell_attributes position value)
    ≡ Ok (Some (reference position) ∷ style_written value ∷ type_written value ∷ [])
cell_keys_read position value inside =
    ap (lookup (codes "r" ∷ codes "s" ∷ codes "t" ∷ [])) (cell_attributes_are position value)
    ∙ lookup_written (codes "r" ∷ codes "s" ∷ codes "t" ∷ []) (cell_pairs position value)
    (cell_pairs_writable position value inside)
    ∙ ap Ok (found value) where
      found : (value : CellValue)
          → first_values (codes "r" ∷ codes "s" ∷ codes "t" ∷ [])
          (map Ok (cell_pairs position value))
          ≡ Some (reference position) ∷ style_written value ∷ type_written value ∷ []
      found nothing = refl
      found (integer n) = refl
      found (number n) = refl
      found (text bytes) = refl
      found (shared_text place) = refl
      found (truth holds) = refl
      found (time days kind is_1904) = refl
      found (iso_time bytes) = refl
      found (failure error) = refl

-- the value of a written cell is the value that was written
pub cell_value_read : (form : WrittenForm) (context : ValueContext) → context.formats
    ≡ written_formats
    → (formulas : PlacedFormulas) (position : ℕ × ℕ) (o : Option (List ℕ)) (value : CellValue)
    → position.0 < 1048576 → IsKeptAs context.is_1904 value
    → cell_value context (record { name = codes "c"; attributes = cell_attributes position value })
    (optional_formula form formulas position o ++ value_events form value) ≡ Ok value
cell_value_read form context are formulas position o value inside is =
    let style = format_of context.formats (style_written value) in
    let kind = kind_named (type_written value) in
    ap (looked_value context (optional_formula form formulas position o ++ value_events form value))
    (cell_keys_read position value inside)
    ∙ ap or_nothing
    (optional_says_nothing form context style kind formulas position o (value_events form value))
    ∙ written_value form context are value is

same_epoch : (epoch is_1904 : Bool) → (days : ℤ × ℤ) (kind : ExcelDateTimeType)
    → counts_from is_1904 (time days kind epoch) ≡ true → epoch ≡ is_1904
same_epoch true true days kind counts = refl
same_epoch false true days kind counts = absurd (cc)
same_epoch true false days kind counts = absurd (cc)
same_epoch false false days kind counts = refl

-- a value that is written, and counts from the first year, reads back
pub written_reads_back : (is_1904 : Bool) (value : CellValue) → is_writable_value value ≡ true
    → counts_from is_1904 value ≡ true → IsKeptAs is_1904 value
written_reads_back is_1904 nothing written counts = tt
written_reads_back is_1904 (integer n) written counts = absurd (cc)
written_reads_back is_1904 (number n) written counts = written
written_reads_back is_1904 (text bytes) written counts = tt
written_reads_back is_1904 (shared_text place) written counts = absurd (cc)
written_reads_back is_1904 (truth holds) written counts = tt
written_reads_back is_1904 (time days kind epoch) written counts =
    (written, same_epoch epoch is_1904 days kind counts)
written_reads_back is_1904 (iso_time bytes) written counts = tt
written_reads_back is_1904 (failure error) written counts = written
