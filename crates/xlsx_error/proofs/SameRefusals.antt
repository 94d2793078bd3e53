-- `==` of refusals holds exactly where they are seen as the same. It compares the variants one by
-- one, each with all that come behind it, and so does the proof.
use Rattle.std.proofs.Common.{◌≡◌, sym, ◌∙◌, Bool, true, false, ◌&&◌, nat_eq, ℕ, List, refl, ap}
use Rattle.std.proofs.Common.{rules, ◌⊎◌, inl, inr, Bor, ◌↔◌}
use Rattle.std.specs.Prelude.{String, string_bytes, string_eq}
use Rattle.std.specs.Cmp.Lexicographic.{pointwise}
use Rattle.std.specs.declared.alloc.Global.{Global}
use Rattle.std.proofs.lemmas.Slice.Eq.{bytes_eq-Decides}
use Rattle.equalities.specs.Equality.{IsEqualityBy}
use Rattle.equalities.proofs.Equality.{of_pairs, of_sums, sum_eq, sum_seen, of_number, of_text}
use Rattle.attr_text.specs.contracts.fault.AttrFaultPartialEq.TheImpl as attributes
use Rattle.attr_text.specs.declared.fault.AttrFault.{AttrFault}
use Rattle.part_events.specs.contracts.fault.XmlFaultPartialEq.TheImpl as markup
use Rattle.part_events.specs.declared.fault.XmlFault.{XmlFault}
use Rattle.xlsx_error.specs.XlsxError
use Rattle.xlsx_error.specs.XlsxError.{RefusalSeen, refusal_seen}
use Rattle.xlsx_error.specs.contracts.error.XlsxErrorPartialEq.TheImpl as error
use Rattle.xlsx_error.specs.contracts.error.XlsxError.{as_values}
use Rattle.xlsx_error.specs.declared.error.XlsxError.{XlsxError}
use Rattle.xlsx_error.specs.declared.error.XlsxError.TheVariants as is

abbrev Text : Type 0
Text = String Global

abbrev nothing_seen : Unit {0} → Unit {0}
nothing_seen x = x

of_nothing : IsEqualityBy nothing_seen (λ _ _. true)
of_nothing a b = (λ _. refl, λ _. refl)

abbrev markup_seen : XmlFault × Unit {0} → XmlFault
markup_seen x = x.0

of_markup : IsEqualityBy markup_seen (λ a b. markup.ghosts.eq a.0 b.0)
of_markup a b = search rules

abbrev attributes_seen : AttrFault × Unit {0} → AttrFault
attributes_seen x = x.0

of_attributes : IsEqualityBy attributes_seen (λ a b. attributes.ghosts.eq a.0 b.0)
of_attributes a b = search rules

abbrev string_seen : Text × Unit {0} → List ℕ
string_seen x = string_bytes x.0

of_string : IsEqualityBy string_seen (λ a b. string_eq a.0 b.0)
of_string a b = bytes_eq-Decides (string_bytes a.0) (string_bytes b.0)

abbrev str_seen : Bor (List ℕ) × Unit {0} → List ℕ
str_seen x = x.0.now

of_str : IsEqualityBy str_seen (λ a b. pointwise nat_eq a.0.now b.0.now)
of_str a b = of_text a.0.now b.0.now

abbrev count_seen : ℕ × Unit {0} → ℕ
count_seen x = x.0

of_count : IsEqualityBy count_seen (λ a b. nat_eq a.0 b.0)
of_count a b = of_number a.0 b.0

abbrev both_seen : Bor (List ℕ) × (Text × Unit {0}) → List ℕ × List ℕ
both_seen x = (x.0.now, string_bytes x.1.0)

of_both :
    IsEqualityBy both_seen
    (λ a b. pointwise nat_eq a.0.now b.0.now && string_eq a.1.0 b.1.0)
of_both a b = of_pairs of_text of_text (both_seen a) (both_seen b)

of_none : IsEqualityBy (λ (x : ⊥). x) (λ _ _. false)
of_none a b = absurd a

-- five variants, and those behind them
abbrev Five : Type 0 → Type 0 → Type 0 → Type 0 → Type 0 → Type 0 → Type 0
Five A B C D E Others = A ⊎ (B ⊎ (C ⊎ (D ⊎ (E ⊎ Others))))

abbrev behind : {A B C D E Others : Type 0} → Others → Five A B C D E Others
behind others = inr (inr (inr (inr (inr others))))

-- what is seen of each variant, those of names last
abbrev NamesSeen : Type 0
NamesSeen = Five (List ℕ) (List ℕ) (List ℕ) (List ℕ) (List ℕ) ⊥

abbrev CellsSeen : Type 0
CellsSeen = Five (Unit {0}) ℕ (List ℕ) (List ℕ) (List ℕ × List ℕ) NamesSeen

abbrev ReferencesSeen : Type 0
ReferencesSeen = Five (Unit {0}) ℕ (Unit {0}) (Unit {0}) (Unit {0}) CellsSeen

abbrev PartsSeen : Type 0
PartsSeen = Five (List ℕ) (List ℕ) (List ℕ) (List ℕ) (List ℕ) ReferencesSeen

abbrev Seen : Type 0
Seen = Five (Unit {0}) (Unit {0}) (Unit {0}) XmlFault AttrFault PartsSeen

abbrev values_seen : XlsxError → Seen
values_seen a =
    sum_seen nothing_seen (sum_seen nothing_seen (sum_seen nothing_seen (sum_seen markup_seen (
    sum_seen attributes_seen (sum_seen string_seen (sum_seen string_seen (sum_seen str_seen (
    sum_seen str_seen (sum_seen string_seen (sum_seen nothing_seen (sum_seen count_seen (
    sum_seen nothing_seen (sum_seen nothing_seen (sum_seen nothing_seen (sum_seen nothing_seen (
    sum_seen count_seen (sum_seen string_seen (sum_seen str_seen (sum_seen both_seen (
    sum_seen string_seen (sum_seen string_seen (sum_seen string_seen (sum_seen string_seen (
    sum_seen string_seen (λ (x : ⊥). x))))))))))))))))))))))))) (as_values a)

abbrev decode_names : NamesSeen → RefusalSeen
decode_names (inl text) = XlsxError.cell_error text
decode_names (inr (inl text)) = XlsxError.worksheet_not_found text
decode_names (inr (inr (inl text))) = XlsxError.table_not_found text
decode_names (inr (inr (inr (inl text)))) = XlsxError.not_a_worksheet text
decode_names (inr (inr (inr (inr (inl text))))) = XlsxError.pivot_table_not_found text
decode_names (inr (inr (inr (inr (inr none))))) = absurd none

abbrev decode_cells : CellsSeen → RefusalSeen
decode_cells (inl nothing) = XlsxError.row_number_overflow
decode_cells (inr (inl number)) = XlsxError.dimension_count number
decode_cells (inr (inr (inl text))) = XlsxError.cell_t_attribute text
decode_cells (inr (inr (inr (inl text)))) = XlsxError.unexpected text
decode_cells (inr (inr (inr (inr (inl (typ, val)))))) = XlsxError.unrecognized typ val
decode_cells (inr (inr (inr (inr (inr others))))) = decode_names others

abbrev decode_references : ReferencesSeen → RefusalSeen
decode_references (inl nothing) = XlsxError.relationship_not_found
decode_references (inr (inl number)) = XlsxError.alphanumeric number
decode_references (inr (inr (inl nothing))) = XlsxError.range_without_column_component
decode_references (inr (inr (inr (inl nothing)))) = XlsxError.range_without_row_component
decode_references (inr (inr (inr (inr (inl nothing))))) = XlsxError.column_number_overflow
decode_references (inr (inr (inr (inr (inr others))))) = decode_cells others

abbrev decode_parts : PartsSeen → RefusalSeen
decode_parts (inl text) = XlsxError.parse_float text
decode_parts (inr (inl text)) = XlsxError.parse_int text
decode_parts (inr (inr (inl text))) = XlsxError.xml_eof text
decode_parts (inr (inr (inr (inl text)))) = XlsxError.unexpected_node text
decode_parts (inr (inr (inr (inr (inl text))))) = XlsxError.file_not_found text
decode_parts (inr (inr (inr (inr (inr others))))) = decode_references others

abbrev decode : Seen → RefusalSeen
decode (inl nothing) = XlsxError.out_of_memory
decode (inr (inl nothing)) = XlsxError.failed
decode (inr (inr (inl nothing))) = XlsxError.io
decode (inr (inr (inr (inl fault)))) = XlsxError.xml fault
decode (inr (inr (inr (inr (inl fault))))) = XlsxError.xml_attr fault
decode (inr (inr (inr (inr (inr others))))) = decode_parts others

abbrev of_parts : PartsSeen → Seen
of_parts others = behind others

abbrev of_references : ReferencesSeen → Seen
of_references others = of_parts (behind others)

abbrev of_cells : CellsSeen → Seen
of_cells others = of_references (behind others)

abbrev of_names : NamesSeen → Seen
of_names others = of_cells (behind others)

abbrev encode : RefusalSeen → Seen
encode XlsxError.out_of_memory = inl tt
encode XlsxError.failed = inr (inl tt)
encode XlsxError.io = inr (inr (inl tt))
encode (XlsxError.xml fault) = inr (inr (inr (inl fault)))
encode (XlsxError.xml_attr fault) = inr (inr (inr (inr (inl fault))))
encode (XlsxError.parse_float text) = of_parts (inl text)
encode (XlsxError.parse_int text) = of_parts (inr (inl text))
encode (XlsxError.xml_eof text) = of_parts (inr (inr (inl text)))
encode (XlsxError.unexpected_node text) = of_parts (inr (inr (inr (inl text))))
encode (XlsxError.file_not_found text) = of_parts (inr (inr (inr (inr (inl text)))))
encode XlsxError.relationship_not_found = of_references (inl tt)
encode (XlsxError.alphanumeric number) = of_references (inr (inl number))
encode XlsxError.range_without_column_component = of_references (inr (inr (inl tt)))
encode XlsxError.range_without_row_component = of_references (inr (inr (inr (inl tt))))
encode XlsxError.column_number_overflow = of_references (inr (inr (inr (inr (inl tt)))))
encode XlsxError.row_number_overflow = of_cells (inl tt)
encode (XlsxError.dimension_count number) = of_cells (inr (inl number))
encode (XlsxError.cell_t_attribute text) = of_cells (inr (inr (inl text)))
encode (XlsxError.unexpected text) = of_cells (inr (inr (inr (inl text))))
encode (XlsxError.unrecognized typ val) = of_cells (inr (inr (inr (inr (inl (typ, val))))))
encode (XlsxError.cell_error text) = of_names (inl text)
encode (XlsxError.worksheet_not_found text) = of_names (inr (inl text))
encode (XlsxError.table_not_found text) = of_names (inr (inr (inl text)))
encode (XlsxError.not_a_worksheet text) = of_names (inr (inr (inr (inl text))))
encode (XlsxError.pivot_table_not_found text) = of_names (inr (inr (inr (inr (inl text)))))

decoded : (a : XlsxError) → decode (values_seen a) ≡ refusal_seen a
decoded is.OutOfMemory = refl
decoded is.Failed = refl
decoded is.Io = refl
decoded (is.Xml fault) = refl
decoded (is.XmlAttr fault) = refl
decoded (is.ParseFloat text) = refl
decoded (is.ParseInt text) = refl
decoded (is.XmlEof text) = refl
decoded (is.UnexpectedNode text) = refl
decoded (is.FileNotFound text) = refl
decoded is.RelationshipNotFound = refl
decoded (is.Alphanumeric number) = refl
decoded is.RangeWithoutColumnComponent = refl
decoded is.RangeWithoutRowComponent = refl
decoded is.ColumnNumberOverflow = refl
decoded is.RowNumberOverflow = refl
decoded (is.DimensionCount number) = refl
decoded (is.CellTAttribute text) = refl
decoded (is.Unexpected text) = refl
decoded (is.Unrecognized typ val) = refl
decoded (is.CellError text) = refl
decoded (is.WorksheetNotFound text) = refl
decoded (is.TableNotFound text) = refl
decoded (is.NotAWorksheet text) = refl
decoded (is.PivotTableNotFound text) = refl

encoded : (a : XlsxError) → encode (refusal_seen a) ≡ values_seen a
encoded is.OutOfMemory = refl
encoded is.Failed = refl
encoded is.Io = refl
encoded (is.Xml fault) = refl
encoded (is.XmlAttr fault) = refl
encoded (is.ParseFloat text) = refl
encoded (is.ParseInt text) = refl
encoded (is.XmlEof text) = refl
encoded (is.UnexpectedNode text) = refl
encoded (is.FileNotFound text) = refl
encoded is.RelationshipNotFound = refl
encoded (is.Alphanumeric number) = refl
encoded is.RangeWithoutColumnComponent = refl
encoded is.RangeWithoutRowComponent = refl
encoded is.ColumnNumberOverflow = refl
encoded is.RowNumberOverflow = refl
encoded (is.DimensionCount number) = refl
encoded (is.CellTAttribute text) = refl
encoded (is.Unexpected text) = refl
encoded (is.Unrecognized typ val) = refl
encoded (is.CellError text) = refl
encoded (is.WorksheetNotFound text) = refl
encoded (is.TableNotFound text) = refl
encoded (is.NotAWorksheet text) = refl
encoded (is.PivotTableNotFound text) = refl

abbrev values_eq : XlsxError → XlsxError → Bool
values_eq a b =
    sum_eq (λ _ _. true) (sum_eq (λ _ _. true) (sum_eq (λ _ _. true) (
    sum_eq (λ a b. markup.ghosts.eq a.0 b.0) (sum_eq (λ a b. attributes.ghosts.eq a.0 b.0) (
    sum_eq (λ a b. string_eq a.0 b.0) (sum_eq (λ a b. string_eq a.0 b.0) (
    sum_eq (λ a b. pointwise nat_eq a.0.now b.0.now) (
    sum_eq (λ a b. pointwise nat_eq a.0.now b.0.now) (sum_eq (λ a b. string_eq a.0 b.0) (
    sum_eq (λ _ _. true) (sum_eq (λ a b. nat_eq a.0 b.0) (sum_eq (λ _ _. true) (
    sum_eq (λ _ _. true) (sum_eq (λ _ _. true) (sum_eq (λ _ _. true) (
    sum_eq (λ a b. nat_eq a.0 b.0) (sum_eq (λ a b. string_eq a.0 b.0) (
    sum_eq (λ a b. pointwise nat_eq a.0.now b.0.now) (
    sum_eq (λ a b. pointwise nat_eq a.0.now b.0.now && string_eq a.1.0 b.1.0) (
    sum_eq (λ a b. string_eq a.0 b.0) (sum_eq (λ a b. string_eq a.0 b.0) (
    sum_eq (λ a b. string_eq a.0 b.0) (sum_eq (λ a b. string_eq a.0 b.0) (
    sum_eq (λ a b. string_eq a.0 b.0) (λ _ _. false)))))))))))))))))))))))))
    (as_values a) (as_values b)

same_eq : (a b : XlsxError) → error.ghosts.eq a b ≡ values_eq a b
same_eq is.OutOfMemory b = refl
same_eq is.Failed b = refl
same_eq is.Io b = refl
same_eq (is.Xml fault) b = refl
same_eq (is.XmlAttr fault) b = refl
same_eq (is.ParseFloat text) b = refl
same_eq (is.ParseInt text) b = refl
same_eq (is.XmlEof text) b = refl
same_eq (is.UnexpectedNode text) b = refl
same_eq (is.FileNotFound text) b = refl
same_eq is.RelationshipNotFound b = refl
same_eq (is.Alphanumeric number) b = refl
same_eq is.RangeWithoutColumnComponent b = refl
same_eq is.RangeWithoutRowComponent b = refl
same_eq is.ColumnNumberOverflow b = refl
same_eq is.RowNumberOverflow b = refl
same_eq (is.DimensionCount number) b = refl
same_eq (is.CellTAttribute text) b = refl
same_eq (is.Unexpected text) b = refl
same_eq (is.Unrecognized typ val) b = refl
same_eq (is.CellError text) b = refl
same_eq (is.WorksheetNotFound text) b = refl
same_eq (is.TableNotFound text) b = refl
same_eq (is.NotAWorksheet text) b = refl
same_eq (is.PivotTableNotFound text) b = refl

by_values : (a b : XlsxError) → (values_eq a b ≡ true) ↔ (values_seen a ≡ values_seen b)
by_values a b =
    of_sums of_nothing (of_sums of_nothing (of_sums of_nothing (of_sums of_markup (
    of_sums of_attributes (of_sums of_string (of_sums of_string (of_sums of_str (
    of_sums of_str (of_sums of_string (of_sums of_nothing (of_sums of_count (
    of_sums of_nothing (of_sums of_nothing (of_sums of_nothing (of_sums of_nothing (
    of_sums of_count (of_sums of_string (of_sums of_str (of_sums of_both (of_sums of_string (
    of_sums of_string (of_sums of_string (of_sums of_string (of_sums of_string
    of_none))))))))))))))))))))))))
    (as_values a) (as_values b)

pub refusal_law : IsEqualityBy refusal_seen error.ghosts.eq
refusal_law a b = (
  λ same. sym (decoded a) ∙ (ap decode ((by_values a b).0 (sym (same_eq a b) ∙ same)) ∙ decoded b),
  λ same. same_eq a b ∙ (by_values a b).1 (sym (encoded a) ∙ (ap encode same ∙ encoded b)),
)
