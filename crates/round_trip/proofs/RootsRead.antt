-- What is read of a part with one element, and where the relationships that are written lead.
use Rattle.std.proofs.Common.{◌≡◌, ℕ, Bool, true, cond, List, [], ◌∷◌, ◌++◌, Some, None, Option}
use Rattle.std.proofs.Common.{refl, sym, ap, ◌∙◌, append-nil, map}
use Rattle.std.specs.Prelude.{Ok, codes, option_and_then}
use Rattle.std.specs.Option.{option_or}
use Rattle.attr_text.specs.Words.{lookup, first_values}
use Rattle.part_events.specs.Words.{Event, end, whole, behind_start, is_named, content}
use Rattle.written_markup.specs.Words.{element, attribute, IsNested, none, attributes_of}
use Rattle.written_markup.specs.Words.{AreWritablePairs}
use Rattle.written_markup.proofs.Nested.{nested_in_row, nested_element, nests_itself}
use Rattle.written_markup.proofs.Nested.{content_of_element, element_is_closed}
use Rattle.written_markup.proofs.PairsReadBack.{lookup_written}
use Rattle.written_markup.proofs.TextsReadBack.{decoded_encoded}
use Rattle.xlsx_sections.specs.Words.{or_later, some_text, closed_section, if_closed, decoded_or}
use Rattle.xlsx_relationships.specs.Words.{Related, path_in, related_in, related_from, target_by}
use Rattle.xlsx_relationships.specs.Words.{related_by}
use Rattle.xlsx_writer.specs.Words.{office, of_packages, space_attributes, relationship}
use Rattle.xlsx_writer.specs.Words.{relationships_of, to_workbook, to_sheet, to_styles}
use Rattle.xlsx_writer.specs.declared.form.WrittenForm.{WrittenForm}
use Rattle.xlsx_writer.specs.declared.form.WrittenForm.TheVariants.{PackageText, WorkbookFile}

-- ---- a part with one element

pub nested_is_whole : (events : List Event) → IsNested events → whole events ≡ events
nested_is_whole events is =
    ap whole (sym (append-nil events))
    ∙ ((nests_itself events is).whole [] [] ∙ append-nil events)

-- the element of a name is its section
pub root_read : (name attributes : List ℕ) (inside : List Event) → IsNested inside →
    is_named (name ∷ []) (record { name = name; attributes = attributes }) ≡ true →
    closed_section name (element name attributes inside) ≡ Some inside
root_read name attributes inside is named =
    ap (λ (es : List Event). option_and_then if_closed (behind_start (is_named (name ∷ [])) es))
    (nested_is_whole (element name attributes inside)
    (nested_element name attributes inside is))
    ∙ (ap (λ (t : Bool). option_and_then if_closed (cond t (Some (inside ++ end name ∷ []))
    (behind_start (is_named (name ∷ [])) (inside ++ end name ∷ [])))) named
    ∙ (ap (λ (t : Bool). cond t (Some (content 0 (inside ++ end name ∷ []))) None)
    (element_is_closed inside name [] is)
    ∙ ap Some (content_of_element inside name [] is)))

-- ---- lists of relationships

-- the attributes of a relationship, by their keys
abbrev relationship_pairs : List ℕ → List ℕ → List ℕ → List (List ℕ × List ℕ)
relationship_pairs id kind target =
    (codes "Id", id) ∷ (codes "Type", office kind) ∷ (codes "Target", target) ∷ []

-- the attributes of a relationship as they are written
abbrev relationship_attributes : List ℕ → List ℕ → List ℕ → List ℕ
relationship_attributes id kind target =
    attribute (codes "Id") id ++ (attribute (codes "Type") (office kind)
    ++ attribute (codes "Target") target)

-- a list of relationships is the section of its part
pub relationships_read : (form : WrittenForm) (listed : List Event) → IsNested listed →
    closed_section (codes "Relationships") (relationships_of form listed) ≡ Some listed
relationships_read form listed is =
    root_read (codes "Relationships") (space_attributes form (of_packages (codes "relationships")))
    listed is refl

one_nested : (id kind target : List ℕ) → IsNested (relationship id kind target)
one_nested id kind target =
    nested_element (codes "Relationship") (relationship_attributes id kind target) [] none

pub root_nested : IsNested to_workbook
root_nested = one_nested (codes "rId1") (codes "/officeDocument") (codes "xl/workbook.xml")

-- the relationships of the workbook
abbrev pub workbook_listed : WrittenForm → List Event
workbook_listed form = to_sheet ++ to_styles form

pub listed_nested : (form : WrittenForm) → IsNested (workbook_listed form)
listed_nested PackageText =
    one_nested (codes "rId1") (codes "/worksheet") (codes "worksheets/sheet1.xml")
listed_nested WorkbookFile =
    nested_in_row to_sheet (to_styles WorkbookFile)
    (one_nested (codes "rId1") (codes "/worksheet") (codes "worksheets/sheet1.xml"))
    (one_nested (codes "rId2") (codes "/styles") (codes "styles.xml"))

attributes_are : (id kind target : List ℕ) →
    relationship_attributes id kind target ≡ attributes_of (relationship_pairs id kind target)
attributes_are id kind target =
    ap (λ (bytes : List ℕ). attribute (codes "Id") id
    ++ (attribute (codes "Type") (office kind) ++ bytes))
    (sym (append-nil (attribute (codes "Target") target)))

-- what is looked up at a relationship
looked_up : (keys : List (List ℕ)) (id kind target : List ℕ) →
    AreWritablePairs (relationship_pairs id kind target) →
    lookup keys (relationship_attributes id kind target)
    ≡ Ok (first_values keys (map Ok (relationship_pairs id kind target)))
looked_up keys id kind target are =
    ap (lookup keys) (attributes_are id kind target)
    ∙ lookup_written keys (relationship_pairs id kind target) are

workbook_writable : AreWritablePairs
    (relationship_pairs (codes "rId1") (codes "/officeDocument") (codes "xl/workbook.xml"))
workbook_writable = (
  record { key = refl; value = refl },
  (record { key = refl; value = refl }, (record { key = refl; value = refl }, tt)),
)

sheet_writable : AreWritablePairs
    (relationship_pairs (codes "rId1") (codes "/worksheet") (codes "worksheets/sheet1.xml"))
sheet_writable = (
  record { key = refl; value = refl },
  (record { key = refl; value = refl }, (record { key = refl; value = refl }, tt)),
)

styles_writable :
    AreWritablePairs (relationship_pairs (codes "rId2") (codes "/styles") (codes "styles.xml"))
styles_writable = (
  record { key = refl; value = refl },
  (record { key = refl; value = refl }, (record { key = refl; value = refl }, tt)),
)

-- what the relationship to the sheet is
abbrev pub sheet_related : Related
sheet_related =
    record { target = codes "worksheets/sheet1.xml"; typ = office (codes "/worksheet") }

-- what an id leads to, where it is that of the sheet
abbrev to_sheet_by : List ℕ → Option Related
to_sheet_by id =
    related_from id (Some (codes "rId1")) (Some (office (codes "/worksheet")))
    (Some (codes "worksheets/sheet1.xml"))

-- and where it is that of the styles
abbrev to_styles_by : List ℕ → Option Related
to_styles_by id =
    related_from id (Some (codes "rId2")) (Some (office (codes "/styles")))
    (Some (codes "styles.xml"))

-- what an id leads to in the relationships of the workbook
abbrev pub written_related : WrittenForm → List ℕ → Option Related
written_related PackageText id = to_sheet_by id
written_related WorkbookFile id = option_or (to_styles_by id) (to_sheet_by id)

-- the first id leads to the sheet
pub leads_to_sheet : (form : WrittenForm) →
    written_related form (codes "rId1") ≡ Some sheet_related
leads_to_sheet PackageText = refl
leads_to_sheet WorkbookFile = refl

-- the later of two that say something
later_said : (one two : Option Related) →
    or_later (Ok one) (or_later (Ok two) (Ok None)) ≡ Ok (option_or two one)
later_said one None = refl
later_said one (Some related) = refl

pub related_read : (form : WrittenForm) (id : List ℕ) →
    related_in (workbook_listed form) id ≡ Ok (written_related form id)
related_read PackageText id =
    ap (λ found. or_later (related_by id found) (Ok None))
    (looked_up (codes "Id" ∷ codes "Type" ∷ codes "Target" ∷ []) (codes "rId1")
    (codes "/worksheet") (codes "worksheets/sheet1.xml") sheet_writable)
related_read WorkbookFile id =
    let keys = codes "Id" ∷ codes "Type" ∷ codes "Target" ∷ [] in
    let first = looked_up keys (codes "rId1") (codes "/worksheet") (codes "worksheets/sheet1.xml")
    sheet_writable in
    let second = looked_up keys (codes "rId2") (codes "/styles") (codes "styles.xml")
    styles_writable in
    (λ i. or_later (related_by id (first i)) (or_later (related_by id (second i)) (Ok None)))
    ∙ later_said (to_sheet_by id) (to_styles_by id)

-- the workbook is where it is written
pub path_read : path_in to_workbook ≡ Ok (Some (codes "xl/workbook.xml"))
path_read =
    ap (λ found. or_later (target_by 1 found) (Ok None))
    (looked_up (codes "Type" ∷ codes "Target" ∷ []) (codes "rId1") (codes "/officeDocument")
    (codes "xl/workbook.xml") workbook_writable)
    ∙ ap (λ found. or_later (some_text (decoded_or 1 found)) (Ok None))
    (decoded_encoded (codes "xl/workbook.xml"))
