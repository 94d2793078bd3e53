-- What the starts of relationships say.
use Rattle.std.specs.Prelude.{◌≡◌, ◌⊎◌, ℕ, List, [], ◌∷◌, Bool, true, if◌then◌else◌, nat_eq, codes}
use Rattle.std.specs.Prelude.{Option, Some, None, unwrap_or, Result, Ok, Err}
use Rattle.std.specs.List.{ends_with}
use Rattle.std.specs.Str.{bytes_eq}
use Rattle.attr_text.specs.Words.{lookup}
use Rattle.attr_text.specs.declared.fault.AttrFault.{AttrFault}
use Rattle.part_events.specs.Words.{Event, PlacedTag, starts_by, is_named}
use Rattle.xlsx_sections.specs.Words.{last_answer, with_two, with_three, some_text, PartSection}
use Rattle.xlsx_sections.specs.Words.{inside_of, has_end, Refusal, plain, lookup_fault, unrelated}
use Rattle.xlsx_sections.specs.Words.{decoded_at}

-- the starts of relationships in a section
abbrev pub relationship_starts : List Event → List PlacedTag
relationship_starts inside = starts_by (is_named (codes "Relationship" ∷ [])) inside

-- the type of a relationship is that of the workbook
abbrev pub is_office_document : List ℕ → Bool
is_office_document typ = ends_with nat_eq typ (codes "/relationships/officeDocument")

-- the target of the workbook, by its type and its target
abbrev pub target_from : ℕ → Option (List ℕ) → Option (List ℕ) → Result (Option (List ℕ)) Refusal
target_from behind None target = Ok None
target_from behind (Some typ) None = Ok None
target_from behind (Some typ) (Some target) =
    if is_office_document typ then some_text (decoded_at behind target) else Ok None

-- the target of the workbook, by what was looked up at its start
abbrev pub target_by :
    ℕ → Result (List (Option (List ℕ))) AttrFault → Result (Option (List ℕ)) Refusal
target_by behind (Ok values) = with_two (target_from behind) (Ok None) values
target_by behind (Err fault) = Err (plain (lookup_fault fault))

-- the target, decoded, of a relationship to an office document
abbrev pub target_of : PlacedTag → Result (Option (List ℕ)) Refusal
target_of start =
    target_by start.behind (lookup (codes "Type" ∷ codes "Target" ∷ []) start.tag.attributes)

-- the path of the workbook, by the last relationship to an office document that has a target
abbrev pub path_in : List Event → Result (Option (List ℕ)) Refusal
path_in inside = last_answer target_of (relationship_starts inside)

-- what a relationship leads to, and its type
pub record Related : Type 0 where
  pub target : List ℕ
  pub typ : List ℕ

-- the relationship of this id, by the texts of its attributes
abbrev pub related_from :
    List ℕ → Option (List ℕ) → Option (List ℕ) → Option (List ℕ) → Option Related
related_from id None typ target = None
related_from id (Some own) typ target =
    if bytes_eq id own
    then Some (record { target = unwrap_or target []; typ = unwrap_or typ [] })
    else None

-- the relationship of this id, by what was looked up at its start
abbrev pub related_by :
    List ℕ → Result (List (Option (List ℕ))) AttrFault → Result (Option Related) Refusal
related_by id (Ok values) = Ok (with_three (related_from id) None values)
related_by id (Err fault) = Err (plain (lookup_fault fault))

-- what the start says of the relationship of this Id
abbrev pub related_of : List ℕ → PlacedTag → Result (Option Related) Refusal
related_of id start =
    related_by id (lookup (codes "Id" ∷ codes "Type" ∷ codes "Target" ∷ []) start.tag.attributes)

-- the relationship of an Id, of which the last stands
abbrev pub related_in : List Event → List ℕ → Result (Option Related) Refusal
related_in inside id = last_answer (related_of id) (relationship_starts inside)

-- why a target in a section is refused
unfoldable pub IsTargetRefused : PartSection → Refusal → Type 0
IsTargetRefused s refusal = path_in (inside_of s) ≡ Err refusal

-- Why a section gives no path: a relationship is refused, or the section is closed and none leads
-- to an office document.
unfoldable pub IsPathRefused : PartSection → Refusal → Type 0
IsPathRefused s refusal =
    IsTargetRefused s refusal
    ⊎ ((refusal ≡ plain unrelated) × (has_end s ≡ true) × (path_in (inside_of s) ≡ Ok None))

-- why a section gives no relationships by their Ids
unfoldable pub AreRelationshipsRefused : PartSection → Refusal → Type 0
AreRelationshipsRefused s refusal = (id : List ℕ) → related_in (inside_of s) id ≡ Err refusal
