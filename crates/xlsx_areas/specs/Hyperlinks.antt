-- The hyperlinks of a sheet (ECMA-376 part 1, section 18.3.1.48).
use Rattle.std.specs.Prelude.{ℕ, List, [], ◌∷◌, map, Bool, true, false, codes, Option, Some, None}
use Rattle.std.specs.Prelude.{option_map, option_and_then, Result, Ok, Err, string_bytes, Vec}
use Rattle.std.specs.declared.alloc.Global.{Global}
use Rattle.attr_text.specs.Words.{lookup, value_of_local}
use Rattle.attr_text.specs.declared.fault.AttrFault.{AttrFault}
use Rattle.cell_refs.specs.Words.{area}
use Rattle.cell_refs.specs.declared.dimensions.Dimensions.{Dimensions}
use Rattle.part_events.specs.Words.{Tag, Event, PlacedTag, starts_by, is_named}
use Rattle.xlsx_sections.specs.Words.{always, some_answers, some_text, placed, Refusal, plain}
use Rattle.xlsx_sections.specs.Words.{lookup_fault, Ask}
use Rattle.looks.specs.Words.{EventsAsk, Look, and_then, asks, in_section_or, is_there, look_ask}
use Rattle.looks.specs.Words.{mapped, or_absent, said_as, says, section_or}
use Rattle.xlsx_relationships.specs.Words.{link_targets_in, link_text, relationships_beside}
use Rattle.xlsx_relationships.specs.Words.{target_in}
use Rattle.xlsx_areas.specs.LinkErrors.{IsSheetLinksError}
use Rattle.xlsx_areas.specs.declared.hyperlink.Hyperlink.{Hyperlink}

-- a link: its cells, where it leads outside the workbook and inside, what is shown, and its tip
pub record Link : Type 0 where
  pub range : Dimensions
  pub target : Option (List ℕ)
  pub location : Option (List ℕ)
  pub displayed_text : Option (List ℕ)
  pub tooltip : Option (List ℕ)

-- a text of a start that may have none
abbrev pub optional_text : ℕ → Option (List ℕ) → Result (Option (List ℕ)) Refusal
optional_text behind None = Ok None
optional_text behind (Some written) = some_text (link_text behind written)

-- a link by its fields
abbrev pub link_to :
    Option (List ℕ) → Dimensions → Option (List ℕ) → Option (List ℕ) → Option (List ℕ) → Link
link_to target range location shown tip = record {
  range = range;
  target = target;
  location = location;
  displayed_text = shown;
  tooltip = tip;
}

-- the link of its cells and its texts, or the first refusal of these
abbrev pub linked :
    Option (List ℕ) → Result Dimensions Refusal → Result (Option (List ℕ)) Refusal →
    Result (Option (List ℕ)) Refusal → Result (Option (List ℕ)) Refusal → Result Link Refusal
linked target (Ok range) (Ok location) (Ok shown) (Ok tip) =
    Ok (link_to target range location shown tip)
linked target (Ok range) (Ok location) (Ok shown) (Err refusal) = Err refusal
linked target (Ok range) (Ok location) (Err refusal) tip = Err refusal
linked target (Ok range) (Err refusal) shown tip = Err refusal
linked target (Err refusal) location shown tip = Err refusal

-- a link that is there
abbrev pub some_link : Result Link Refusal → Result (Option Link) Refusal
some_link (Ok link) = Ok (Some link)
some_link (Err refusal) = Err refusal

-- the link of these values; without `ref` there is none, and its texts aren't decoded
abbrev pub link_with :
    ℕ → Option (List ℕ) → Option (List ℕ) → Option (List ℕ) → Option (List ℕ) → Option (List ℕ) →
    Result (Option Link) Refusal
link_with behind target None location shown tip = Ok None
link_with behind target (Some written) location shown tip =
    some_link (linked target (placed (area written)) (optional_text behind location)
    (optional_text behind shown) (optional_text behind tip))

-- the link of a start by where its id leads, and by the four values of a lookup: its cells, its
-- place in the workbook, what is shown, and its tip
abbrev pub link_from :
    ℕ → Option (List ℕ) → List (Option (List ℕ)) → Result (Option Link) Refusal
link_from behind target [] = Ok None
link_from behind target (written ∷ []) = Ok None
link_from behind target (written ∷ location ∷ []) = Ok None
link_from behind target (written ∷ location ∷ shown ∷ []) = Ok None
link_from behind target (written ∷ location ∷ shown ∷ tip ∷ []) =
    link_with behind target written location shown tip
link_from behind target (written ∷ location ∷ shown ∷ tip ∷ more ∷ values) = Ok None

-- a link by the id that was looked up
abbrev pub link_by_id :
    (List ℕ → Option (List ℕ)) → ℕ → List (Option (List ℕ)) →
    Result (Option (List ℕ)) AttrFault → Result (Option Link) Refusal
link_by_id targets behind values (Ok id) =
    link_from behind (option_and_then targets id) values
link_by_id targets behind values (Err fault) = Err (plain (lookup_fault fault))

-- a link by what was looked up at its start
abbrev pub link_by :
    (List ℕ → Option (List ℕ)) → PlacedTag → Result (List (Option (List ℕ))) AttrFault →
    Result (Option Link) Refusal
link_by targets start (Ok values) =
    link_by_id targets start.behind values (value_of_local (codes "id") start.tag.attributes)
link_by targets start (Err fault) = Err (plain (lookup_fault fault))

-- the link of a start, where these are the targets by their Ids
abbrev pub link_of : (List ℕ → Option (List ℕ)) → PlacedTag → Result (Option Link) Refusal
link_of targets start =
    link_by targets start
    (lookup (codes "ref" ∷ codes "location" ∷ codes "display" ∷ codes "tooltip" ∷ [])
    start.tag.attributes)

-- a start of the element `hyperlink`
abbrev pub is_link : Tag → Bool
is_link tag = is_named (codes "hyperlink" ∷ []) tag

-- the links among these events, in order
abbrev pub links_in : (List ℕ → Option (List ℕ)) → List Event → Result (List Link) Refusal
links_in targets events = some_answers (link_of targets) (starts_by is_link events)

-- what is asked of the events of a part, where these are the targets by their Ids: the links of its
-- first `hyperlinks`, and none of a part without one
abbrev pub part_links : (List ℕ → Option (List ℕ)) → EventsAsk (List Link)
part_links targets =
    let name = codes "hyperlinks" in
    in_section_or [] name (always name) (links_in targets)

-- where the relationships beside the part at a path lead, by their Ids
abbrev pub targets_look : List ℕ → Look (List ℕ → Option (List ℕ))
targets_look path =
    let name = codes "Relationships" in
    mapped target_in
    (asks (relationships_beside path) (section_or [] name (always name) link_targets_in))

-- links that are there
abbrev pub some_links : List Link → Option (List Link)
some_links links = Some links

-- the links of the part at a path, if it is there, where these are the targets by their Ids
abbrev pub part_links_look :
    List ℕ → (List ℕ → Option (List ℕ)) → Look (Option (List Link))
part_links_look path targets =
    asks path (or_absent None (said_as some_links (part_links targets)))

-- the links of the part at a path, by the relationships beside it
abbrev pub linked_look : List ℕ → Look (Option (List Link))
linked_look path = and_then (targets_look path) (part_links_look path)

-- the same where a part is there; where none is, no relationship is read
abbrev pub links_if : List ℕ → Bool → Look (Option (List Link))
links_if path true = linked_look path
links_if path false = says None

-- the links of the sheet whose part is at a path, if it is there, by the relationships beside it
abbrev pub links_look : List ℕ → Look (Option (List Link))
links_look path = and_then (asks path is_there) (links_if path)

-- what is asked for them
abbrev pub links_ask : List ℕ → Ask (Option (List Link))
links_ask path = look_ask IsSheetLinksError (links_look path)

-- a link, apart from where its texts lie in memory
abbrev pub link_said : Hyperlink → Link
link_said own =
    link_to (option_map string_bytes own.target) own.range (option_map string_bytes own.location)
    (option_map string_bytes own.displayed_text) (option_map string_bytes own.tooltip)

-- the links of a sheet whose part may be absent
abbrev pub links_found : Option (Vec Hyperlink Global) → Option (List Link)
links_found None = None
links_found (Some links) = Some (map link_said links.items)
