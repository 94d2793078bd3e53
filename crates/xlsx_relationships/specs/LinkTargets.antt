-- Where the hyperlinks of a sheet lead outside its workbook, by the relationships of its part.
use Rattle.std.specs.Prelude.{◌≡◌, ℕ, ◌==◌, List, [], ◌∷◌, length, Bool, ◌&&◌, not, nat_eq}
use Rattle.std.specs.Prelude.{if◌then◌else◌, codes, Option, Some, None, option_map, unwrap_or}
use Rattle.std.specs.Prelude.{Result, Ok, Err, string_bytes, String}
use Rattle.std.specs.BTreeMap.{BTreeMap, get_by_text}
use Rattle.std.specs.List.{ends_with}
use Rattle.std.specs.Option.{option_or}
use Rattle.std.specs.Str.{bytes_eq}
use Rattle.std.specs.declared.alloc.Global.{Global}
use Rattle.attr_text.specs.Words.{lookup, unescaped}
use Rattle.attr_text.specs.declared.fault.AttrFault.{AttrFault}
use Rattle.part_events.specs.Words.{Event, Part, part_of, PlacedTag}
use Rattle.xlsx_error.specs.declared.error.XlsxError.{XlsxError}
use Rattle.xlsx_sections.specs.Words.{some_answers, with_three, IsInsideRefused, always}
use Rattle.xlsx_sections.specs.Words.{OptionalPartCause, Refusal, plain, lookup_fault, decoded_at}
use Rattle.xlsx_parts.specs.Words.{part_said, unless_absent}
use Rattle.xlsx_relationships.specs.Paths.{relationships_beside}
use Rattle.xlsx_relationships.specs.Relationships.{relationship_starts}

-- a text with its escapes resolved
abbrev pub without_escapes : Result (List ℕ) Refusal → Result (List ℕ) Refusal
without_escapes (Ok text) = Ok (unescaped text)
without_escapes (Err refusal) = Err refusal

-- a text of a hyperlink, decoded, and then with each `_xHHHH_` replaced
abbrev pub link_text : ℕ → List ℕ → Result (List ℕ) Refusal
link_text behind text = without_escapes (decoded_at behind text)

-- an Id, and where the hyperlinks lead that name it
pub record LinkTarget : Type 0 where
  pub id : List ℕ
  pub target : List ℕ

-- the type of a relationship is that of a hyperlink
abbrev pub is_hyperlink_type : List ℕ → Bool
is_hyperlink_type typ = ends_with nat_eq typ (codes "/relationships/hyperlink")

-- an id with the target that it leads to
abbrev pub leading_to : List ℕ → Result (List ℕ) Refusal → Result (Option LinkTarget) Refusal
leading_to id (Ok target) = Ok (Some (record { id = id; target = target }))
leading_to id (Err refusal) = Err refusal

-- the target of a link, by its id, its type and its target
abbrev pub link_target_from :
    ℕ → Option (List ℕ) → Option (List ℕ) → Option (List ℕ) → Result (Option LinkTarget) Refusal
link_target_from behind None typ target = Ok None
link_target_from behind (Some id) None target = Ok None
link_target_from behind (Some id) (Some typ) target =
    if is_hyperlink_type typ && not (length id == 0)
    then leading_to id (link_text behind (unwrap_or target [])) else Ok None

-- the target of a link, by what was looked up at its start
abbrev pub link_target_by :
    ℕ → Result (List (Option (List ℕ))) AttrFault → Result (Option LinkTarget) Refusal
link_target_by behind (Ok values) = with_three (link_target_from behind) (Ok None) values
link_target_by behind (Err fault) = Err (plain (lookup_fault fault))

-- where a relationship of hyperlinks leads that has an Id, and not an empty one; without a target
-- it has the empty one
abbrev pub link_target_of : PlacedTag → Result (Option LinkTarget) Refusal
link_target_of start =
    link_target_by start.behind
    (lookup (codes "Id" ∷ codes "Type" ∷ codes "Target" ∷ []) start.tag.attributes)

-- where the relationships of hyperlinks in a section lead, in order
abbrev pub link_targets_in : List Event → Result (List LinkTarget) Refusal
link_targets_in inside = some_answers link_target_of (relationship_starts inside)

-- where an Id leads by a link's target, if that is its own, and else as it did before
abbrev pub later_target : List ℕ → Option LinkTarget → Option (List ℕ) → Option (List ℕ)
later_target id None earlier = earlier
later_target id (Some own) earlier = if bytes_eq id own.id then Some own.target else earlier

-- where an Id leads by what a relationship says, and else as it did before
abbrev pub later_of : List ℕ → Option (List ℕ) → Result (Option LinkTarget) Refusal
    → Result (Option (List ℕ)) Refusal
later_of id earlier (Ok own) = Ok (later_target id own earlier)
later_of id earlier (Err refusal) = Err refusal

-- where an Id leads by what the start of a relationship says, and else as it did before
abbrev pub put_later : List ℕ → PlacedTag → Option (List ℕ) → Result (Option (List ℕ)) Refusal
put_later id start earlier = later_of id earlier (link_target_of start)

-- where an Id leads by these targets, of which the last stands
abbrev pub target_in : List LinkTarget → List ℕ → Option (List ℕ)
target_in [] id = None
target_in (first ∷ others) id = option_or (target_in others id) (later_target id (Some first) None)

-- where the relationships of hyperlinks lead that are beside the part at a path; without any there
-- is no target
abbrev pub link_targets : List Part → List ℕ → Option (List LinkTarget)
link_targets parts path =
    unless_absent [] (part_of parts (relationships_beside path))
    (part_said (codes "Relationships") link_targets_in parts (relationships_beside path))

-- why the targets of hyperlinks in the relationships beside a part can't be taken
abbrev pub LinkTargetsCause : List Part → List ℕ → XlsxError → Type 0
LinkTargetsCause parts path error =
    let name = codes "Relationships" in
    OptionalPartCause name (always name) (IsInsideRefused link_targets_in)
    (part_of parts (relationships_beside path)) error

-- the target that is kept for an Id
abbrev pub target_held : BTreeMap (String Global) (String Global) → List ℕ → Option (List ℕ)
target_held kept id = option_map string_bytes (get_by_text kept id)

-- what is kept for each Id is where it leads by these targets
abbrev pub HoldsTargets :
    List LinkTarget → BTreeMap (String Global) (String Global) → Type 0
HoldsTargets targets kept = (id : List ℕ) → target_held kept id ≡ target_in targets id

-- an Id and its target, apart from where they lie in memory
abbrev pub link_target_said : String Global × String Global → LinkTarget
link_target_said pair = record { id = string_bytes pair.0; target = string_bytes pair.1 }
