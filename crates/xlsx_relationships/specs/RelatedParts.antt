-- Where the relationships of a part lead (ECMA-376 part 2, section 9.3).
use Rattle.std.specs.Prelude.{ℕ, ◌-◌, List, [], ◌∷◌, ◌++◌, length, take, drop, nat_eq, codes}
use Rattle.std.specs.Prelude.{if◌then◌else◌, Option, Some, None, unwrap_or, option_and_then, Result}
use Rattle.std.specs.Prelude.{Ok, Err}
use Rattle.std.specs.List.{starts_with}
use Rattle.std.specs.Str.{bytes_eq}
use Rattle.attr_text.specs.Words.{lookup}
use Rattle.attr_text.specs.declared.fault.AttrFault.{AttrFault}
use Rattle.part_events.specs.Words.{Event, PlacedTag}
use Rattle.xlsx_sections.specs.Words.{some_answers, with_two, some_text, Refusal, plain}
use Rattle.xlsx_sections.specs.Words.{lookup_fault, decoded_at}
use Rattle.xlsx_relationships.specs.Paths.{last_piece, without_slash, part_folder}
use Rattle.xlsx_relationships.specs.Relationships.{relationship_starts}

-- what stands before the last slash of a path
abbrev pub before_slash : List ℕ → List ℕ
before_slash path = take (length path - length (last_piece path) - 1) path

-- the folder in which the folder of the part at this path lies, with the slash at its end
abbrev pub outer_folder : List ℕ → List ℕ
outer_folder path = part_folder (before_slash path)

-- what follows `../` at the front of a target
abbrev pub behind_dots : List ℕ → Option (List ℕ)
behind_dots target = if starts_with nat_eq target (codes "../") then Some (drop 3 target) else None

-- where a target leads from a part: what follows its `../` stands in the outer folder, any other
-- target at the top
abbrev pub led_from : List ℕ → Option (List ℕ) → List ℕ → List ℕ
led_from path (Some rest) target = outer_folder path ++ rest
led_from path None target = without_slash target

-- Where a target leads that the relationships of the part at this path name. An empty one leads
-- nowhere.
abbrev pub target_path : List ℕ → List ℕ → Option (List ℕ)
target_path path [] = None
target_path path (byte ∷ target) =
    Some (led_from path (behind_dots (byte ∷ target)) (byte ∷ target))

-- The target of a relationship of this type, by its texts; one of another type isn't decoded. One
-- without a type or a target has the empty one.
abbrev pub typed_from :
    List ℕ → ℕ → Option (List ℕ) → Option (List ℕ) → Result (Option (List ℕ)) Refusal
typed_from wanted behind typ target =
    if bytes_eq (unwrap_or typ []) wanted
    then some_text (decoded_at behind (unwrap_or target [])) else Ok None

-- the target of a relationship of this type, by what was looked up at its start
abbrev pub typed_by :
    List ℕ → ℕ → Result (List (Option (List ℕ))) AttrFault → Result (Option (List ℕ)) Refusal
typed_by wanted behind (Ok values) = with_two (typed_from wanted behind) (Ok None) values
typed_by wanted behind (Err fault) = Err (plain (lookup_fault fault))

-- the target, decoded, of a relationship of exactly this type
abbrev pub typed_target : List ℕ → PlacedTag → Result (Option (List ℕ)) Refusal
typed_target wanted start =
    typed_by wanted start.behind
    (lookup (codes "Type" ∷ codes "Target" ∷ []) start.tag.attributes)

-- the path that a target leads to from a part
abbrev pub led_to :
    List ℕ → Result (Option (List ℕ)) Refusal → Result (Option (List ℕ)) Refusal
led_to path (Ok target) = Ok (option_and_then (target_path path) target)
led_to path (Err refusal) = Err refusal

-- where a relationship leads, if it is of exactly this type
abbrev pub leads_to : List ℕ → List ℕ → PlacedTag → Result (Option (List ℕ)) Refusal
leads_to path wanted start = led_to path (typed_target wanted start)

-- where all relationships of one type in a section lead, in order
abbrev pub all_lead_to : List ℕ → List ℕ → List Event → Result (List (List ℕ)) Refusal
all_lead_to path wanted inside = some_answers (leads_to path wanted) (relationship_starts inside)
