-- The cells of links lie in a worksheet.
use Rattle.std.proofs.Common.{◌≡◌, ℕ, List, [], ◌∷◌, Bool, true, false, Option, Some, None, Result}
use Rattle.std.proofs.Common.{Ok, Err, ap, codes, map, refl, subst}
use Rattle.std.specs.Prelude.{is_some, option_and_then, option_map, All}
use Rattle.std.specs.List.{AllByRecursion}
use Rattle.std.proofs.lemmas.List.Elements.{All-from_recursion}
use Rattle.attr_text.specs.Words.{lookup, value_of_local}
use Rattle.attr_text.specs.declared.fault.AttrFault.{AttrFault}
use Rattle.cell_refs.specs.Words.{area}
use Rattle.cell_refs.specs.declared.dimensions.Dimensions.{Dimensions}
use Rattle.cell_refs.specs.declared.error.RefError.{RefError}
use Rattle.part_events.specs.Words.{Event, Part, part_of, PlacedTag}
use Rattle.list_lines.specs.Inside.{LiesInWorksheet}
use Rattle.xlsx_sections.specs.Words.{placed, Refusal}
use Rattle.looks.specs.Words.{look_said, or_absent, said_as}
use Rattle.xlsx_areas.specs.Hyperlinks.{Link, optional_text, link_to, linked, some_link, link_with}
use Rattle.xlsx_areas.specs.Hyperlinks.{link_from, link_by_id, link_by, link_of, is_link, link_said}
use Rattle.xlsx_areas.specs.Hyperlinks.{links_if, links_look, part_links, part_links_look}
use Rattle.xlsx_areas.specs.Hyperlinks.{some_links, targets_look}
use Rattle.xlsx_areas.specs.declared.hyperlink.Hyperlink.{Hyperlink}
use Rattle.xlsx_core.specs.Links.{had_links_look}
use Rattle.xlsx_core.specs.Words.{placed_links_look}
use Rattle.xlsx_commands.specs.SheetLists.{IsLinkInside, IsKeptInside}
use Rattle.xlsx_commands.proofs.AreasInside.{area_inside, section_are}

range_inside : (found : Result Dimensions RefError) (own : Dimensions)
    → ((one : Dimensions) → found ≡ Ok one → LiesInWorksheet one) → placed found ≡ Ok own
    → LiesInWorksheet own
range_inside (Ok found) own inside is =
    let same : found ≡ own = cc in subst LiesInWorksheet same (inside found refl)
range_inside (Err fault) own inside is = absurd (cc)

linked_inside : (target : Option (List ℕ)) (range : Result Dimensions Refusal)
    (location shown tip : Result (Option (List ℕ)) Refusal) (own : Link)
    → ((one : Dimensions) → range ≡ Ok one → LiesInWorksheet one)
    → some_link (linked target range location shown tip) ≡ Ok (Some own) → IsLinkInside own
linked_inside target (Ok range) (Ok location) (Ok shown) (Ok tip) own inside is =
    let same : link_to target range location shown tip ≡ own = cc in
    subst IsLinkInside same (inside range refl)
linked_inside target (Ok range) (Ok location) (Ok shown) (Err refusal) own inside is = absurd (cc)
linked_inside target (Ok range) (Ok location) (Err refusal) tip own inside is = absurd (cc)
linked_inside target (Ok range) (Err refusal) shown tip own inside is = absurd (cc)
linked_inside target (Err refusal) location shown tip own inside is = absurd (cc)

with_inside : (behind : ℕ) (target written location shown tip : Option (List ℕ)) (own : Link)
    → link_with behind target written location shown tip ≡ Ok (Some own) → IsLinkInside own
with_inside behind target None location shown tip own is = absurd (cc)
with_inside behind target (Some written) location shown tip own is =
    linked_inside target (placed (area written)) (optional_text behind location)
    (optional_text behind shown) (optional_text behind tip) own
    (λ one. range_inside (area written) one (area_inside written)) is

from_inside : (behind : ℕ) (target : Option (List ℕ)) (values : List (Option (List ℕ)))
    (own : Link) → link_from behind target values ≡ Ok (Some own) → IsLinkInside own
from_inside behind target [] own is = absurd (cc)
from_inside behind target (written ∷ []) own is = absurd (cc)
from_inside behind target (written ∷ location ∷ []) own is = absurd (cc)
from_inside behind target (written ∷ location ∷ shown ∷ []) own is = absurd (cc)
from_inside behind target (written ∷ location ∷ shown ∷ tip ∷ []) own is =
    with_inside behind target written location shown tip own is
from_inside behind target (written ∷ location ∷ shown ∷ tip ∷ more ∷ values) own is = absurd (cc)

id_inside : (targets : List ℕ → Option (List ℕ)) (behind : ℕ) (values : List (Option (List ℕ)))
    (id : Result (Option (List ℕ)) AttrFault) (own : Link)
    → link_by_id targets behind values id ≡ Ok (Some own) → IsLinkInside own
id_inside targets behind values (Ok id) own is =
    from_inside behind (option_and_then targets id) values own is
id_inside targets behind values (Err fault) own is = absurd (cc)

start_inside : (targets : List ℕ → Option (List ℕ)) (start : PlacedTag)
    (looked : Result (List (Option (List ℕ))) AttrFault) (own : Link)
    → link_by targets start looked ≡ Ok (Some own) → IsLinkInside own
start_inside targets start (Ok values) own is =
    id_inside targets start.behind values (value_of_local (codes "id") start.tag.attributes) own is
start_inside targets start (Err fault) own is = absurd (cc)

part_inside : (targets : List ℕ → Option (List ℕ)) (events : List Event) (links : List Link)
    → (part_links targets).said events ≡ Some links → AllByRecursion IsLinkInside links
part_inside targets events links is =
    section_are IsLinkInside (codes "hyperlinks") is_link (link_of targets) events links
    (λ start own. start_inside targets start
    (lookup (codes "ref" ∷ codes "location" ∷ codes "display" ∷ codes "tooltip" ∷ [])
    start.tag.attributes) own) is

-- ---- what a look says

-- what was had of a sheet that was found
had_inside : (name : List ℕ) (found : Option (List Link)) (parts : List Part) (links : List Link)
    → look_said (had_links_look name found) parts ≡ Some links → found ≡ Some links
had_inside name None parts links is = absurd (cc)
had_inside name (Some found) parts links is = is

some_inside : (said : Option (List Link)) (links : List Link)
    → ((own : List Link) → said ≡ Some own → AllByRecursion IsLinkInside own)
    → option_map some_links said ≡ Some (Some links) → AllByRecursion IsLinkInside links
some_inside None links inside is = absurd (cc)
some_inside (Some own) links inside is =
    let same : own ≡ links = cc in
    subst (AllByRecursion IsLinkInside) same (inside own refl)

if_there : (targets : List ℕ → Option (List ℕ)) (part : Option (List Event)) (links : List Link)
    → (or_absent None (said_as some_links (part_links targets))).said part ≡ Some (Some links)
    → AllByRecursion IsLinkInside links
if_there targets None links is = absurd (cc)
if_there targets (Some events) links is =
    some_inside ((part_links targets).said events) links (part_inside targets events) is

linked_inside_by : (targets : Option (List ℕ → Option (List ℕ))) (path : List ℕ)
    (parts : List Part) (links : List Link)
    → option_and_then (λ (own : List ℕ → Option (List ℕ)).
    look_said (part_links_look path own) parts) targets ≡ Some (Some links)
    → AllByRecursion IsLinkInside links
linked_inside_by None path parts links is = absurd (cc)
linked_inside_by (Some targets) path parts links is =
    if_there targets (part_of parts path) links is

found_inside : (there : Bool) (path : List ℕ) (parts : List Part) (links : List Link)
    → look_said (links_if path there) parts ≡ Some (Some links) → AllByRecursion IsLinkInside links
found_inside true path parts links is =
    linked_inside_by (look_said (targets_look path) parts) path parts links is
found_inside false path parts links is = absurd (cc)

sheet_inside : (name : List ℕ) (found : Option (Option (List Link))) (parts : List Part)
    (links : List Link)
    → ((own : List Link) → found ≡ Some (Some own) → AllByRecursion IsLinkInside own)
    → option_and_then (λ (own : Option (List Link)). look_said (had_links_look name own) parts)
    found ≡ Some links → AllByRecursion IsLinkInside links
sheet_inside name None parts links inside is = absurd (cc)
sheet_inside name (Some found) parts links inside is =
    inside links
    (ap (λ (own : Option (List Link)). Some own) (had_inside name found parts links is))

placed_inside : (name : List ℕ) (path : Option (List ℕ)) (parts : List Part) (links : List Link)
    → look_said (placed_links_look name path) parts ≡ Some links
    → AllByRecursion IsLinkInside links
placed_inside name None parts links is = absurd (cc)
placed_inside name (Some path) parts links is =
    sheet_inside name (look_said (links_look path) parts) parts links
    (λ own said. found_inside (is_some (part_of parts path)) path parts own said) is

kept_inside : (links : List Hyperlink) → AllByRecursion IsLinkInside (map link_said links)
    → AllByRecursion IsKeptInside links
kept_inside [] are = tt
kept_inside (own ∷ links) are = (are.0, kept_inside links are.1)

pub links_lie_inside : (name : List ℕ) (path : Option (List ℕ)) (parts : List Part)
    (links : List Hyperlink)
    → look_said (placed_links_look name path) parts ≡ Some (map link_said links)
    → All IsKeptInside links
links_lie_inside name path parts links is =
    All-from_recursion IsKeptInside links
    (kept_inside links (placed_inside name path parts (map link_said links) is))
