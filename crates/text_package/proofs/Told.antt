-- Parts as their reader sees them, found by their names.
use Rattle.std.proofs.Common.{◌≡◌, ℕ, ◌<◌, List, [], ◌∷◌, ◌++◌, Option, Some, None, length, map}
use Rattle.std.proofs.Common.{refl, sym, ap, ◌∙◌, subst, arith}
use Rattle.std.specs.Prelude.{IfSome, slice_index_or}
use Rattle.std.proofs.lemmas.List.{length-map, get_or-map, get_or_default}
use Rattle.part_events.specs.Words.{Event, Part, folded, part_of, place_of, FindsParts, part_at}
use Rattle.part_events.specs.declared.part_names.PartNames.{PartNames}
use Rattle.part_events.proofs.NamesFound.{place_within, opens_found, place_of_more}
use Rattle.text_package.specs.PartText.{part_markup}
use Rattle.text_package.specs.TextParts.{TextOfPart, part_seen, bytes_at}

told_within : (parts : List TextOfPart) (found : Option ℕ)
    → IfSome found (λ at. at < length (map part_seen parts))
    → IfSome found (λ at. at < length parts)
told_within parts None is = tt
told_within parts (Some place) is = omega (arith, is, length-map parts part_seen)

pub found_within : (parts : List TextOfPart) (key : List ℕ) (place : ℕ)
    → Some place ≡ place_of (map part_seen parts) key → place < length parts
found_within parts key place is =
    subst (λ (found : Option ℕ). IfSome found (λ at. at < length parts)) (sym is)
    (told_within parts (place_of (map part_seen parts) key)
    (place_within (map part_seen parts) key))

-- the events of the part at a place
pub told_at : (parts : List TextOfPart) (place : ℕ) → place < length parts
    → (part_at (map part_seen parts) place).events ≡ part_markup (bytes_at parts place)
told_at parts place within =
    ap (λ (part : Part). part.events)
    (get_or-map part_seen parts place ([], []) (record { name = []; events = [] }) within)

pub opens_told : (parts : List TextOfPart) (name : List ℕ) (place : ℕ)
    → Some place ≡ place_of (map part_seen parts) (folded name)
    → part_of (map part_seen parts) name ≡ Some (part_at (map part_seen parts) place).events
opens_told parts name place is = opens_found (map part_seen parts) name place is

-- ---- a part more

-- its events are of no matter to its name
same_place : (parts : List Part) (name : List ℕ) (events : List Event) (key : List ℕ)
    → place_of (parts ++ record { name = name; events = [] } ∷ []) key
    ≡ place_of (parts ++ record { name = name; events = events } ∷ []) key
same_place parts name events key =
    place_of_more parts (record { name = name; events = [] }) key
    ∙ sym (place_of_more parts (record { name = name; events = events }) key)

told_more : (parts : List TextOfPart) (part : TextOfPart)
    → map part_seen parts ++ part_seen part ∷ [] ≡ map part_seen (parts ++ part ∷ [])
told_more [] part = refl
told_more (first ∷ parts) part =
    ap (λ (rest : List Part). part_seen first ∷ rest) (told_more parts part)

pub finds_more : (names : PartNames) (parts more : List TextOfPart) (name bytes : List ℕ)
    → FindsParts names (map part_seen parts ++ record { name = name; events = [] } ∷ [])
    → more ≡ parts ++ (name, bytes) ∷ [] → FindsParts names (map part_seen more)
finds_more names parts more name bytes been is =
    let told = map part_seen parts in
    let events = part_markup bytes in
    let own : FindsParts names (told ++ record { name = name; events = events } ∷ []) = record {
      kept = λ key. been.kept key ∙ same_place told name events key;
      fits = λ key longer. sym (same_place told name events key) ∙ been.fits key longer;
    } in
    subst (λ (all : List TextOfPart). FindsParts names (map part_seen all)) (sym is)
    (subst (λ (all : List Part). FindsParts names all) (told_more parts (name, bytes)) own)

-- what is read at a place is the part there
pub bytes_read : (parts : List TextOfPart) (place : ℕ) (own : TextOfPart) → place < length parts
    → own ≡ slice_index_or parts place own → own.1 ≡ bytes_at parts place
bytes_read parts place own within is =
    ap (λ (part : TextOfPart). part.1) (is ∙ get_or_default parts place own ([], []) within)
