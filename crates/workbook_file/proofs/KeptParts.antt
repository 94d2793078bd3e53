-- Parts that are unpacked into a package in memory, event by event and part by part.
use Rattle.std.proofs.Common.{◌≡◌, ℕ, ◌+◌, ◌-◌, ◌<◌, ◌≤◌, List, [], ◌∷◌, ◌++◌, length, take, None}
use Rattle.std.proofs.Common.{Some, Option, refl, sym, ap, ◌∙◌, arith, get_or, append_assoc}
use Rattle.std.specs.Option.{option_map_or}
use Rattle.std.proofs.lemmas.List.{drop_more, get_or-map, length-map, take_all, take_more}
use Rattle.part_events.specs.Words.{Event, leaf, other, with_event, Part}
use Rattle.zip_archive.specs.Words.{Entry, ArchiveFile, member_names, no_entry, last_entry}
use Rattle.zip_archive.specs.Words.{part_entries}
use Rattle.workbook_file.specs.Contents.{just_opened}
use Rattle.workbook_file.specs.FileParts.{entry_events, file_parts, held_by, part_named}
use Rattle.workbook_file.specs.OpenEvents.{OpenEvents, last_taken, next_taken, rest_of}
use Rattle.workbook_file.proofs.Opening.{opened_rest, parts_long}

-- ---- the events of a part

-- an event behind those of the last part
pub event_behind : (parts : List Part) (part : Part) (event : Event)
    → with_event (parts ++ part ∷ []) event
    ≡ parts ++ record { name = part.name; events = part.events ++ event ∷ [] } ∷ []
event_behind [] part event = refl
event_behind (first ∷ []) part event = refl
event_behind (first ∷ second ∷ parts) part event =
    ap (λ (rest : List Part). first ∷ rest) (event_behind (second ∷ parts) part event)

-- the event that was taken stood first in the rest
pub first_of_rest : (old new : OpenEvents) (event : Event) → old.taken < length old.events
    → new ≡ next_taken old → event ≡ last_taken new → event ∷ rest_of new ≡ rest_of old
first_of_rest old new event within is own =
    let back : old.taken + 1 - 1 ≡ old.taken = omega arith in
    let there : event ≡ get_or old.events old.taken (leaf other) =
    own ∙ ap last_taken is ∙ ap (λ (n : ℕ). get_or old.events n (leaf other)) back in
    ap (λ (e : Event). e ∷ rest_of new) there
    ∙ ap (λ (p : OpenEvents). get_or old.events old.taken (leaf other) ∷ rest_of p) is
    ∙ sym (drop_more old.events old.taken (leaf other) within)

-- what was taken, with one event more, and the rest
pub split_more : (done : List Event) (old new : OpenEvents) (event : Event) (all : List Event)
    → old.taken < length old.events → new ≡ next_taken old → event ≡ last_taken new
    → done ++ rest_of old ≡ all → (done ++ event ∷ []) ++ rest_of new ≡ all
split_more done old new event all within is own split =
    append_assoc done (event ∷ []) (rest_of new)
    ∙ ap (λ (rest : List Event). done ++ rest) (first_of_rest old new event within is own)
    ∙ split

-- ---- the parts of a file

-- the parts before a place, with the part that was opened there
pub parts_more : (held : ArchiveFile) (place entry : ℕ) (name : List ℕ) (part : OpenEvents) →
    let entries : List Entry = held.archive.entries in
    place < length (member_names entries) → name ≡ get_or (member_names entries) place []
    → last_entry None (part_entries entries) (get_or (member_names entries) place [])
    ≡ Some (get_or entries entry no_entry)
    → part ≡ just_opened (held_by held (get_or entries entry no_entry))
    → take place (file_parts held) ++ record { name = name; events = rest_of part } ∷ []
    ≡ take (place + 1) (file_parts held)
unfolding file_parts
parts_more held place entry name part within named last is =
    let entries : List Entry = held.archive.entries in
    let names = member_names entries in
    let own = get_or names place [] in
    let past : Part = record { name = []; events = [] } in
    let events : rest_of part ≡ (part_named held own).events =
    ap rest_of is ∙ opened_rest (held_by held (get_or entries entry no_entry))
    ∙ sym (ap (λ (found : Option Entry).
    option_map_or (λ e. entry_events (held_by held e)) found []) last) in
    let named_so : Part = record { name = name; events = rest_of part } in
    let same : named_so ≡ part_named held own =
    ap (λ (n : List ℕ). let p : Part = record { name = n; events = rest_of part } in p) named
    ∙ ap (λ (es : List Event). let p : Part = record { name = own; events = es } in p) events in
    let long = length-map names (part_named held) in
    ap (λ (p : Part). take place (file_parts held) ++ p ∷ [])
    (same ∙ sym (get_or-map (part_named held) names place [] past within))
    ∙ sym (take_more (file_parts held) place past (omega (arith, within, long)))

-- the parts before the end are all of them
pub parts_all : (held : ArchiveFile) (place : ℕ)
    → length (member_names held.archive.entries) ≤ place
    → take place (file_parts held) ≡ file_parts held
parts_all held place behind =
    take_all place (file_parts held) (omega (arith, behind, parts_long held))
