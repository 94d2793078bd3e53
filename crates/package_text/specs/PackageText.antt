-- The package that a JSON value spells, in version 1 or 2.
use Rattle.std.specs.Prelude.{◌≡◌, ◌||◌, ◌++◌, ℕ, ◌==◌, List, [], ◌∷◌, Bool, true, false}
use Rattle.std.specs.Prelude.{if◌then◌else◌, Option, Some, None, option_map, option_and_then, codes}
use Rattle.std.specs.Str.{bytes_eq, is_utf8}
use Rattle.serde_json.specs.Data.{Data, object, Items, no_items, item, Members, no_members, member}
use Rattle.serde_json.specs.Find.{get, as_array, as_str, as_number, as_u64}
use Rattle.serde_json.specs.Read.{read}
use Rattle.serde_json.specs.Written.{has_float, members_have_float}
use Rattle.part_events.specs.Words.{Event, event_of, start, end, leaf, text, char_data, entity_ref}
use Rattle.part_events.specs.Words.{flaw, other, Contents, closed, with_event, Part}
use Rattle.part_events.specs.Words.{flaw_description}
use Rattle.part_events.specs.declared.flaw.Flaw.{Flaw}
use Rattle.part_events.specs.declared.flaw.Flaw.TheVariants.{Malformed, NotText, Encrypted}
use Rattle.part_events.specs.declared.flaw.Flaw.TheVariants.{UnknownMethod, TooLarge, Damaged}
use Rattle.part_events.specs.declared.flaw.Flaw.TheVariants.{WrongSize, WrongChecksum}
use Rattle.package_text.specs.declared.spelled.SpelledEvent.{SpelledEvent}
use Rattle.package_text.specs.declared.spelled.SpelledEvent.TheVariants.{One, Empty}

-- the texts of an array that holds nothing else
abbrev pub texts_of : Items → Option (List (List ℕ))
texts_of no_items = Some []
texts_of (item value rest) =
    option_and_then (λ first. option_map (λ texts. first ∷ texts) (texts_of rest)) (as_str value)

-- a start of this name and attribute text
abbrev pub start_named : List ℕ → List ℕ → Event
start_named name attributes = start (record { name = name; attributes = attributes })

-- the two events of an element with nothing in it
abbrev pub empty_element : List ℕ → List ℕ → List Event
empty_element name attributes = start_named name attributes ∷ end name ∷ []

-- a word for a flaw, if it is this one's, and else what follows
abbrev named_or : List ℕ → Flaw → Option Flaw → Option Flaw
named_or words why others = if bytes_eq words (flaw_description why) then Some why else others

-- the flaw of these words; malformed markup has none, and is a kind alone
abbrev pub flaw_named : List ℕ → Option Flaw
flaw_named words =
    named_or words NotText (named_or words Encrypted (named_or words UnknownMethod
    (named_or words TooLarge (named_or words Damaged (named_or words WrongSize
    (named_or words WrongChecksum None))))))

-- The events of a kind and its texts: one, or in version 2 the two of an empty element. Flaws are
-- events of version 2 alone.
abbrev pub events_of_texts : Bool → List (List ℕ) → Option (List Event)
events_of_texts is_second [] = None
events_of_texts is_second (kind ∷ []) =
    if bytes_eq kind (codes "o") then Some (leaf other ∷ [])
    else (if bytes_eq kind (codes "x")
    then (if is_second then Some (leaf (flaw Malformed) ∷ []) else None) else None)
events_of_texts is_second (kind ∷ content ∷ []) =
    if bytes_eq kind (codes "e") then Some (end content ∷ [])
    else (if bytes_eq kind (codes "t") then Some (leaf (text content) ∷ [])
    else (if bytes_eq kind (codes "d") then Some (leaf (char_data content) ∷ [])
    else (if bytes_eq kind (codes "r") then Some (leaf (entity_ref content) ∷ [])
    else (if bytes_eq kind (codes "x")
    then (if is_second then option_map (λ why. leaf (flaw why) ∷ []) (flaw_named content) else None)
    else None))))
events_of_texts is_second (kind ∷ name ∷ attributes ∷ []) =
    if bytes_eq kind (codes "s") then Some (start_named name attributes ∷ [])
    else (if bytes_eq kind (codes "b")
    then (if is_second then Some (empty_element name attributes) else None) else None)
events_of_texts is_second (kind ∷ first ∷ second ∷ third ∷ more) = None

-- the events of a JSON value, if it spells one or an empty element
abbrev pub events_of_value : Bool → Data → Option (List Event)
events_of_value is_second value =
    option_and_then (events_of_texts is_second) (option_and_then texts_of (as_array value))

-- the events of the items of a JSON array, if each of them spells some
abbrev pub events_of_items : Bool → Items → Option (List Event)
events_of_items is_second no_items = Some []
events_of_items is_second (item value rest) =
    option_and_then (λ own. option_map (λ events. own ++ events) (events_of_items is_second rest))
    (events_of_value is_second value)

-- a part of this name, where its events are events
abbrev pub named_part : List ℕ → Option (List Event) → Option Part
named_part name events =
    option_map (λ found. let part : Part = record { name = name; events = found } in part) events

-- a part by its name and events
abbrev pub part_in : Bool → Data → Option Part
part_in is_second value =
    let found = option_and_then as_array (get (codes "events") value) in
    let events = option_and_then (events_of_items is_second) found in
    option_and_then (λ name. named_part name events)
    (option_and_then as_str (get (codes "name") value))

-- the parts of the items of a JSON array, if each of them spells one
abbrev pub parts_in : Bool → Items → Option (List Part)
parts_in is_second no_items = Some []
parts_in is_second (item value rest) =
    option_and_then (λ part. option_map (λ parts. part ∷ parts) (parts_in is_second rest))
    (part_in is_second value)

-- whether the text of a version is the second, which has empty elements as one event, and flaws, if
-- it is a version at all
abbrev pub version_is_second : Option ℕ → Option Bool
version_is_second None = None
version_is_second (Some version) =
    if version == 1 then Some false else (if version == 2 then Some true else None)

-- The package that a value spells: no number in the value, at any depth, is other than an integer
-- of 64 bits, its version is 1 or 2, and its parts are parts. Other keys don't matter.
unfoldable pub package_of : Data → Option (List Part)
package_of value =
    let number = option_and_then as_number (get (codes "version") value) in
    let version = version_is_second (option_and_then as_u64 number) in
    let found = option_and_then as_array (get (codes "parts") value) in
    if has_float value then None
    else option_and_then (λ is_second. option_and_then (parts_in is_second) found) version

-- the package that bytes spell, as JSON in UTF-8
unfoldable pub package_in : List ℕ → Option (List Part)
package_in bytes = if is_utf8 bytes then option_and_then package_of (read bytes) else None

-- ---- the steps of reading it
--
-- Events are texts alone. So numbers are looked for beside the events of a part, and beside the
-- parts, and each event is looked at once.

-- whether a number of these members, at any depth, is no integer of 64 bits, where the first member
-- of this key is left aside
abbrev pub members_have_float_beside : List ℕ → Members → Bool
members_have_float_beside key no_members = false
members_have_float_beside key (member own value members) =
    if bytes_eq key own then members_have_float members
    else has_float value || members_have_float_beside key members

-- whether a number in a value is no integer of 64 bits, where its first member of this key is left
-- aside
abbrev pub has_float_beside : List ℕ → Data → Bool
has_float_beside key (object members) = members_have_float_beside key members
has_float_beside key value = has_float value

-- the part of a JSON value, if its numbers beside its events are integers
abbrev pub part_beside : Bool → Data → Option Part
part_beside is_second value =
    if has_float_beside (codes "events") value then None else part_in is_second value

-- the parts of the items of a JSON array, if their numbers beside their events are integers
abbrev pub parts_beside : Bool → Items → Option (List Part)
parts_beside is_second no_items = Some []
parts_beside is_second (item value rest) =
    option_and_then (λ part. option_map (λ parts. part ∷ parts) (parts_beside is_second rest))
    (part_beside is_second value)

-- the parts of a package text, if its numbers beside the parts' events are integers
unfoldable pub package_beside : Data → Option (List Part)
package_beside value =
    let number = option_and_then as_number (get (codes "version") value) in
    let version = version_is_second (option_and_then as_u64 number) in
    let found = option_and_then as_array (get (codes "parts") value) in
    if has_float_beside (codes "parts") value then None
    else option_and_then (λ is_second. option_and_then (parts_beside is_second) found) version

-- what an event of a package text stands for
abbrev pub event_meant : SpelledEvent → List Event
event_meant (One event) = event_of event ∷ []
event_meant (Empty tag) = empty_element tag.name.now tag.attributes.now

-- the parts with the events at the end of the last
abbrev pub with_last_events : List Part → List Event → List Part
with_last_events parts [] = parts
with_last_events parts (event ∷ events) = with_last_events (with_event parts event) events

-- what adding a value to a package in memory as a part does, and when it is none
abbrev pub AppendsPart : Option Part → Contents → Contents → Bool → Type 0
AppendsPart (Some part) old new true = new ≡ closed (old.parts ++ part ∷ []) old.taken
AppendsPart (Some part) old new false = ⊥
AppendsPart None old new true = ⊥
AppendsPart None old new false = Unit {0}
