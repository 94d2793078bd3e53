-- The value that spells a package in version 2, and its text.
use Rattle.std.specs.Prelude.{◌≡◌, ℕ, ◌+◌, ◌≤◌, List, [], ◌∷◌, length, drop, Bool, true, false}
use Rattle.std.specs.Prelude.{if◌then◌else◌, codes, Some, option_and_then}
use Rattle.std.specs.Str.{bytes_eq}
use Rattle.serde_json.specs.Data.{Data, object, array, string, number, unsigned, Items, no_items}
use Rattle.serde_json.specs.Data.{item, no_members, member}
use Rattle.serde_json.specs.Read.{read}
use Rattle.serde_json.specs.Written.{compact_text}
use Rattle.part_events.specs.Words.{Event, event_of, start, end, leaf, text, char_data, entity_ref}
use Rattle.part_events.specs.Words.{flaw, other, Part, flaw_description}
use Rattle.part_events.specs.declared.flaw.Flaw.{Flaw}
use Rattle.part_events.specs.declared.flaw.Flaw.TheVariants.{Malformed, NotText, Encrypted}
use Rattle.part_events.specs.declared.flaw.Flaw.TheVariants.{UnknownMethod, TooLarge, Damaged}
use Rattle.part_events.specs.declared.flaw.Flaw.TheVariants.{WrongSize, WrongChecksum}
use Rattle.package_text.specs.PackageText.{package_of, event_meant}
use Rattle.package_text.specs.declared.spelled.SpelledEvent.{SpelledEvent}
use Rattle.package_text.specs.declared.spelled.SpelledEvent.TheVariants.{One, Empty}

-- the items of an array of texts
abbrev pub texts_data : List (List ℕ) → Items
texts_data [] = no_items
texts_data (content ∷ texts) = item (string content) (texts_data texts)

-- the texts of a flaw: its kind, and words where it isn't malformed markup
abbrev pub flaw_texts : Flaw → List (List ℕ)
flaw_texts Malformed = codes "x" ∷ []
flaw_texts NotText = codes "x" ∷ flaw_description NotText ∷ []
flaw_texts Encrypted = codes "x" ∷ flaw_description Encrypted ∷ []
flaw_texts UnknownMethod = codes "x" ∷ flaw_description UnknownMethod ∷ []
flaw_texts TooLarge = codes "x" ∷ flaw_description TooLarge ∷ []
flaw_texts Damaged = codes "x" ∷ flaw_description Damaged ∷ []
flaw_texts WrongSize = codes "x" ∷ flaw_description WrongSize ∷ []
flaw_texts WrongChecksum = codes "x" ∷ flaw_description WrongChecksum ∷ []

-- the texts of an event by itself
abbrev pub texts_of_event : Event → List (List ℕ)
texts_of_event (start tag) = codes "s" ∷ tag.name ∷ tag.attributes ∷ []
texts_of_event (end name) = codes "e" ∷ name ∷ []
texts_of_event (leaf (text content)) = codes "t" ∷ content ∷ []
texts_of_event (leaf (char_data content)) = codes "d" ∷ content ∷ []
texts_of_event (leaf (entity_ref name)) = codes "r" ∷ name ∷ []
texts_of_event (leaf (flaw why)) = flaw_texts why
texts_of_event (leaf other) = codes "o" ∷ []

-- the texts of an element with nothing in it
abbrev pub texts_of_empty : List ℕ → List ℕ → List (List ℕ)
texts_of_empty name attributes = codes "b" ∷ name ∷ attributes ∷ []

-- the texts of the events of a part: a start and the end of its name behind it are one
abbrev pub event_texts : List Event → List (List (List ℕ))
event_texts [] = []
event_texts (event ∷ []) = texts_of_event event ∷ []
event_texts (start tag ∷ end name ∷ events) =
    if bytes_eq tag.name name then texts_of_empty tag.name tag.attributes ∷ event_texts events
    else texts_of_event (start tag) ∷ event_texts (end name ∷ events)
event_texts (event ∷ next ∷ events) = texts_of_event event ∷ event_texts (next ∷ events)

-- the items of an array of events
abbrev pub events_data : List (List (List ℕ)) → Items
events_data [] = no_items
events_data (texts ∷ others) = item (array (texts_data texts)) (events_data others)

-- a part as an object, its keys in the order of a map: `events` before `name`
abbrev pub part_data : Part → Data
part_data part =
    object (member (codes "events") (array (events_data (event_texts part.events)))
    (member (codes "name") (string part.name) no_members))

-- the items of an array of parts
abbrev pub parts_data : List Part → Items
parts_data [] = no_items
parts_data (part ∷ parts) = item (part_data part) (parts_data parts)

-- the value that spells a package in version 2: `parts` before `version`
unfoldable pub package_data : List Part → Data
package_data parts =
    object (member (codes "parts") (array (parts_data parts))
    (member (codes "version") (number (unsigned 2)) no_members))

-- the text of a package of these parts, without a space
abbrev pub written_package : List Part → List ℕ
written_package parts = compact_text (package_data parts)

-- ---- laws

-- whether texts are those of a start of this name
abbrev pub is_start_of : List ℕ → List (List ℕ) → Bool
is_start_of name (kind ∷ own ∷ attributes ∷ []) =
    if bytes_eq kind (codes "s") then bytes_eq own name else false
is_start_of name _ = false

-- whether the second texts are those of an end, and the first those of a start of its name
abbrev pub is_end_behind : List (List ℕ) → List (List ℕ) → Bool
is_end_behind before (kind ∷ name ∷ []) =
    if bytes_eq kind (codes "e") then is_start_of name before else false
is_end_behind before _ = false

-- whether no start is directly followed by the end of its name
abbrev pub none_splits : List (List (List ℕ)) → Bool
none_splits [] = true
none_splits (texts ∷ []) = true
none_splits (texts ∷ next ∷ others) =
    if is_end_behind texts next then false else none_splits (next ∷ others)

-- the value of a package spells it
abbrev pub SpellsItsParts : Type 0
SpellsItsParts = (parts : List Part) → package_of (package_data parts) ≡ Some parts

-- the text of a package is read as its value, and so as the package
abbrev pub TextReadsBack : Type 0
TextReadsBack =
    (parts : List Part) → option_and_then package_of (read (written_package parts)) ≡ Some parts

-- in no list of events that is written stands a start before the end of its name
abbrev pub SplitsNone : Type 0
SplitsNone = (events : List Event) → none_splits (event_texts events) ≡ true

-- ---- the steps of writing it

-- whether the first of these events is the end of this name
abbrev pub begins_by_end : List ℕ → List Event → Bool
begins_by_end name (end own ∷ events) = bytes_eq name own
begins_by_end name events = false

-- whether an event is a start, and the first of these events the end of its name
abbrev pub is_empty_element : Event → List Event → Bool
is_empty_element (start tag) events = begins_by_end tag.name events
is_empty_element (end name) events = false
is_empty_element (leaf kind) events = false

-- the texts of an event of a package text
abbrev pub texts_of_spelled : SpelledEvent → List (List ℕ)
texts_of_spelled (One event) = texts_of_event (event_of event)
texts_of_spelled (Empty tag) = texts_of_empty tag.name.now tag.attributes.now

-- the texts of the events from a place on begin with those of this one, and those behind what it
-- stands for follow
pub record IsWrittenAt (events : List Event) (place : ℕ) (event : SpelledEvent) : Type 0 where
  pub ends : place + length (event_meant event) ≤ length events
  pub begins : event_texts (drop place events)
      ≡ texts_of_spelled event ∷ event_texts (drop (place + length (event_meant event)) events)
