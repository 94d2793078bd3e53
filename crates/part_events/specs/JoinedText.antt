-- The text of an element: that of its Text events and references, with character data where it is
-- asked for.
use Rattle.std.specs.Prelude.{◌≡◌, ⊤, ℕ, suc, ◌+◌, List, [], ◌∷◌, ◌++◌, length, Bool, true, false}
use Rattle.std.specs.Prelude.{if◌then◌else◌, Option, None, Some, is_none, encode_utf8, slice_get}
use Rattle.std.specs.Prelude.{IsSomeAnd}
use Rattle.attr_text.specs.Words.{entity_character, line_ends}
use Rattle.attr_text.specs.declared.fault.TextFault.{TextFault}
use Rattle.attr_text.specs.declared.fault.TextFault.TheVariants as text_fault
use Rattle.part_events.specs.Event.{Event, start, end, leaf, text, char_data, entity_ref, flaw}
use Rattle.part_events.specs.Event.{other}
use Rattle.part_events.specs.Package.{HasCause}
use Rattle.part_events.specs.Reading.{Reading, IsAtEnd, BreaksNext, ahead, events_of}
use Rattle.part_events.specs.Section.{content, is_closed, behind}
use Rattle.part_events.specs.declared.fault.StreamError.{StreamError}
use Rattle.part_events.specs.declared.fault.StreamError.TheVariants.{Io, Xml, OutOfMemory}
use Rattle.part_events.specs.declared.fault.XmlFault.TheVariants.{Break, Unclosed, Entity}

-- the UTF-8 bytes of a character, if there is one
abbrev pub character_text : Option ℕ → List ℕ
character_text None = []
character_text (Some character) = encode_utf8 character

-- the text of an event, where `data_too` says whether that of character data is wanted
abbrev pub event_text : Bool → Event → List ℕ
event_text data_too (start tag) = []
event_text data_too (end name) = []
event_text data_too (leaf (text written)) = line_ends written
event_text data_too (leaf (char_data written)) = if data_too then line_ends written else []
event_text data_too (leaf (entity_ref name)) = character_text (entity_character name)
event_text data_too (leaf (flaw why)) = []
event_text data_too (leaf other) = []

-- the texts of these events, one behind another; of character data only where it counts, too
abbrev pub joined_text : Bool → List Event → List ℕ
joined_text data_too [] = []
joined_text data_too (event ∷ events) = event_text data_too event ++ joined_text data_too events

-- an event is a reference without a character
abbrev pub is_unknown : Event → Bool
is_unknown (start tag) = false
is_unknown (end name) = false
is_unknown (leaf (text written)) = false
is_unknown (leaf (char_data written)) = false
is_unknown (leaf (entity_ref name)) = is_none (entity_character name)
is_unknown (leaf (flaw why)) = false
is_unknown (leaf other) = false

-- How many events stand behind the first reference without a character. Where there is one, the
-- joined text is refused there.
abbrev pub unknown_entity : List Event → Option ℕ
unknown_entity [] = None
unknown_entity (event ∷ events) =
    if is_unknown event then Some (length events) else unknown_entity events

-- a text begins with another, whatever stands behind it
abbrev pub IsFrontOf : List ℕ → List ℕ → Type 0
IsFrontOf front whole = (more : List ℕ) × (whole ≡ front ++ more)

-- what became of the buffer, from its old text to its new one: the text of a front of the events
-- was put behind it
pub record PutsFront (data_too : Bool) (events : List Event) (texts : List ℕ
    × List ℕ) : Type 0 where
  pub front : List Event
  pub more : List Event
  pub parts : events ≡ front ++ more
  pub text : texts.1 ≡ texts.0 ++ joined_text data_too front

-- the text of the element was read, up to its match, or to the part's end
pub record ReadsText (data_too is_whole : Bool) (texts : List ℕ
    × List ℕ) (old new : Reading) : Type 0 where
  pub closed : is_closed 0 (ahead old) ≡ is_whole
  pub text : texts.1 ≡ texts.0 ++ joined_text data_too (content 0 (ahead old))
  pub known : unknown_entity (content 0 (ahead old)) ≡ None
  pub ahead : ahead new ≡ behind 0 (ahead old)
  pub at_end : is_whole ≡ false → IsAtEnd new

-- event `at` of the part is a reference without a character
abbrev pub IsUnknownAt : List Event → ℕ → Type 0
IsUnknownAt events at = IsSomeAnd (slice_get events at) (λ event. is_unknown event ≡ true)

-- when a text can't be read; a break is told only where no reference without a
-- character comes before
abbrev pub TextFails : Reading → Reading → StreamError → Type 0
TextFails old new Io = HasCause old.source new.source
TextFails old new (Xml (Break at why)) =
    old.source.is_visible ≡ true →
    BreaksNext old new at why × (is_closed 0 (ahead old) ≡ false)
    × (unknown_entity (content 0 (ahead old)) ≡ None)
TextFails old new (Xml (Unclosed at)) = ⊥
TextFails old new (Xml (Entity at)) =
    old.source.is_visible ≡ true →
    (events_of new ≡ events_of old) × IsUnknownAt (events_of new) at
    × IsSomeAnd (unknown_entity (content 0 (ahead old)))
    (λ behind. at + suc behind ≡ old.at + length (content 0 (ahead old)))
TextFails old new OutOfMemory = ⊤

-- when the text of an event can't be put
abbrev pub EventFails : Event → TextFault → Type 0
EventFails event (text_fault.Entity at) = is_unknown event ≡ true
EventFails event text_fault.OutOfMemory = ⊤

-- the refusal of the text of event `at`
abbrev pub text_error : ℕ → TextFault → StreamError
text_error at (text_fault.Entity place) = Xml (Entity at)
text_error at text_fault.OutOfMemory = OutOfMemory
