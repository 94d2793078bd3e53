-- What an event is, apart from where its texts lie in memory.
use Rattle.std.specs.Prelude.{ℕ, List, Bool, true, false}
use Rattle.part_events.specs.declared.event.StartTag.{StartTag}
use Rattle.part_events.specs.declared.event.PartEvent.{PartEvent}
use Rattle.part_events.specs.declared.event.PartEvent.TheVariants.{Start, End, Text, CharData}
use Rattle.part_events.specs.declared.event.PartEvent.TheVariants.{EntityRef, Other}
use Rattle.part_events.specs.declared.event.PartEvent.TheVariants as part_event
use Rattle.part_events.specs.declared.flaw.Flaw.{Flaw}

-- a start: its whole name, and the text of its attributes as written
pub record Tag : Type 0 where
  pub name : List ℕ
  pub attributes : List ℕ

-- what nests nothing: text, character data, a reference by its name, a flaw, behind which nothing
-- is told, or anything else
pub data Leaf : Type 0 where
  text : List ℕ → Leaf
  char_data : List ℕ → Leaf
  entity_ref : List ℕ → Leaf
  flaw : Flaw → Leaf
  other : Leaf

-- the start or the end of an element, or what stands between them
pub data Event : Type 0 where
  start : Tag → Event
  end : List ℕ → Event
  leaf : Leaf → Event

-- a start tag by its texts
abbrev pub tag_of : StartTag → Tag
tag_of tag = record { name = tag.name.now; attributes = tag.attributes.now }

-- an event by the texts that a `PartEvent` has
abbrev pub event_of : PartEvent → Event
event_of (Start tag) = start (tag_of tag)
event_of (End name) = end name.now
event_of (Text content) = leaf (text content.now)
event_of (CharData content) = leaf (char_data content.now)
event_of (EntityRef name) = leaf (entity_ref name.now)
event_of (part_event.Flaw why) = leaf (flaw why)
event_of Other = leaf other

-- a leaf is a flaw, behind which nothing is told of its part
abbrev pub is_flaw : Leaf → Bool
is_flaw (text content) = false
is_flaw (char_data content) = false
is_flaw (entity_ref name) = false
is_flaw (flaw why) = true
is_flaw other = false

-- an event is the start of an element
abbrev pub is_start : Event → Bool
is_start (start tag) = true
is_start (end name) = false
is_start (leaf kind) = false

-- a fact of the tag of a start, which is false of every other event
abbrev pub IsStartAnd : Event → (Tag → Type 0) → Type 0
IsStartAnd (start tag) P = P tag
IsStartAnd (end name) P = ⊥
IsStartAnd (leaf kind) P = ⊥
