-- How a part keeps its events: one text with all their texts, and where those of each end in it.
use Rattle.std.specs.Prelude.{◌≡◌, ℕ, zero, suc, ◌-◌, ◌≤◌, List, [], ◌∷◌, ◌++◌, take, drop}
use Rattle.std.specs.Str.{IsCharBoundary, IsUtf8}
use Rattle.part_events.specs.Event.{Event, start, end, leaf, text, char_data, entity_ref, flaw}
use Rattle.part_events.specs.Event.{other}
use Rattle.part_events.specs.declared.stored.StoredEvent.{StoredEvent}
use Rattle.part_events.specs.declared.stored.StoredEvent.TheVariants.{Start, End, Text, CharData}
use Rattle.part_events.specs.declared.stored.StoredEvent.TheVariants.{EntityRef, Flaw, Other}

-- the texts of an event, one behind the other
abbrev pub stored_texts : Event → List ℕ
stored_texts (start tag) = tag.name ++ tag.attributes
stored_texts (end name) = name
stored_texts (leaf (text content)) = content
stored_texts (leaf (char_data content)) = content
stored_texts (leaf (entity_ref name)) = name
stored_texts (leaf (flaw why)) = []
stored_texts (leaf other) = []

-- the bytes of the text from one place to another
abbrev pub between : List ℕ → ℕ → ℕ → List ℕ
between bytes first last = take (last - first) (drop first bytes)

-- where the texts of an event end
abbrev pub end_of : StoredEvent → ℕ
end_of (Start name attributes) = attributes
end_of (End last) = last
end_of (Text last) = last
end_of (CharData last) = last
end_of (EntityRef last) = last
end_of (Flaw why last) = last
end_of (Other last) = last

-- the event whose texts begin at a place of the text
abbrev pub event_from : List ℕ → ℕ → StoredEvent → Event
event_from bytes first (Start name attributes) =
    start (record { name = between bytes first name; attributes = between bytes name attributes })
event_from bytes first (End last) = end (between bytes first last)
event_from bytes first (Text last) = leaf (text (between bytes first last))
event_from bytes first (CharData last) = leaf (char_data (between bytes first last))
event_from bytes first (EntityRef last) = leaf (entity_ref (between bytes first last))
event_from bytes first (Flaw why last) = leaf (flaw why)
event_from bytes first (Other last) = leaf other

-- two places of a text, in this order, lie between characters
pub record IsPiece (bytes : List ℕ) (first last : ℕ) : Type 0 where
  pub ordered : first ≤ last
  pub start_fits : IsCharBoundary bytes first
  pub end_fits : IsCharBoundary bytes last

-- the texts of a stored event stand in the bytes one behind another, from `first` on
abbrev pub LiesFrom : List ℕ → ℕ → StoredEvent → Type 0
LiesFrom bytes first (Start name attributes) =
    IsPiece bytes first name × IsPiece bytes name attributes
LiesFrom bytes first (End last) = IsPiece bytes first last
LiesFrom bytes first (Text last) = IsPiece bytes first last
LiesFrom bytes first (CharData last) = IsPiece bytes first last
LiesFrom bytes first (EntityRef last) = IsPiece bytes first last
LiesFrom bytes first (Flaw why last) = IsPiece bytes first last
LiesFrom bytes first (Other last) = IsPiece bytes first last

-- an event, and where its texts begin
abbrev pub stored_event : List ℕ → ℕ × StoredEvent → Event
stored_event bytes own = event_from bytes own.0 own.1

-- a stored event lies in the bytes, from the place beside it on
abbrev pub IsStored : List ℕ → ℕ × StoredEvent → Type 0
IsStored bytes own = LiesFrom bytes own.0 own.1

-- the texts of events lie one behind the other, from a place on
abbrev pub with_begins : ℕ → List StoredEvent → List (ℕ × StoredEvent)
with_begins first [] = []
with_begins first (own ∷ others) = (first, own) ∷ with_begins (end_of own) others

-- where the texts of the event at a place begin
abbrev pub begin_at : ℕ → ℕ → List StoredEvent → ℕ
begin_at first zero events = first
begin_at first (suc place) [] = first
begin_at first (suc place) (own ∷ others) = begin_at (end_of own) place others

-- where the texts of events end, of which those of the first begin at a place
abbrev pub end_behind : ℕ → List StoredEvent → ℕ
end_behind first [] = first
end_behind first (own ∷ others) = end_behind (end_of own) others

-- the new text is the old one with a text behind it
pub record Extends (old new : List ℕ) : Type 0 where
  pub more : List ℕ
  pub is_text : IsUtf8 more
  pub joined : new ≡ old ++ more
