-- Where cutting stands in a text: the event at hand by its places, and the events to come.
use Rattle.std.specs.Prelude.{◌≡◌, ⊤, ℕ, ◌+◌, List, [], ◌∷◌, ◌++◌, drop, length, Bool, true, ◌≤◌}
use Rattle.std.specs.Prelude.{false, if◌then◌else◌, Option, Some, None}
use Rattle.std.specs.Option.{option_map_or}
use Rattle.std.specs.Str.{IsCharBoundary}
use Rattle.part_events.specs.Words.{Event, start, end, leaf, text, char_data, entity_ref, other}
use Rattle.part_events.specs.Words.{flaw, between, IsPiece}
use Rattle.markup.specs.Markup.{markup_events, flaw_behind}
use Rattle.markup.specs.declared.found.Found.{Found}
use Rattle.markup.specs.declared.found.Found.TheVariants as found
use Rattle.markup.specs.declared.cutter.Held.{Held}
use Rattle.markup.specs.declared.cutter.Held.TheVariants.{Nothing, Start, End, Text, CharData}
use Rattle.markup.specs.declared.cutter.Held.TheVariants.{EntityRef, Other, Flaw}
use Rattle.markup.specs.declared.cutter.Cutter.{Cutter}
use Rattle.part_events.specs.declared.flaw.Flaw.TheVariants.{Malformed}

-- what was found at a place, by the places of its texts
abbrev pub held_at : ℕ → Found → Held
held_at at found.Flaw = Flaw at
held_at at (found.Start name attributes) =
    Start (at + 1) (at + 1 + name) (at + 1 + name + attributes) false
held_at at (found.Empty name attributes) =
    Start (at + 1) (at + 1 + name) (at + 1 + name + attributes) true
held_at at (found.End name size) = End (at + 2) (at + 2 + name)
held_at at (found.Text content) = Text at (at + content)
held_at at (found.CharData content) = CharData (at + 9) (at + 9 + content)
held_at at (found.EntityRef name) = EntityRef (at + 1) (at + 1 + name)
held_at at (found.Other size) = Other

-- the place behind what was found at another; behind a flaw it is the end
abbrev pub place_behind : ℕ → ℕ → Found → ℕ
place_behind at size found.Flaw = size
place_behind at size (found.Start name attributes) = at + (name + attributes + 2)
place_behind at size (found.Empty name attributes) = at + (name + attributes + 3)
place_behind at size (found.End name own) = at + own
place_behind at size (found.Text content) = at + content
place_behind at size (found.CharData content) = at + (content + 12)
place_behind at size (found.EntityRef name) = at + (name + 2)
place_behind at size (found.Other own) = at + own

-- the event that a cutter has at hand, by the bytes of its text
abbrev pub held_event : List ℕ → Held → Event
held_event bytes Nothing = leaf other
held_event bytes (Start begin name attributes is_empty) =
    start (record { name = between bytes begin name; attributes = between bytes name attributes })
held_event bytes (End begin name) = end (between bytes begin name)
held_event bytes (Text begin last) = leaf (text (between bytes begin last))
held_event bytes (CharData begin last) = leaf (char_data (between bytes begin last))
held_event bytes (EntityRef begin name) = leaf (entity_ref (between bytes begin name))
held_event bytes Other = leaf other
held_event bytes (Flaw at) = leaf (flaw Malformed)

-- a cutter has an event at hand
abbrev pub has_cut_event : Held → Bool
has_cut_event Nothing = false
has_cut_event (Start begin name attributes is_empty) = true
has_cut_event (End begin name) = true
has_cut_event (Text begin last) = true
has_cut_event (CharData begin last) = true
has_cut_event (EntityRef begin name) = true
has_cut_event Other = true
has_cut_event (Flaw at) = true

-- the end that comes behind the start of an element with nothing in it, as it is held
abbrev pub to_come : Held → Option Held
to_come Nothing = None
to_come (Start begin name attributes is_empty) = if is_empty then Some (End begin name) else None
to_come (End begin name) = None
to_come (Text begin last) = None
to_come (CharData begin last) = None
to_come (EntityRef begin name) = None
to_come Other = None
to_come (Flaw at) = None

-- the end that comes behind the start of an element with nothing in it, as an event
abbrev pub end_to_come : List ℕ → Held → List Event
end_to_come bytes held = option_map_or (λ next. held_event bytes next ∷ []) (to_come held) []

-- the events that a cutter has still to give, the one at hand first
abbrev pub events_left : List ℕ → Cutter → List Event
events_left bytes cutter =
    end_to_come bytes cutter.held ++ markup_events (drop cutter.at bytes)

-- the place of a flaw that is at hand, or else this place
abbrev pub held_place : ℕ → Held → ℕ
held_place at Nothing = at
held_place at (Start begin name attributes is_empty) = at
held_place at (End begin name) = at
held_place at (Text begin last) = at
held_place at (CharData begin last) = at
held_place at (EntityRef begin name) = at
held_place at Other = at
held_place at (Flaw place) = place

-- the texts of the event at hand lie in the text
abbrev pub Lies : List ℕ → Held → Type 0
Lies bytes Nothing = ⊤
Lies bytes (Start begin name attributes is_empty) =
    IsPiece bytes begin name × IsPiece bytes name attributes
Lies bytes (End begin name) = IsPiece bytes begin name
Lies bytes (Text begin last) = IsPiece bytes begin last
Lies bytes (CharData begin last) = IsPiece bytes begin last
Lies bytes (EntityRef begin name) = IsPiece bytes begin name
Lies bytes Other = ⊤
Lies bytes (Flaw at) = at ≤ length bytes

-- cutting stands at a place of this text
pub record IsCutting (bytes : List ℕ) (cutter : Cutter) : Type 0 where
  pub at : IsCharBoundary bytes cutter.at
  pub held : Lies bytes cutter.held

-- how many bytes were cut; of a flaw that is at hand its place
abbrev pub cut_size : Cutter → ℕ
cut_size cutter = held_place cutter.at cutter.held

-- a step: it takes the next event, or stays at the end
abbrev pub Takes : Bool → List ℕ → Cutter → Cutter → Type 0
Takes true bytes old new = events_left bytes old
    ≡ held_event bytes new.held ∷ events_left bytes new
Takes false bytes old new = (events_left bytes old ≡ []) × (events_left bytes new ≡ [])

-- where the flaw stands that is at hand, or else that of the text behind a place
abbrev pub flaw_left : List ℕ → ℕ → Held → Option ℕ
flaw_left bytes at Nothing = flaw_behind bytes at
flaw_left bytes at (Start begin name attributes is_empty) = flaw_behind bytes at
flaw_left bytes at (End begin name) = flaw_behind bytes at
flaw_left bytes at (Text begin last) = flaw_behind bytes at
flaw_left bytes at (CharData begin last) = flaw_behind bytes at
flaw_left bytes at (EntityRef begin name) = flaw_behind bytes at
flaw_left bytes at Other = flaw_behind bytes at
flaw_left bytes at (Flaw place) = Some place

-- a step passes over no flaw
abbrev pub PassesNoFlaw : Bool → List ℕ → Cutter → Cutter → Type 0
PassesNoFlaw true bytes old new = flaw_behind bytes old.at ≡ flaw_left bytes new.at new.held
PassesNoFlaw false bytes old new = flaw_behind bytes old.at ≡ None
