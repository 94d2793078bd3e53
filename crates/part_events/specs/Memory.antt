-- A package in memory: what its fields say, and what adding to it makes of its parts.
use Rattle.std.specs.Prelude.{◌≡◌, ℕ, ◌-◌, ◌<◌, ◌≤◌, List, [], ◌∷◌, ◌++◌, length, take, drop}
use Rattle.std.specs.Prelude.{reverse, slice_index_or, Bool, true, false, Option, Some, None}
use Rattle.part_events.specs.Event.{Event, leaf, other}
use Rattle.part_events.specs.Package.{Part, PackageState}
use Rattle.part_events.specs.declared.memory.Place.{Place}

-- the part at a place; past the last one an empty part without a name
abbrev pub part_at : List Part → ℕ → Part
part_at parts place = slice_index_or parts place (record { name = []; events = [] })

-- the events of the open part, and none where no part is open
abbrev pub open_events : List Part → Option Place → List Event
open_events parts None = []
open_events parts (Some place) = (part_at parts place.part).events

-- how many events were taken of the part that is open
abbrev pub taken_of : Option Place → ℕ
taken_of None = 0
taken_of (Some place) = place.next

-- an event of the open part is at hand
abbrev pub has_event : Option Place → Bool
has_event None = false
has_event (Some place) = place.has_event

-- what a package in memory holds: its parts, where reading stands, and how many events were taken
-- of any part
pub record Contents : Type 0 where
  pub parts : List Part
  pub place : Option Place
  pub taken : ℕ

-- the state of a package in memory, as its reader knows it; no call of it fails
abbrev pub state_of : Contents → PackageState
state_of held = record {
  is_visible = true;
  parts = held.parts;
  past = reverse (take (taken_of held.place) (open_events held.parts held.place));
  rest = drop (taken_of held.place) (open_events held.parts held.place);
  current = slice_index_or (open_events held.parts held.place) (taken_of held.place - 1)
      (leaf other);
  has_current = has_event held.place;
  left = length (open_events held.parts held.place) - taken_of held.place;
  taken = held.taken;
  faults = 0;
  takes_memory = false;
}

-- a package of these parts, of which none is open
abbrev pub closed : List Part → ℕ → Contents
closed parts taken = record { parts = parts; place = None; taken = taken }

-- the place is one of an event of a part, or the end of the part
abbrev pub IsPlace : List Part → Option Place → Type 0
IsPlace parts None = Unit {0}
IsPlace parts (Some place) =
    (place.part < length parts) × (place.next ≤ length (part_at parts place.part).events)
    × (place.has_event ≡ true → 0 < place.next)

-- the parts of a package, with an event at the end of the last part
abbrev pub with_event : List Part → Event → List Part
with_event [] event = []
with_event (part ∷ []) event = record { name = part.name; events = part.events ++ event ∷ [] } ∷ []
with_event (part ∷ next ∷ parts) event = part ∷ with_event (next ∷ parts) event
