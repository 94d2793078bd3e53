-- The events of an open part, and where reading stands in them.
use Rattle.std.specs.Prelude.{◌≡◌, ⊤, ℕ, ◌+◌, ◌-◌, ◌<◌, List, [], length, drop, Bool, true, false}
use Rattle.std.specs.Prelude.{slice_index_or}
use Rattle.part_events.specs.Words.{Event, leaf, other}
use Rattle.text_package.specs.PartText.{text_in, part_markup}
use Rattle.text_package.specs.Reading.{IsReadingPart, taken_in}
use Rattle.workbook_file.specs.FileParts.{flaw_alone}
use Rattle.workbook_file.specs.declared.open_part.FlawPlace.{FlawPlace}
use Rattle.workbook_file.specs.declared.open_part.FlawPlace.TheVariants.{Ahead, AtHand, Behind}
use Rattle.workbook_file.specs.declared.open_part.Held.{Held}
use Rattle.workbook_file.specs.declared.open_part.Held.TheVariants.{Text, Flaw}

-- the events of a part, how many of them were taken, how many it still gives at most, and whether
-- the last call took one
pub record OpenEvents : Type 0 where
  pub events : List Event
  pub taken : ℕ
  pub left : ℕ
  pub has_event : Bool

-- a part of these events of which none was taken
abbrev pub not_begun : List Event → ℕ → OpenEvents
not_begun events left =
    record { events = events; taken = 0; left = left; has_event = false }

-- the events of an open part to come
abbrev pub rest_of : OpenEvents → List Event
rest_of part = drop part.taken part.events

-- the event that was taken last
abbrev pub last_taken : OpenEvents → Event
last_taken part = slice_index_or part.events (part.taken - 1) (leaf other)

-- an open part, with its next event taken
abbrev pub next_taken : OpenEvents → OpenEvents
next_taken part =
    record part { taken = part.taken + 1; left = part.left - 1; has_event = true }

-- a step: it takes the next event, or stays at the end
abbrev pub TakesNextEvent : Bool → OpenEvents → OpenEvents → Type 0
TakesNextEvent true old new = (old.taken < length old.events) × (0 < old.left)
    × (new ≡ next_taken old)
TakesNextEvent false old new = (rest_of old ≡ []) × (new ≡ record old { has_event = false })

-- ---- what is held of a part

-- how many events were taken of a flaw alone
abbrev pub flaws_taken : FlawPlace → ℕ
flaws_taken Ahead = 0
flaws_taken AtHand = 1
flaws_taken Behind = 1

-- the last call took the flaw
abbrev pub is_at_hand : FlawPlace → Bool
is_at_hand Ahead = false
is_at_hand AtHand = true
is_at_hand Behind = false

-- what is held as the events that it tells: of bytes that were unpacked at most as many as there
-- are bytes, and one of a flaw
abbrev pub held_events : Held → OpenEvents
held_events (Text part reading) = record {
  events = part_markup part.1;
  taken = taken_in (length part.1) reading;
  left = reading.left;
  has_event = reading.has_event;
}
held_events (Flaw why place) = record {
  events = flaw_alone why;
  taken = flaws_taken place;
  left = 1 - flaws_taken place;
  has_event = is_at_hand place;
}

-- reading stands in the bytes that are held
abbrev pub IsHeld : Held → Type 0
IsHeld (Text part reading) = IsReadingPart (text_in part.1) (length part.1) reading
IsHeld (Flaw why place) = ⊤
