-- Where reading stands in a part.
use Rattle.std.specs.Prelude.{◌≡◌, ⊤, ℕ, ◌-◌, ◌<◌, ◌≤◌, List, [], ◌∷◌, length, drop, Bool, true}
use Rattle.std.specs.Prelude.{false, ◌==◌, if◌then◌else◌, Option, Some, None, slice_index_or}
use Rattle.part_events.specs.Words.{Event, leaf, other, flaw}
use Rattle.part_events.specs.declared.flaw.Flaw.TheVariants.{NotText}
use Rattle.markup.specs.Words.{events_left, held_event, has_cut_event, IsCutting}
use Rattle.text_package.specs.PartText.{events_in}
use Rattle.text_package.specs.declared.reading.Reading.{Reading}

-- The events to come of the text that a part of so many bytes is; of one that is no text they are
-- its flaw, as long as no event was taken.
abbrev pub rest_in : Option (List ℕ) → ℕ → Reading → List Event
rest_in None size reading = if reading.left == size then leaf (flaw NotText) ∷ [] else []
rest_in (Some text) size reading = events_left text reading.cutter

-- the event at hand of the text that a part is; of one that is no text it is the flaw
abbrev pub event_in : Option (List ℕ) → Reading → Event
event_in None reading = leaf (flaw NotText)
event_in (Some text) reading = held_event text reading.cutter.held

-- how many events were taken: each takes one off the number of bytes
abbrev pub taken_in : ℕ → Reading → ℕ
taken_in size reading = size - reading.left

-- the cutter stands in the text
abbrev pub CutsIn : Option (List ℕ) → Reading → Type 0
CutsIn None reading = ⊤
CutsIn (Some text) reading = IsCutting text reading.cutter

-- the cutter has an event at hand
abbrev pub HoldsIn : Option (List ℕ) → Reading → Type 0
HoldsIn None reading = ⊤
HoldsIn (Some text) reading = has_cut_event reading.cutter.held ≡ true

-- an event is at hand: the last one that was taken
pub record IsAtHand (text : Option (List ℕ)) (size : ℕ) (reading : Reading) : Type 0 where
  pub holds : HoldsIn text reading
  pub some : reading.left < size
  pub event : event_in text reading
      ≡ slice_index_or (events_in text) (taken_in size reading - 1) (leaf other)

-- reading stands in a part of so many bytes, which are this text, if they are one
pub record IsReadingPart (text : Option (List ℕ)) (size : ℕ) (reading : Reading) : Type 0 where
  pub left : reading.left ≤ size
  pub rest : rest_in text size reading ≡ drop (taken_in size reading) (events_in text)
  pub room : length (rest_in text size reading) ≤ reading.left
  pub cuts : CutsIn text reading
  pub at_hand : reading.has_event ≡ true → IsAtHand text size reading

-- a step: it takes the next event, or stays at the end
abbrev pub StepsIn : Bool → Option (List ℕ) → ℕ → Reading → Reading → Type 0
StepsIn true text size old new = rest_in text size old
    ≡ event_in text new ∷ rest_in text size new
StepsIn false text size old new = (rest_in text size old ≡ []) × (rest_in text size new ≡ [])
