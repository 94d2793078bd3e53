-- How the elements of a part nest. A place in a part is seen by what stands before it, the latest
-- event first.
use Rattle.std.specs.Prelude.{◌≡◌, ℕ, zero, suc, ◌+◌, ◌-◌, List, [], ◌∷◌, Bool, true, false}
use Rattle.std.specs.Prelude.{if◌then◌else◌, Option, Some, None, option_map, not}
use Rattle.std.specs.Option.{option_map_or}
use Rattle.std.specs.Str.{bytes_eq}
use Rattle.part_events.specs.Event.{Tag, Event, start, end, leaf, is_flaw}

-- how many starts are among events
abbrev pub starts_in : List Event → ℕ
starts_in [] = 0
starts_in (start tag ∷ past) = starts_in past + 1
starts_in (end name ∷ past) = starts_in past
starts_in (leaf kind ∷ past) = starts_in past

-- how many ends are among events
abbrev pub ends_in : List Event → ℕ
ends_in [] = 0
ends_in (start tag ∷ past) = ends_in past
ends_in (end name ∷ past) = ends_in past + 1
ends_in (leaf kind ∷ past) = ends_in past

-- how many starts stand before a place, less how many ends
abbrev pub depth : List Event → ℕ
depth past = starts_in past - ends_in past

-- a start, and what stands before it
pub record OpenStart : Type 0 where
  pub tag : Tag
  pub before : List Event

-- Looking back, the start of the element that is open `outside` levels further out than the
-- innermost one: an end hides the start that comes before it.
abbrev pub open_start : ℕ → List Event → Option OpenStart
open_start outside [] = None
open_start zero (start tag ∷ past) = Some (record { tag = tag; before = past })
open_start (suc outside) (start tag ∷ past) = open_start outside past
open_start outside (end name ∷ past) = open_start (suc outside) past
open_start outside (leaf kind ∷ past) = open_start outside past

-- the last start among these events whose end is not among them
abbrev pub innermost_open : List Event → Option OpenStart
innermost_open past = open_start 0 past

-- the name of the element that is open `outside` levels further out than the innermost one
abbrev pub open_name : ℕ → List Event → Option (List ℕ)
open_name outside past =
    option_map (λ (opening : OpenStart). opening.tag.name) (open_start outside past)

-- the innermost open element has this name, so that an end of the name closes it
abbrev pub closes : List Event → List ℕ → Bool
closes past name = option_map_or (bytes_eq name) (open_name 0 past) false

-- An event goes on with what stands before it, and breaks nothing: an end has the whole name of the
-- innermost open element, and a flaw never goes on.
abbrev pub goes_on : List Event → Event → Bool
goes_on past (start tag) = true
goes_on past (end name) = closes past name
goes_on past (leaf kind) = not (is_flaw kind)

-- each event goes on with those before it
abbrev pub IsWhole : List Event → Type 0
IsWhole [] = Unit {0}
IsWhole (event ∷ past) = (goes_on past event ≡ true) × IsWhole past

-- what follows up to the first end that breaks the nesting, or the first flaw
abbrev pub whole_rest : List Event → List Event → List Event
whole_rest past [] = []
whole_rest past (event ∷ rest) =
    if goes_on past event then event ∷ whole_rest (event ∷ past) rest else []

-- the longest front of a part that is whole
abbrev pub whole : List Event → List Event
whole events = whole_rest [] events
