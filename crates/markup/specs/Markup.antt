-- The events that the text of a part is cut into.
use Rattle.std.specs.Prelude.{ℕ, zero, suc, ◌-◌, List, [], ◌∷◌, ◌++◌, Bool, false, Option, Some}
use Rattle.std.specs.Prelude.{None, option_map}
use Rattle.part_events.specs.Words.{Event, start, end, leaf, flaw, is_flaw}
use Rattle.part_events.specs.declared.flaw.Flaw.TheVariants.{Malformed}
use Rattle.markup.specs.Front.{Piece, one, empty, MarkupFront, flawed, piece, front_in_markup}

-- the events of a piece of markup: one, or the start and the end of an empty element
abbrev pub events_of_piece : Piece → List Event
events_of_piece (one event) = event ∷ []
events_of_piece (empty tag) = start tag ∷ end tag.name ∷ []

-- the events that begin with this front, where `more` gives those behind so many bytes that follow
-- its first one; a flaw is the last
abbrev pub events_from : (ℕ → List Event) → MarkupFront → List Event
events_from more flawed = leaf (flaw Malformed) ∷ []
events_from more (piece first size) = events_of_piece first ++ more (size - 1)

-- the events of what follows the first n bytes of a text
unfoldable pub events_behind : List ℕ → ℕ → List Event
events_behind [] n = []
events_behind (b ∷ bytes) (suc n) = events_behind bytes n
events_behind (b ∷ bytes) zero = events_from (events_behind bytes) (front_in_markup b bytes)

-- the events of a text: those of the piece that it begins with, and those of the rest; behind a
-- flaw nothing is told
unfoldable pub markup_events : List ℕ → List Event
markup_events text = events_behind text 0

-- an event is a flaw, behind which nothing is told of its part
abbrev pub is_flaw_event : Event → Bool
is_flaw_event (start tag) = false
is_flaw_event (end name) = false
is_flaw_event (leaf kind) = is_flaw kind

-- where the flaw stands that a front is, or else that `more` gives behind so many bytes that follow
-- its first one
abbrev pub flaw_from : (ℕ → Option ℕ) → MarkupFront → Option ℕ
flaw_from more flawed = Some 0
flaw_from more (piece first size) = option_map suc (more (size - 1))

-- where the flaw stands in a text of which the first n bytes are passed over, if it has one
unfoldable pub flaw_behind : List ℕ → ℕ → Option ℕ
flaw_behind [] n = None
flaw_behind (b ∷ bytes) (suc n) = option_map suc (flaw_behind bytes n)
flaw_behind (b ∷ bytes) zero = flaw_from (flaw_behind bytes) (front_in_markup b bytes)

-- where the flaw of a text stands, in bytes, if it has one
abbrev pub flaw_place : List ℕ → Option ℕ
flaw_place text = flaw_behind text 0
