-- What the definitions by looking back and by reading forward say of depths and matches.
use Rattle.std.specs.Prelude.{◌≡◌, ◌≢◌, ℕ, ◌+◌, List, [], ◌∷◌, ◌++◌, map, reverse, Bool, true}
use Rattle.std.specs.Prelude.{false, ◌⊎◌, ◌==◌, if◌then◌else◌, Some}
use Rattle.part_events.specs.Event.{Tag, Event, start, end, leaf, is_start}
use Rattle.part_events.specs.Nesting.{OpenStart, depth, innermost_open, goes_on, IsWhole, whole}
use Rattle.part_events.specs.Section.{Element, element_of, content, is_closed, behind, outermost}
use Rattle.part_events.specs.Section.{children}

-- the last start whose depth is one less than that of the place
pub record IsLastStartOneOut (past : List Event) (opening : OpenStart) : Type 0 where
  pub later : List Event
  pub parts : past ≡ later ++ start opening.tag ∷ opening.before
  pub one_out : depth opening.before + 1 ≡ depth past
  pub last : (nearer farther : List Event) (between : Tag) → later
      ≡ nearer ++ start between ∷ farther
      → depth (farther ++ start opening.tag ∷ opening.before) + 1 ≢ depth past

-- looking back finds the innermost open start
abbrev pub InnermostOpenIsByDepth : Type 0
InnermostOpenIsByDepth =
    (past : List Event) (opening : OpenStart) → IsWhole past
    → (innermost_open past ≡ Some opening → IsLastStartOneOut past opening)
    × (IsLastStartOneOut past opening → innermost_open past ≡ Some opening)

-- The least end behind a start at which the depth is one more than at the start; `inside` stands
-- between the two.
pub record IsMatch (past : List Event) (tag : Tag) (events inside : List Event) (name : List ℕ)
    (after : List Event) : Type 0 where
  pub parts : events ≡ inside ++ end name ∷ after
  pub one_in : depth (reverse inside ++ start tag ∷ past) ≡ depth past + 1
  pub least : (front more : List Event) (earlier : List ℕ) → inside ≡ front ++ end earlier ∷ more
      → depth (reverse front ++ start tag ∷ past) ≢ depth past + 1

-- an element that is closed ends at its match
pub record ClosesAtMatch (past : List Event) (tag : Tag) (events : List Event) : Type 0 where
  pub name : List ℕ
  pub match : IsMatch past tag events (content 0 events) name (behind 0 events)

-- reading forward finds the match of a start
pub record ContentIsByMatch : Type 0 where
  pub closed : (past : List Event) (tag : Tag) (events : List Event) → IsWhole past
      → is_closed 0 events ≡ true → ClosesAtMatch past tag events
  pub match : (past : List Event) (tag : Tag) (events inside : List Event) (name : List ℕ)
      (after : List Event) → IsWhole past → IsMatch past tag events inside name after
      → (is_closed 0 events ≡ true) × (content 0 events ≡ inside) × (behind 0 events ≡ after)
  pub open_still : (events : List Event) → is_closed 0 events ≡ false → (content 0 events ≡ events)
      × (behind 0 events ≡ [])

-- Outermost elements come in order, each ending at its match. What isn't the start of a wanted one
-- is passed over.
pub record OutermostInOrder : Type 0 where
  pub nothing : (wanted : Tag → Bool) → outermost wanted [] ≡ []
  pub wanted :
      (wanted : Tag → Bool) (tag : Tag) (events : List Event) → wanted tag ≡ true →
      outermost wanted (start tag ∷ events)
      ≡ element_of tag events ∷ outermost wanted (behind 0 events)
  pub unwanted :
      (wanted : Tag → Bool) (tag : Tag) (events : List Event) → wanted tag ≡ false →
      outermost wanted (start tag ∷ events) ≡ outermost wanted events
  pub other :
      (wanted : Tag → Bool) (event : Event) (events : List Event) → is_start event ≡ false →
      outermost wanted (event ∷ events) ≡ outermost wanted events

-- the starts of a list at a depth, where `past` stands before the list
abbrev pub starts_at : ℕ → List Event → List Event → List Tag
starts_at level past [] = []
starts_at level past (start tag ∷ events) =
    if depth past == level then tag ∷ starts_at level (start tag ∷ past) events else starts_at level
    (start tag ∷ past) events
starts_at level past (end name ∷ events) = starts_at level (end name ∷ past) events
starts_at level past (leaf kind ∷ events) = starts_at level (leaf kind ∷ past) events

-- the children of an element are those of its elements whose depth in it is 1
abbrev pub ChildrenAreAtDepthOne : Type 0
ChildrenAreAtDepthOne =
    (tag : Tag) (events : List Event)
    → map (λ (child : Element). child.tag) (children (content 0 events))
    ≡ starts_at 1 (start tag ∷ []) (content 0 events)

-- behind a front of the events stands one that doesn't go on: an end of another name, or a flaw
pub record BreaksBehind (events front : List Event) : Type 0 where
  pub event : Event
  pub more : List Event
  pub parts : events ≡ front ++ event ∷ more
  pub breaks : goes_on (reverse front) event ≡ false

-- the longest whole front is whole, and is all, or the event behind it doesn't go on
pub record WholeIsLongest (events : List Event) : Type 0 where
  pub is_whole : IsWhole (reverse (whole events))
  pub longest : (whole events ≡ events) ⊎ BreaksBehind events (whole events)
