-- How a walk over a section goes: from its start, whose element is number `base` of the open ones,
-- to its end.
use Rattle.std.specs.Prelude.{◌≡◌, ⊤, ℕ, suc, ◌+◌, ◌-◌, ◌<◌, ◌≤◌, List, [], ◌∷◌, length, map, Bool}
use Rattle.std.specs.Prelude.{true, false, if◌then◌else◌, Some, None, slice_get}
use Rattle.part_events.specs.Event.{Tag, Event, start, IsStartAnd}
use Rattle.part_events.specs.Package.{HasCause}
use Rattle.part_events.specs.Reading.{Reading, IsAtElement, TakesEvent, StaysAtEnd, StepsAhead}
use Rattle.part_events.specs.Reading.{IsAtEnd, BreaksNext, ahead}
use Rattle.part_events.specs.Section.{Element, content, is_closed, behind, starts_by, behind_start}
use Rattle.part_events.specs.Section.{outermost, unclosed, is_any, is_named}
use Rattle.part_events.specs.declared.fault.StreamError.{StreamError}
use Rattle.part_events.specs.declared.fault.StreamError.TheVariants.{Io, Xml, OutOfMemory}
use Rattle.part_events.specs.declared.fault.XmlFault.TheVariants.{Break, Unclosed, Entity}
use Rattle.part_events.specs.declared.walk.Step.{Step}
use Rattle.part_events.specs.declared.walk.Step.TheVariants.{Found, Closed, Ended}
use Rattle.part_events.specs.declared.walk.Wanted.{Wanted}
use Rattle.part_events.specs.declared.walk.Wanted.TheVariants.{Any, Named}

-- the starts that a walk asks for: any, or those of some local names
abbrev pub wants : Wanted → Tag → Bool
wants Any = is_any
wants (Named names) = is_named (map (λ name. name.now) names.now)

-- how many elements are open inside the section that a reader is in
abbrev pub inside : ℕ → Reading → ℕ
inside base r = length r.names - base

-- the events of a section that are ahead of its reader
abbrev pub section_ahead : ℕ → Reading → List Event
section_ahead base r = content (inside base r) (ahead r)

-- an end of the section is ahead
abbrev pub is_closed_ahead : ℕ → Reading → Bool
is_closed_ahead base r = is_closed (inside base r) (ahead r)

-- the events behind the end of the section that a reading is in
abbrev pub behind_section : ℕ → Reading → List Event
behind_section base r = behind (inside base r) (ahead r)

-- the number that the section's end has in its part, where it is closed before a break
abbrev pub section_end : ℕ → Reading → ℕ
section_end base r = r.at + length (section_ahead base r)

-- where the reader stands after each step over the events of a section
abbrev pub StandsInside : ℕ → Step → Reading → Reading → Type 0
StandsInside base Found old new = TakesEvent old new × (base ≤ length new.names)
StandsInside base Closed old new = TakesEvent old new × (suc (length new.names) ≡ base)
StandsInside base Ended old new = StaysAtEnd old new × (base ≤ length new.names)

-- the next event of the section was taken
pub record TakesInside (base : ℕ) (old new : Reading) : Type 0 where
  pub events : section_ahead base old ≡ new.source.current ∷ section_ahead base new
  pub closed : is_closed_ahead base old ≡ is_closed_ahead base new
  pub behind : behind_section base old ≡ behind_section base new
  pub ends : section_end base old ≡ section_end base new
  pub steps : StepsAhead true old new

-- the end of the section was taken
pub record TakesLastEnd (base : ℕ) (old new : Reading) : Type 0 where
  pub events : section_ahead base old ≡ []
  pub closed : is_closed_ahead base old ≡ true
  pub behind : behind_section base old ≡ ahead new
  pub ends : new.at ≡ suc (section_end base old)
  pub steps : StepsAhead true old new

-- no event is left of the section, nor of the part
pub record HasNoneInside (base : ℕ) (old new : Reading) : Type 0 where
  pub events : section_ahead base old ≡ []
  pub closed : is_closed_ahead base old ≡ false
  pub behind : behind_section base old ≡ []
  pub steps : StepsAhead false old new

-- what a step does to the section
abbrev pub StepsInside : ℕ → Step → Reading → Reading → Type 0
StepsInside base Found old new = TakesInside base old new
StepsInside base Closed old new = TakesLastEnd base old new
StepsInside base Ended old new = HasNoneInside base old new

-- when a step is refused: the event that comes next breaks the nesting, and the section isn't
-- closed before
abbrev pub InsideFails : ℕ → Reading → Reading → StreamError → Type 0
InsideFails base old new Io = HasCause old.source new.source
InsideFails base old new (Xml (Break at why)) =
    old.source.is_visible ≡ true →
    BreaksNext old new at why × (is_closed_ahead base old ≡ false) × (ahead old ≡ [])
InsideFails base old new (Xml (Unclosed at)) = ⊥
InsideFails base old new (Xml (Entity at)) = ⊥
InsideFails base old new OutOfMemory = ⊤

-- where the reader stands after each answer of a walk over a section
abbrev pub StandsAt : (Tag → Bool) → ℕ → Step → Reading → Reading → Type 0
StandsAt wanted base Found old new =
    IsAtElement new × (base < length new.names)
    × IsStartAnd new.source.current (λ tag. wanted tag ≡ true) × (old.at < new.at)
StandsAt wanted base Closed old new = suc (length new.names) ≡ base
StandsAt wanted base Ended old new = base ≤ length new.names

-- nothing was passed that is wanted: the same is left of the section that a reading is in
pub record SameAhead (wanted : Tag → Bool) (base : ℕ) (old new : Reading) : Type 0 where
  pub starts : starts_by wanted (section_ahead base old) ≡ starts_by wanted (section_ahead base new)
  pub elements : outermost wanted (section_ahead base old)
      ≡ outermost wanted (section_ahead base new)
  pub unclosed : unclosed wanted (section_ahead base old) ≡ unclosed wanted (section_ahead base new)
  pub closed : is_closed_ahead base old ≡ is_closed_ahead base new
  pub behind : behind_section base old ≡ behind_section base new
  pub ends : section_end base old ≡ section_end base new
  pub first : behind_start wanted (ahead old) ≡ behind_start wanted (ahead new)

-- the next wanted start of the section
pub record IsNextStart (wanted : Tag
    → Bool) (base : ℕ) (tag : Tag) (old new : Reading) : Type 0 where
  pub is_wanted : wanted tag ≡ true
  pub starts :
      starts_by wanted (section_ahead base old)
      ≡ record { tag = tag; behind = length (section_ahead base new) }
      ∷ starts_by wanted (section_ahead base new)
  pub closed : is_closed_ahead base old ≡ is_closed_ahead base new
  pub behind : behind_section base old ≡ behind_section base new
  pub ends : section_end base old ≡ section_end base new
  pub first : behind_start wanted (ahead old) ≡ Some (ahead new)
  pub last : slice_get new.source.past 0 ≡ Some (start tag)

-- the element of this start, behind which the reader stands
abbrev pub element_at : ℕ → Tag → Reading → Element
element_at base tag r = record {
  tag = tag;
  inside = content 0 (ahead r);
  behind = length (section_ahead base r);
}

-- what is left of the section behind the element at whose start a reader stands
abbrev pub section_behind : ℕ → Reading → List Event
section_behind base r = content (inside base r - 1) (behind 0 (ahead r))

-- the next wanted element of the section, where `new` stands at its start
pub record IsNextElement (wanted : Tag
    → Bool) (base : ℕ) (tag : Tag) (old new : Reading) : Type 0 where
  pub is_wanted : wanted tag ≡ true
  pub elements :
      outermost wanted (section_ahead base old)
      ≡ element_at base tag new ∷ outermost wanted (section_behind base new)
  pub unclosed :
      unclosed wanted (section_ahead base old)
      ≡ (if is_closed 0 (ahead new) then unclosed wanted (section_behind base new)
      else Some (element_at base tag new))
  pub closed : is_closed_ahead base old ≡ is_closed (inside base new - 1) (behind 0 (ahead new))
  pub behind : behind_section base old ≡ behind (inside base new - 1) (behind 0 (ahead new))
  pub ends : section_end base old ≡ section_end base new

-- the section is closed, and nothing was passed that is wanted
pub record ClosesSection (wanted : Tag → Bool) (base : ℕ) (old new : Reading) : Type 0 where
  pub starts : starts_by wanted (section_ahead base old) ≡ []
  pub elements : outermost wanted (section_ahead base old) ≡ []
  pub closed : is_closed_ahead base old ≡ true
  pub behind : behind_section base old ≡ ahead new
  pub ends : new.at ≡ suc (section_end base old)

-- the part ended in the section, and nothing was passed that is wanted
pub record EndsInSection (wanted : Tag → Bool) (base : ℕ) (old new : Reading) : Type 0 where
  pub starts : starts_by wanted (section_ahead base old) ≡ []
  pub elements : outermost wanted (section_ahead base old) ≡ []
  pub unclosed : unclosed wanted (section_ahead base old) ≡ None
  pub closed : is_closed_ahead base old ≡ false
  pub first : behind_start wanted (ahead old) ≡ None
  pub ahead : ahead new ≡ []
  pub at_end : IsAtEnd new

-- an answer of the walk over starts, at any depth of the section
abbrev pub FindsStart : (Tag → Bool) → ℕ → Step → Reading → Reading → Type 0
FindsStart wanted base Found old new =
    IsStartAnd new.source.current (λ tag. IsNextStart wanted base tag old new)
FindsStart wanted base Closed old new = ClosesSection wanted base old new
FindsStart wanted base Ended old new = EndsInSection wanted base old new

-- an answer of the walk over elements, those left aside that lie in one of them
abbrev pub FindsElement : (Tag → Bool) → ℕ → Step → Reading → Reading → Type 0
FindsElement wanted base Found old new =
    IsStartAnd new.source.current (λ tag. IsNextElement wanted base tag old new)
FindsElement wanted base Closed old new = ClosesSection wanted base old new
FindsElement wanted base Ended old new = EndsInSection wanted base old new

-- when a walk is refused: a break of the nesting comes before the section is closed
abbrev pub WalkFails : (Tag → Bool) → ℕ → Reading → Reading → StreamError → Type 0
WalkFails wanted base old new Io = HasCause old.source new.source
WalkFails wanted base old new (Xml (Break at why)) =
    old.source.is_visible ≡ true →
    BreaksNext old new at why × (is_closed_ahead base old ≡ false)
    × (behind_start wanted (ahead old) ≡ None)
WalkFails wanted base old new (Xml (Unclosed at)) = ⊥
WalkFails wanted base old new (Xml (Entity at)) = ⊥
WalkFails wanted base old new OutOfMemory = ⊤
