-- A reader of a part: what it is to its caller, and what its calls do.
use Rattle.std.specs.Prelude.{◌≡◌, ⊤, ℕ, suc, ◌+◌, ◌-◌, ◌<◌, ◌≤◌, ◌^◌, List, [], ◌∷◌, ◌++◌, length}
use Rattle.std.specs.Prelude.{reverse, slice_get, Bool, true, false, Result, MatchResult, Option}
use Rattle.std.specs.Prelude.{Some, None, IsSomeAnd}
use Rattle.std.specs.declared.alloc.Global.{Global}
use Rattle.part_events.specs.Event.{Event, start, end, leaf, is_start, text, char_data, entity_ref}
use Rattle.part_events.specs.Event.{flaw, other}
use Rattle.part_events.specs.Nesting.{starts_in, ends_in, depth, open_name, IsWhole, whole_rest}
use Rattle.part_events.specs.Nesting.{whole}
use Rattle.part_events.specs.Package.{PackageState, HasCause, KeepsFaults, SameParts, IsClosed}
use Rattle.part_events.specs.Package.{CountsUp, LacksMemory}
use Rattle.part_events.specs.Section.{content, is_closed, behind}
use Rattle.part_events.specs.declared.fault.StreamError.{StreamError}
use Rattle.part_events.specs.declared.fault.StreamError.TheVariants.{Io, Xml, OutOfMemory}
use Rattle.part_events.specs.declared.fault.BreakCause.{BreakCause}
use Rattle.part_events.specs.declared.fault.BreakCause.TheVariants.{EndMismatch, Flawed}
use Rattle.part_events.specs.declared.fault.XmlFault.TheVariants.{Break, Unclosed, Entity}

-- what a reader is to its caller: its package, the names of the open elements, the innermost first,
-- how many events of the part it took, whether nothing can be read on, since no part was opened or
-- a call was refused, and its allocator
pub record Reading : Type 0 where
  pub source : PackageState
  pub names : List (List ℕ)
  pub at : ℕ
  pub is_failed : Bool
  pub alloc : Global

-- the events of the part that a reading has open
abbrev pub events_of : Reading → List Event
events_of r = reverse r.source.past ++ r.source.rest

-- what is ahead of a reader, up to the first end that breaks the nesting, or the first flaw
abbrev pub ahead : Reading → List Event
ahead r = whole_rest r.source.past r.source.rest

-- The reader stands where its package does: what was taken is whole, and the names are those of the
-- open elements.
pub record IsTracked (r : Reading) : Type 0 where
  pub at : r.at ≡ length r.source.past
  pub whole : IsWhole r.source.past
  pub names : (outside : ℕ) → open_name outside r.source.past ≡ slice_get r.names outside
  pub depth : length r.names + ends_in r.source.past ≡ starts_in r.source.past

-- a reader stands at the start of an element: that is the current event
pub record IsAtElement (r : Reading) : Type 0 where
  pub has_current : r.source.has_current ≡ true
  pub current : is_start r.source.current ≡ true

-- the reader may be read on
pub record IsReading (r : Reading) : Type 0 where
  pub going : r.is_failed ≡ false
  pub element : IsAtElement r → 0 < length r.names
  pub fits : r.at + r.source.left < 2 ^ 64
  pub tracked : r.source.is_visible ≡ true → IsTracked r

-- the reader stands at the start of an element, and may be read on
pub record IsReadingElement (r : Reading) : Type 0 where
  pub reading : IsReading r
  pub element : IsAtElement r

-- a reader that was just made stands before the first event of its part
pub record OpensReader (old : PackageState) (new : Reading) : Type 0 where
  pub reading : IsReading new
  pub parts : SameParts old new.source
  pub faults : new.source.faults ≡ old.faults
  pub taken : new.source.taken ≡ old.taken
  pub names : new.names ≡ []
  pub at : new.at ≡ 0
  pub past : old.is_visible ≡ true → new.source.past ≡ []

-- a part could not be opened: no part is open, and no event was taken
pub record LeavesClosed (old new : PackageState) : Type 0 where
  pub closed : IsClosed new
  pub taken : new.taken ≡ old.taken

-- why a part can't be opened: the package failed, which its count of faults tells, or there was no
-- memory for the part, which that count doesn't
abbrev pub OpenFails : PackageState → PackageState → StreamError → Type 0
OpenFails old new Io = HasCause old new
OpenFails old new (Xml fault) = ⊥
OpenFails old new OutOfMemory = LacksMemory old new

-- What every call keeps: the parts and the allocator are the same, the package's count of taken
-- events rose by those that were taken of the part, up to its last value, and no more were taken
-- than were left.
pub record MovesForward (old new : Reading) : Type 0 where
  pub parts : SameParts old.source new.source
  pub alloc : new.alloc ≡ old.alloc
  pub forward : old.at ≤ new.at
  pub taken : CountsUp (new.at - old.at) old.source.taken new.source.taken
  pub bounded : new.source.taken + new.source.left ≤ old.source.taken + old.source.left
  pub within :
      old.source.is_visible ≡ true →
      new.source.taken + length new.source.rest ≤ old.source.taken + length old.source.rest

-- two readings have the same events of their part, if its package tells its content
abbrev pub SamePart : Reading → Reading → Type 0
SamePart old new = old.source.is_visible ≡ true → events_of new ≡ events_of old

-- what every call of a reader keeps that isn't refused: the part may be read on, and no fault came
pub record StaysReadable (old new : Reading) : Type 0 where
  pub reading : IsReading new
  pub faults : new.source.faults ≡ old.source.faults
  pub left : new.at + new.source.left ≡ old.at + old.source.left
  pub part : SamePart old new

-- a call of a reader that isn't refused: it moves forward, and the part may be read on
pub record ReadsOn (old new : Reading) : Type 0 where
  pub moves : MovesForward old new
  pub stays : StaysReadable old new

-- a refused call: the part can't be read on, and `fault` alone may come with a higher count of
-- faults
pub record StopsReading {E : Type 0} (fault : E) (old new : Reading) (error : E) : Type 0 where
  pub moves : MovesForward old new
  pub faults : KeepsFaults fault old.source new.source error
  pub failed : new.is_failed ≡ true

-- a refused call that doesn't say whether the part can be read on
pub record LeavesPart {E : Type 0} (fault : E) (old new : Reading) (error : E) : Type 0 where
  pub moves : MovesForward old new
  pub faults : KeepsFaults fault old.source new.source error

-- what a call keeps that reads a part on, by its answer
abbrev pub ReadsPart : {A E : Type 0} → E → Result A E → Reading → Reading → Type 0
ReadsPart fault result old new =
    MatchResult result (λ _. ReadsOn old new) (LeavesPart fault old new)

-- what each call of a reader keeps, by its answer
abbrev pub Reads : {A E : Type 0} → E → Result A E → Reading → Reading → Type 0
Reads fault result old new = MatchResult result (λ _. ReadsOn old new) (StopsReading fault old new)

-- the names of the open elements behind an event
abbrev pub names_behind : Event → List (List ℕ) → List (List ℕ)
names_behind (start tag) names = tag.name ∷ names
names_behind (end name) [] = []
names_behind (end name) (first ∷ names) = names
names_behind (leaf kind) names = names

-- an event stands in open elements as it has to: an end needs one
abbrev pub IsEnclosed : Event → List (List ℕ) → Type 0
IsEnclosed (start tag) names = Unit {0}
IsEnclosed (end name) names = 0 < length names
IsEnclosed (leaf kind) names = Unit {0}

-- a step to the next event, whether the package tells its parts or not
pub record TakesEvent (old new : Reading) : Type 0 where
  pub has_current : new.source.has_current ≡ true
  pub names : new.names ≡ names_behind new.source.current old.names
  pub enclosed : IsEnclosed new.source.current old.names
  pub at : new.at ≡ old.at + 1
  pub left : old.source.left ≡ new.source.left + 1

-- a step stays at the end of the part, which has no further event
pub record StaysAtEnd (old new : Reading) : Type 0 where
  pub has_current : new.source.has_current ≡ false
  pub names : new.names ≡ old.names
  pub at : new.at ≡ old.at
  pub left : old.source.left ≡ new.source.left

-- what a step does: it takes an event, or it stays at the end of the part
abbrev pub Steps : Bool → Reading → Reading → Type 0
Steps true old new = TakesEvent old new
Steps false old new = StaysAtEnd old new

-- nothing is ahead of the reader, since the part has ended
pub record IsAtEnd (r : Reading) : Type 0 where
  pub rest : r.source.rest ≡ []

-- what a step does to the events ahead of a reader: it takes the first, or there is none
abbrev pub StepsAhead : Bool → Reading → Reading → Type 0
StepsAhead true old new = (ahead old ≡ new.source.current ∷ ahead new)
    × (new.source.past ≡ new.source.current ∷ old.source.past)
StepsAhead false old new = (ahead old ≡ []) × IsAtEnd new × (new.source.past ≡ old.source.past)

-- why an event breaks what it stands in, where it does: no start and no leaf but a flaw ever does
abbrev pub break_by : Event → Option BreakCause
break_by (start tag) = None
break_by (end name) = Some EndMismatch
break_by (leaf (text content)) = None
break_by (leaf (char_data content)) = None
break_by (leaf (entity_ref name)) = None
break_by (leaf (flaw why)) = Some (Flawed why)
break_by (leaf other) = None

-- event `at` of the part is the first that doesn't go on with those before it: an end that breaks
-- the nesting, or a flaw, as `why` says
pub record BreaksAt (events : List Event) (at : ℕ) (why : BreakCause) : Type 0 where
  pub before : length (whole events) ≡ at
  pub breaks : at < length events
  pub cause : IsSomeAnd (slice_get events at) (λ event. break_by event ≡ Some why)

-- a call was refused at event `at` of the same part, which breaks what it stands in
abbrev pub BreaksNext : Reading → Reading → ℕ → BreakCause → Type 0
BreaksNext old new at why = (events_of new ≡ events_of old) × BreaksAt (events_of new) at why

-- when a step is refused; want of memory may come at any time
abbrev pub NextFails : Reading → Reading → StreamError → Type 0
NextFails old new Io = HasCause old.source new.source
NextFails old new (Xml (Break at why)) =
    old.source.is_visible ≡ true → BreaksNext old new at why × (ahead old ≡ [])
NextFails old new (Xml (Unclosed at)) = ⊥
NextFails old new (Xml (Entity at)) = ⊥
NextFails old new OutOfMemory = ⊤

-- the part ends inside an element, and has `at` events
pub record EndsOpen (events : List Event) (at : ℕ) : Type 0 where
  pub whole : whole events ≡ events
  pub size : length events ≡ at
  pub element : 0 < depth (reverse events)

-- what is taken of an element is the rest of it, up to its match
pub record Skips (old new : Reading) : Type 0 where
  pub closed : is_closed 0 (ahead old) ≡ true
  pub size : new.at ≡ old.at + suc (length (content 0 (ahead old)))
  pub ahead : ahead new ≡ behind 0 (ahead old)

-- an element was read to its end
pub record PassesElement (old new : Reading) : Type 0 where
  pub reads : ReadsOn old new
  pub depth : length old.names ≡ suc (length new.names)
  pub skips : old.source.is_visible ≡ true → Skips old new

-- what a call keeps that reads an element to its end, by its answer
abbrev pub ReadsElement : {A E : Type 0} → E → Result A E → Reading → Reading → Type 0
ReadsElement fault result old new =
    MatchResult result (λ _. PassesElement old new) (LeavesPart fault old new)

-- when an element can't be skipped
abbrev pub SkipFails : Reading → Reading → StreamError → Type 0
SkipFails old new Io = HasCause old.source new.source
SkipFails old new (Xml (Break at why)) =
    old.source.is_visible ≡ true → BreaksNext old new at why × (is_closed 0 (ahead old) ≡ false)
SkipFails old new (Xml (Unclosed at)) =
    old.source.is_visible ≡ true →
    (events_of new ≡ events_of old) × EndsOpen (events_of new) at
    × (is_closed 0 (ahead old) ≡ false)
SkipFails old new (Xml (Entity at)) = ⊥
SkipFails old new OutOfMemory = ⊤
