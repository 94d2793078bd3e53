-- A package of parts, as its reader sees it.
use Rattle.std.specs.Prelude.{◌≡◌, ℕ, ◌+◌, ◌-◌, ◌≤◌, ◌^◌, min, List, [], ◌∷◌, length, map, Bool}
use Rattle.std.specs.Prelude.{true, false, ◌==◌, if◌then◌else◌, Option, Some, None, Result}
use Rattle.std.specs.Prelude.{MatchResult}
use Rattle.std.specs.Option.{option_map_or}
use Rattle.std.specs.Char.{to_ascii_lowercase}
use Rattle.std.specs.Str.{bytes_eq}
use Rattle.part_events.specs.Event.{Event}
use Rattle.part_events.specs.declared.package.PackageError.{PackageError}
use Rattle.part_events.specs.declared.package.PackageError.TheVariants.{Failed, OutOfMemory}

-- a named list of events
pub record Part : Type 0 where
  pub name : List ℕ
  pub events : List Event

-- a name as it is compared: ASCII letters in lower case, and `\` read as `/`
abbrev pub folded_byte : ℕ → ℕ
folded_byte byte = if byte == 92 then 47 else to_ascii_lowercase byte

-- a name with its bytes folded, as names of parts are compared
abbrev pub folded : List ℕ → List ℕ
folded name = map folded_byte name

-- a part has this name, in letters of either case and with either slash
abbrev pub has_name : List ℕ → Part → Bool
has_name name part = bytes_eq (folded part.name) (folded name)

-- the events of the first part of this name
abbrev pub part_of : List Part → List ℕ → Option (List Event)
part_of [] name = None
part_of (part ∷ parts) name = if has_name name part then Some part.events else part_of parts name

-- What a package is to its reader. Where it doesn't tell its content, only the last six fields
-- mean something.
pub record PackageState : Type 0 where
  pub is_visible : Bool
  pub parts : List Part
  -- the events of the open part that were taken, the latest first, and those to come
  pub past : List Event
  pub rest : List Event
  pub current : Event
  pub has_current : Bool
  -- how many events the open part still gives, at most
  pub left : ℕ
  -- how many events were taken of any part, up to the last value of the count
  pub taken : ℕ
  pub faults : ℕ
  -- a call may be refused for want of memory
  pub takes_memory : Bool

-- a count of 64 bits rose, or stands at its end
abbrev pub RisesByOne : ℕ → ℕ → Type 0
RisesByOne old new = min (old + 1) (2 ^ 64 - 1) ≤ new

-- a count of 64 bits didn't fall
abbrev pub NeverFalls : ℕ → ℕ → Type 0
NeverFalls old new = min old (2 ^ 64 - 1) ≤ new

-- a count of 64 bits rose by so many, up to its end
abbrev pub CountsUp : ℕ → ℕ → ℕ → Type 0
CountsUp more old new = min new (2 ^ 64 - 1) ≡ min (old + more) (2 ^ 64 - 1)

-- the count of faults rose, or stands at its end
abbrev pub HasCause : PackageState → PackageState → Type 0
HasCause old new = RisesByOne old.faults new.faults

-- a refusal leaves the count of faults as it was, but that of a fault
abbrev pub KeepsFaults : {E : Type 0} → E → PackageState → PackageState → E → Type 0
KeepsFaults fault old new error = (error ≡ fault → ⊥) → new.faults ≡ old.faults

-- what no call on a package changes: its parts, whether it tells them, and whether its calls take
-- memory; faults don't get fewer
pub record SameParts (old new : PackageState) : Type 0 where
  pub is_visible : new.is_visible ≡ old.is_visible
  pub parts : new.parts ≡ old.parts
  pub faults : old.faults ≤ new.faults
  pub takes_memory : new.takes_memory ≡ old.takes_memory

-- no part of a package is open
pub record IsClosed (state : PackageState) : Type 0 where
  pub past : state.past ≡ []
  pub rest : state.rest ≡ []
  pub has_current : state.has_current ≡ false
  pub left : state.left ≡ 0

-- no memory was left for a call of a package that takes some; its count of faults stays
pub record LacksMemory (old new : PackageState) : Type 0 where
  pub faults : new.faults ≡ old.faults
  pub takes_memory : new.takes_memory ≡ true

-- why a call may be refused: the package failed, which its count of faults tells, or there was no
-- memory, which that count doesn't
abbrev pub MayRefuse : PackageState → PackageState → PackageError → Type 0
MayRefuse old new Failed = HasCause old new
MayRefuse old new OutOfMemory = LacksMemory old new

-- a refused call: no part is open, and no event was taken
pub record Refuses (old new : PackageState) (error : PackageError) : Type 0 where
  pub cause : MayRefuse old new error
  pub closed : IsClosed new
  pub taken : new.taken ≡ old.taken

-- an answer of `open`: where the part is found, the cursor stands before its first event
pub record Opens (name : List ℕ) (found : Bool) (old new : PackageState) : Type 0 where
  pub part : part_of old.parts name ≡ (if found then Some new.rest else None)
  pub past : new.past ≡ []

-- what an answer of `open` does, whether the package tells its parts or not
pub record OpenCounts (found : Bool) (old new : PackageState) : Type 0 where
  pub has_current : new.has_current ≡ false
  pub absent : found ≡ false → IsClosed new
  pub taken : new.taken ≡ old.taken
  pub faults : new.faults ≡ old.faults

-- an answer of `advance`: the next event, or the part's end
abbrev pub Advances : Bool → PackageState → PackageState → Type 0
Advances true old new = (old.rest ≡ new.current ∷ new.rest) × (new.past ≡ new.current ∷ old.past)
Advances false old new = (old.rest ≡ []) × (new.rest ≡ []) × (new.past ≡ old.past)

-- the counts after an answer of `advance`
pub record AdvanceCounts (more : Bool) (old new : PackageState) : Type 0 where
  pub has_current : new.has_current ≡ more
  pub left : old.left ≡ (if more then new.left + 1 else new.left)
  pub taken : new.taken ≡ (if more then min (old.taken + 1) (2 ^ 64 - 1) else old.taken)
  pub faults : new.faults ≡ old.faults

-- how many events the first part of a name has
abbrev pub event_count : List Part → List ℕ → ℕ
event_count parts name = option_map_or length (part_of parts name) 0

-- a call on a package that isn't refused, in which at most `most` events are taken
pub record UsesPackage (most : ℕ) (old new : PackageState) : Type 0 where
  pub parts : SameParts old new
  pub faults : new.faults ≡ old.faults
  pub forward : NeverFalls old.taken new.taken
  pub taken : old.is_visible ≡ true → new.taken ≤ old.taken + most

-- a refused call on a package: `fault` alone may come with a higher count of faults
pub record LeavesPackage {E : Type 0} (most : ℕ) (fault : E) (old new : PackageState)
    (error : E) : Type 0 where
  pub parts : SameParts old new
  pub faults : KeepsFaults fault old new error
  pub forward : NeverFalls old.taken new.taken
  pub taken : old.is_visible ≡ true → new.taken ≤ old.taken + most

-- what each call on a package keeps, by its answer
abbrev pub Uses : {A E : Type 0} → ℕ → E → Result A E → PackageState → PackageState → Type 0
Uses most fault result old new =
    MatchResult result (λ _. UsesPackage most old new) (LeavesPackage most fault old new)
