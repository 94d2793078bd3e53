-- What is read of the parts of a package, as data.
use Rattle.std.specs.Prelude.{◌≡◌, ◌⊎◌, ⊤, ℕ, ◌+◌, List, [], ◌∷◌, ◌++◌, flat_map, Option, Some}
use Rattle.std.specs.Prelude.{None, option_map, option_and_then, MatchOption}
use Rattle.std.specs.List.{sum_by}
use Rattle.std.specs.Option.{option_map_or}
use Rattle.part_events.specs.Words.{Event, Part, part_of}
use Rattle.xlsx_error.specs.declared.error.XlsxError.{XlsxError}
use Rattle.xlsx_sections.specs.Words.{Ask}
use Rattle.xlsx_parts.specs.Words.{all_said, SomeCause}

-- what is asked of one part, which may be absent
pub record PartAsk (A : Type 0) : Type 1 where
  -- how many of its events are taken at most, and how many where nothing is refused
  pub most : Option (List Event) → ℕ
  pub exact : Option (List Event) → ℕ
  -- what it says, and why it says nothing
  pub said : Option (List Event) → Option A
  pub cause : Option (List Event) → XlsxError → Type 0
  -- what is said has no cause
  pub sound :
      (events : Option (List Event)) (own : A) (error : XlsxError) → said events ≡ Some own →
      cause events error → ⊥

-- a reading of the parts of a package
pub data Look : Type 0 → Type 1 where
  -- this is known without a look, or refused without one
  says : {A : Type 0} → A → Look A
  refuses : {A : Type 0} → (XlsxError → Type 0) → Look A
  -- what the part at a path says
  asks : {A : Type 0} → List ℕ → PartAsk A → Look A
  -- another look behind the first, by what that says
  and_then : {A B : Type 0} → Look A → (A → Look B) → Look B
  -- both, put together
  both : {A B C : Type 0} → (A → B → C) → Look A → Look B → Look C
  -- one for each of these, one behind the other
  for_each : {X A : Type 0} → (X → Look (List A)) → List X → Look (List A)
  -- what is said, put in another way
  mapped : {A B : Type 0} → (A → B) → Look A → Look B

-- what two looks say, put together
abbrev pub paired_said : {A B C : Type 0} → (A → B → C) → Option A → Option B → Option C
paired_said f None second = None
paired_said f (Some a) second = option_map (f a) second

-- what the parts of a package say by a look
abbrev pub look_said : {A : Type 0} → Look A → List Part → Option A
look_said (says a) parts = Some a
look_said (refuses cause) parts = None
look_said (asks path ask) parts = ask.said (part_of parts path)
look_said (and_then {A = A} first next) parts =
    option_and_then (λ (a : A). look_said (next a) parts) (look_said first parts)
look_said (both f first second) parts =
    paired_said f (look_said first parts) (look_said second parts)
look_said (for_each {X = X} look xs) parts = all_said (λ (x : X). look_said (look x) parts) xs
look_said (mapped f look) parts = option_map f (look_said look parts)

-- why they say nothing
abbrev pub LookCause : {A : Type 0} → Look A → List Part → XlsxError → Type 0
LookCause (says a) parts error = ⊥
LookCause (refuses cause) parts error = cause error
LookCause (asks path ask) parts error = ask.cause (part_of parts path) error
LookCause (and_then {A = A} first next) parts error =
    LookCause first parts error
    ⊎ MatchOption (look_said first parts) ⊥ (λ (a : A). LookCause (next a) parts error)
LookCause (both f first second) parts error =
    LookCause first parts error ⊎ LookCause second parts error
LookCause (for_each {X = X} look xs) parts error =
    SomeCause (λ (x : X). LookCause (look x) parts) xs error
LookCause (mapped f look) parts error = LookCause look parts error

-- how many events are taken at most
abbrev pub look_most : {A : Type 0} → Look A → List Part → ℕ
look_most (says a) parts = 0
look_most (refuses cause) parts = 0
look_most (asks path ask) parts = ask.most (part_of parts path)
look_most (and_then {A = A} first next) parts =
    look_most first parts
    + option_map_or (λ (a : A). look_most (next a) parts) (look_said first parts) 0
look_most (both f first second) parts = look_most first parts + look_most second parts
look_most (for_each {X = X} look xs) parts = sum_by (λ (x : X). look_most (look x) parts) xs
look_most (mapped f look) parts = look_most look parts

-- how many events are taken where nothing is refused
abbrev pub look_exact : {A : Type 0} → Look A → List Part → ℕ
look_exact (says a) parts = 0
look_exact (refuses cause) parts = 0
look_exact (asks path ask) parts = ask.exact (part_of parts path)
look_exact (and_then {A = A} first next) parts =
    look_exact first parts
    + option_map_or (λ (a : A). look_exact (next a) parts) (look_said first parts) 0
look_exact (both f first second) parts = look_exact first parts + look_exact second parts
look_exact (for_each {X = X} look xs) parts = sum_by (λ (x : X). look_exact (look x) parts) xs
look_exact (mapped f look) parts = look_exact look parts

-- the paths of the parts that are looked up
abbrev pub look_paths : {A : Type 0} → Look A → List Part → List (List ℕ)
look_paths (says a) parts = []
look_paths (refuses cause) parts = []
look_paths (asks path ask) parts = path ∷ []
look_paths (and_then {A = A} first next) parts =
    look_paths first parts
    ++ option_map_or (λ (a : A). look_paths (next a) parts) (look_said first parts) []
look_paths (both f first second) parts = look_paths first parts ++ look_paths second parts
look_paths (for_each {X = X} look xs) parts = flat_map (λ (x : X). look_paths (look x) parts) xs
look_paths (mapped f look) parts = look_paths look parts

-- what a call asks that reads by a look, with refusals of this kind
abbrev pub look_ask : {A : Type 0} → (XlsxError → Type 0) → Look A → Ask A
look_ask kind look = record {
  most = λ parts. look_most look parts;
  exact = λ parts. look_exact look parts;
  said = λ parts. look_said look parts;
  cause = λ parts. LookCause look parts;
  kind = kind;
}

-- two packages have the same parts at these paths
abbrev pub HaveSameAt : List Part → List Part → List (List ℕ) → Type 0
HaveSameAt one two [] = ⊤
HaveSameAt one two (path ∷ paths) =
    (part_of one path ≡ part_of two path) × HaveSameAt one two paths

-- two packages have the same parts where a look goes
abbrev pub HaveSameLook : {A : Type 0} → Look A → List Part → List Part → Type 0
HaveSameLook look one two = HaveSameAt one two (look_paths look one)
