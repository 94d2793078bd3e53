-- A package that tells its content and of which no call fails but for want of memory, as its reader
-- sees it.
use Rattle.std.specs.Prelude.{ℕ, List, Bool, true}
use Rattle.part_events.specs.Words.{Event, state_of, Part, PackageState}
use Rattle.input_package.specs.declared.input.Held.{Held}
use Rattle.input_package.specs.declared.input.Held.TheVariants.{Text, File}
use Rattle.workbook_file.specs.Contents.{file_state}

-- What a package tells: its parts, the events of the open part that were taken and those to come,
-- the event at hand, how many events the open part still gives at most, and how many were taken of
-- any part.
pub record Told : Type 0 where
  pub parts : List Part
  pub past : List Event
  pub rest : List Event
  pub current : Event
  pub has_current : Bool
  pub left : ℕ
  pub taken : ℕ

-- the state of a package that tells this, as its reader knows it
abbrev pub told_state : Told → PackageState
told_state held = record {
  is_visible = true;
  parts = held.parts;
  past = held.past;
  rest = held.rest;
  current = held.current;
  has_current = held.has_current;
  left = held.left;
  taken = held.taken;
  faults = 0;
  takes_memory = true;
}

-- what a package tells by its state
abbrev pub told_of : PackageState → Told
told_of state = record {
  parts = state.parts;
  past = state.past;
  rest = state.rest;
  current = state.current;
  has_current = state.has_current;
  left = state.left;
  taken = state.taken;
}

-- the state of the package that an input holds
abbrev pub held_state : Held → PackageState
held_state (Text held) = state_of held
held_state (File held) = file_state held
