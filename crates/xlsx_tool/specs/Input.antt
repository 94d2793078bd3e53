-- Reading a source to its end.
use Rattle.std.specs.Prelude.{◌≡◌, ℕ, ◌+◌, ◌<◌, ◌≤◌, List, [], ◌++◌, length, take, Bool, true}
use Rattle.std.specs.Prelude.{false}
use Rattle.input_package.specs.Reading.{begins_as_file, longest, longest_input}
use Rattle.part_events.specs.Words.{RisesByOne}
use Rattle.xlsx_tool.specs.Source.{SourceState}
use Rattle.xlsx_commands.specs.declared.error.ToolError.{ToolError}
use Rattle.xlsx_commands.specs.declared.error.ToolError.TheVariants.{ReadFault, InputTooLarge}
use Rattle.xlsx_commands.specs.declared.error.ToolError.TheVariants.{FileTooLarge, OutOfMemory}

-- the whole input was read, and is these bytes
pub record InputRead (bytes : List ℕ) (old new : SourceState) : Type 0 where
  pub fits : length bytes ≤ longest_input bytes
  pub faults : new.faults ≡ old.faults
  pub whole : old.is_visible ≡ true → (old.left ≡ bytes) × (new.left ≡ [])

-- one byte more was taken than an input may have that begins so, as a file or as none
pub record TookTooMany (is_file : Bool) (old new : SourceState) : Type 0 where
  pub taken : List ℕ
  pub begins : begins_as_file taken ≡ is_file
  pub many : length taken ≡ longest is_file + 1
  pub from : old.left ≡ taken ++ new.left

-- no fault came, and more bytes than the limit were taken
pub record PastLimit (is_file : Bool) (old new : SourceState) : Type 0 where
  pub faults : new.faults ≡ old.faults
  pub took : old.is_visible ≡ true → TookTooMany is_file old new

-- why the input was not read
abbrev pub InputFails : SourceState → SourceState → ToolError → Type 0
InputFails old new ReadFault = RisesByOne old.faults new.faults
InputFails old new InputTooLarge = PastLimit false old new
InputFails old new FileTooLarge = PastLimit true old new
InputFails old new OutOfMemory = new.faults ≡ old.faults
InputFails old new _ = ⊥

-- A piece was read, with room for this many bytes: bytes were appended that were left before, or
-- nothing was left.
abbrev pub PieceRead : ℕ → List ℕ → List ℕ → SourceState → SourceState → Bool → Type 0
PieceRead room before after old new true =
    (new.is_visible ≡ old.is_visible) × (new.faults ≡ old.faults)
    × (length before < length after) × (length after ≤ length before + room)
    × (take (length before) after ≡ before)
    × (old.is_visible ≡ true → before ++ old.left ≡ after ++ new.left)
PieceRead room before after old new false =
    (new.faults ≡ old.faults) × (after ≡ before)
    × (old.is_visible ≡ true → (old.left ≡ []) × (new.left ≡ []))

-- why a piece of the input is not read, and how many faults it counts
abbrev pub PieceFails : SourceState → SourceState → ToolError → Type 0
PieceFails old new ReadFault = RisesByOne old.faults new.faults
PieceFails old new OutOfMemory = new.faults ≡ old.faults
PieceFails old new _ = ⊥
