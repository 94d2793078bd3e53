-- What a run of the program answers, and when.
use Rattle.std.specs.Prelude.{◌≡◌, ◌≢◌, ◌↔◌, Result, Err, IsOk, ℕ, ◌≤◌, List, [], ◌++◌, length}
use Rattle.std.specs.Prelude.{true, false, Bool, Option, Some, None, is_some}
use Rattle.part_events.specs.Words.{Part, RisesByOne}
use Rattle.xlsx_commands.specs.Words.{Request, request_of, request_parts, IsAnswer, AnswerCause}
use Rattle.xlsx_commands.specs.Words.{HasAnswer}
use Rattle.xlsx_tool.specs.Input.{PastLimit}
use Rattle.input_package.specs.Reading.{IsFaultyFile, IsNoText, longest_input, package_of_input}
use Rattle.xlsx_tool.specs.Sink.{SinkState}
use Rattle.xlsx_tool.specs.Source.{SourceState}
use Rattle.xlsx_commands.specs.declared.error.ToolError.{ToolError}
use Rattle.xlsx_commands.specs.declared.error.ToolError.TheVariants.{Usage, ReadFault}
use Rattle.xlsx_commands.specs.declared.error.ToolError.TheVariants.{InputTooLarge, FileTooLarge}
use Rattle.xlsx_commands.specs.declared.error.ToolError.TheVariants.{NotAPackage, NotAWorkbookFile}
use Rattle.xlsx_commands.specs.declared.error.ToolError.TheVariants.{WriteFault, OutOfMemory}

-- the source and the sink of a run
pub record Streams : Type 0 where
  pub source : SourceState
  pub sink : SinkState

-- neither count of faults changed
pub record NoFaults (old new : Streams) : Type 0 where
  pub source_faults : new.source.faults ≡ old.source.faults
  pub sink_faults : new.sink.faults ≡ old.sink.faults

-- the input is a package of these parts
pub record Spells (input : List ℕ) (parts : List Part) : Type 0 where
  pub fits : length input ≤ longest_input input
  pub spelled : package_of_input input ≡ Some parts

-- the words are no command, or one that reads no input
abbrev pub reads_nothing : Option Request → Bool
reads_nothing None = true
reads_nothing (Some request) = is_some (request_parts request)

-- the source tells what a command needs of it, where it has these parts of its own
abbrev pub TellsInput : Option (List Part) → SourceState → Type 0
TellsInput (Some own) source = Unit {0}
TellsInput None source = source.is_visible ≡ true

-- these are the parts of the package that a command works on: its own, or those of the input
abbrev pub GivesParts : Option (List Part) → SourceState → List Part → Type 0
GivesParts (Some own) source parts = parts ≡ own
GivesParts None source parts = Spells source.left parts

-- these are the parts of the package that a command works on, and nothing is left of the input that
-- it reads
abbrev pub IsFed : Option (List Part) → List Part → SourceState → SourceState → Type 0
IsFed (Some own) parts old new = (parts ≡ own) × (new ≡ old)
IsFed None parts old new = Spells old.left parts × (new.left ≡ [])

-- the package that a command works on was had
pub record PackageFed (request : Request) (parts : List Part) (old new : SourceState) : Type 0 where
  pub faults : new.faults ≡ old.faults
  pub fed : TellsInput (request_parts request) old → IsFed (request_parts request) parts old new

-- the output of the command was had, and nothing is left of what it reads
pub record AnswerRead (request : Request) (output : List ℕ) (old new : SourceState) : Type 0 where
  pub parts : List Part
  pub is_output : IsAnswer request parts output
  pub fed : PackageFed request parts old new

-- all bytes of an output were written
pub record IsSent (bytes : List ℕ) (old new : SinkState) : Type 0 where
  pub faults : new.faults ≡ old.faults
  pub written : old.is_visible ≡ true → new.written ≡ old.written ++ bytes

-- a front of the bytes was written
pub record FrontSent (bytes : List ℕ) (old new : SinkState) : Type 0 where
  pub front : List ℕ
  pub behind : List ℕ
  pub whole : bytes ≡ front ++ behind
  pub written : old.is_visible ≡ true → new.written ≡ old.written ++ front

-- a run that answers Ok
pub record Succeeds (words : List (List ℕ)) (old new : Streams) : Type 0 where
  pub request : Request
  pub asked : request_of words ≡ Some request
  pub faults : NoFaults old new
  pub output : List ℕ
  pub reads : AnswerRead request output old.source new.source
  pub written : old.sink.is_visible ≡ true → new.sink.written ≡ old.sink.written ++ output

-- no fault came, and the input fits and is no package, for a cause
pub record HasNoPackage (why : List ℕ → Type 0) (old new : SourceState) : Type 0 where
  pub faults : new.faults ≡ old.faults
  pub fits : old.is_visible ≡ true → length old.left ≤ longest_input old.left
  pub cause : old.is_visible ≡ true → why old.left

-- the command works on a package in which this refusal has its cause
pub record HasAnswerCause (request : Request) (source : SourceState) (error : ToolError)
    : Type 0 where
  pub parts : List Part
  pub cause : AnswerCause request parts error
  pub fed :
      TellsInput (request_parts request) source → GivesParts (request_parts request) source parts

-- why what a command works on was not had
abbrev pub FeedingFails : Request → SourceState → SourceState → ToolError → Type 0
FeedingFails request old new ReadFault =
    (request_parts request ≡ None) × RisesByOne old.faults new.faults
FeedingFails request old new InputTooLarge =
    (request_parts request ≡ None) × PastLimit false old new
FeedingFails request old new FileTooLarge =
    (request_parts request ≡ None) × PastLimit true old new
FeedingFails request old new NotAPackage =
    (request_parts request ≡ None) × HasNoPackage IsNoText old new
FeedingFails request old new (NotAWorkbookFile fault) =
    (request_parts request ≡ None) × HasNoPackage (λ bytes. IsFaultyFile bytes fault) old new
FeedingFails request old new OutOfMemory = new.faults ≡ old.faults
FeedingFails request old new _ = ⊥

-- why the output of a command was not had
abbrev pub ReadingFails : Request → SourceState → SourceState → ToolError → Type 0
ReadingFails request old new ReadFault = FeedingFails request old new ReadFault
ReadingFails request old new InputTooLarge = FeedingFails request old new InputTooLarge
ReadingFails request old new FileTooLarge = FeedingFails request old new FileTooLarge
ReadingFails request old new NotAPackage = FeedingFails request old new NotAPackage
ReadingFails request old new (NotAWorkbookFile fault) =
    FeedingFails request old new (NotAWorkbookFile fault)
ReadingFails request old new OutOfMemory = new.faults ≡ old.faults
ReadingFails request old new error = (new.faults ≡ old.faults) × HasAnswerCause request old error

-- a command that was refused before anything was written
pub record RefusesRequest
    (words : List (List ℕ)) (old new : Streams) (error : ToolError) : Type 0 where
  pub request : Request
  pub asked : request_of words ≡ Some request
  pub sink_faults : new.sink.faults ≡ old.sink.faults
  pub cause : ReadingFails request old.source new.source error

-- a command whose output was not written whole: what was written is a front of it
pub record RefusesOutput (words : List (List ℕ)) (old new : Streams) : Type 0 where
  pub request : Request
  pub asked : request_of words ≡ Some request
  pub cause : RisesByOne old.sink.faults new.sink.faults
  pub output : List ℕ
  pub reads : AnswerRead request output old.source new.source
  pub front : FrontSent output old.sink new.sink

-- when a run answers each refusal
abbrev pub RefusesRun : List (List ℕ) → Streams → Streams → ToolError → Type 0
RefusesRun words old new Usage = (request_of words ≡ None) × NoFaults old new
RefusesRun words old new WriteFault = RefusesOutput words old new
RefusesRun words old new error = RefusesRequest words old new error

-- Of a command on a package of these parts: it answers Ok exactly where the package has an output
-- for it, unless memory, the source or the sink fails it.
pub record AnswersExactly
    (words : List (List ℕ)) (source : SourceState) (result : Result (Unit {0}) ToolError)
    : Type 0 where
  pub exactly :
      (request : Request) (parts : List Part) → request_of words ≡ Some request
      → TellsInput (request_parts request) source → GivesParts (request_parts request) source parts
      → result ≢ Err OutOfMemory → result ≢ Err ReadFault → result ≢ Err WriteFault
      → IsOk result ↔ HasAnswer request parts

-- ---- the steps of a run

-- why an input is no package, or memory is wanting
abbrev pub NoPackage : List ℕ → ToolError → Type 0
NoPackage bytes NotAPackage = IsNoText bytes
NoPackage bytes (NotAWorkbookFile fault) = IsFaultyFile bytes fault
NoPackage bytes OutOfMemory = Unit {0}
NoPackage bytes _ = ⊥

-- why bytes are not written, and what was written of them
abbrev pub SendFails : List ℕ → SinkState → SinkState → ToolError → Type 0
SendFails bytes old new WriteFault = RisesByOne old.faults new.faults × FrontSent bytes old new
SendFails bytes old new _ = ⊥
