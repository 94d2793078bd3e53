-- A run, from what its steps give.
use Rattle.std.proofs.Common.{◌≡◌, ℕ, List, ◌++◌, length, take, drop, refl, sym, ◌∙◌, ap, subst}
use Rattle.std.proofs.Common.{append_assoc, inl, inr, true≢false, true, false, arith, Option, Some}
use Rattle.std.proofs.Common.{None, Bool, ◌≤◌}
use Rattle.std.specs.Prelude.{◌≢◌, Result, Ok, Err, IfErr, OnOk}
use Rattle.std.proofs.lemmas.List.{take-append-drop, length-append}
use Rattle.part_events.specs.Words.{Part}
use Rattle.xlsx_commands.specs.Words.{ChoiceCause, Command, OutputCause, Request, request_of}
use Rattle.xlsx_commands.specs.Words.{request_parts, told, chosen, asked_of_sheet, IsAnswer}
use Rattle.xlsx_commands.specs.Words.{AnswerCause, AnswerFails, HasAnswer}
use Rattle.input_package.specs.Reading.{begins_as_file, longest, package_of_input}
use Rattle.xlsx_tool.specs.Input.{PastLimit}
use Rattle.xlsx_tool.proofs.InputLemmas.{begin_alike, limit_by}
use Rattle.xlsx_tool.specs.Run.{Streams, Spells, Succeeds, HasAnswerCause, TellsInput, GivesParts}
use Rattle.xlsx_tool.specs.Run.{IsFed, PackageFed, FeedingFails, AnswerRead, ReadingFails}
use Rattle.xlsx_tool.specs.Run.{RefusesRun, AnswersExactly}
use Rattle.xlsx_tool.specs.Source.{SourceState}
use Rattle.xlsx_commands.specs.declared.error.ToolError.{ToolError}
use Rattle.xlsx_commands.specs.declared.sheet_choice.SheetChoice.{SheetChoice}
use Rattle.xlsx_commands.specs.declared.error.ToolError.TheVariants.{Usage, ReadFault}
use Rattle.xlsx_commands.specs.declared.error.ToolError.TheVariants.{InputTooLarge, FileTooLarge}
use Rattle.xlsx_commands.specs.declared.error.ToolError.TheVariants.{NotAPackage, NotAWorkbookFile}
use Rattle.xlsx_commands.specs.declared.error.ToolError.TheVariants.{Workbook, WriteFault}
use Rattle.xlsx_commands.specs.declared.error.ToolError.TheVariants.{OutOfMemory, BoxTooLarge}
use Rattle.xlsx_commands.specs.declared.error.ToolError.TheVariants.{Unwritable, NotChosen}
use Rattle.xlsx_commands.specs.declared.error.ToolError.TheVariants.{NoHeader, TwoColumns}
use Rattle.xlsx_commands.specs.declared.error.ToolError.TheVariants.{GraphTooLarge}

-- ---- the output of a command on what a source spells

given_by :
    (own : Option (List Part)) (parts : List Part) (old new : SourceState)
    → IsFed own parts old new → GivesParts own old parts
given_by (Some own) parts old new fed = fed.0
given_by None parts old new fed = fed.0

-- no answer is refused for what refuses no output and no choice
never_answered :
    (request : Request) (parts : List Part) (error : ToolError)
    → ((command : Command) → OutputCause command parts error → ⊥)
    → ((choice : SheetChoice) → ChoiceCause choice parts error → ⊥)
    → AnswerCause request parts error → ⊥
never_answered (told command) parts error outputs choices cause = outputs command cause
never_answered (chosen choice command) parts error outputs choices (inl cause) =
    choices choice cause
never_answered (chosen choice command) parts error outputs choices (inr (name, chooses, cause)) =
    outputs (asked_of_sheet name command) cause

pub from_output :
    (request : Request) (parts : List Part) (old new : SourceState) (error : ToolError)
    → PackageFed request parts old new → AnswerFails request parts error
    → ReadingFails request old new error
from_output request parts old new (Workbook error) feeds fails = (
  feeds.faults,
  record {
    parts = parts;
    cause = fails;
    fed = λ tells. given_by (request_parts request) parts old new (feeds.fed tells);
  },
)
from_output request parts old new OutOfMemory feeds fails = feeds.faults
from_output request parts old new BoxTooLarge feeds fails = (
  feeds.faults,
  record {
    parts = parts;
    cause = fails;
    fed = λ tells. given_by (request_parts request) parts old new (feeds.fed tells);
  },
)
from_output request parts old new GraphTooLarge feeds fails = (
  feeds.faults,
  record {
    parts = parts;
    cause = fails;
    fed = λ tells. given_by (request_parts request) parts old new (feeds.fed tells);
  },
)
from_output request parts old new Unwritable feeds fails = (
  feeds.faults,
  record {
    parts = parts;
    cause = fails;
    fed = λ tells. given_by (request_parts request) parts old new (feeds.fed tells);
  },
)
from_output request parts old new NoHeader feeds fails = (
  feeds.faults,
  record {
    parts = parts;
    cause = fails;
    fed = λ tells. given_by (request_parts request) parts old new (feeds.fed tells);
  },
)
from_output request parts old new (TwoColumns key) feeds fails = (
  feeds.faults,
  record {
    parts = parts;
    cause = fails;
    fed = λ tells. given_by (request_parts request) parts old new (feeds.fed tells);
  },
)
from_output request parts old new (NotChosen fault) feeds fails = (
  feeds.faults,
  record {
    parts = parts;
    cause = fails;
    fed = λ tells. given_by (request_parts request) parts old new (feeds.fed tells);
  },
)
from_output request parts old new Usage feeds fails =
    absurd (never_answered request parts Usage (λ command cause. cause) (λ choice cause. cause)
    fails)
from_output request parts old new ReadFault feeds fails =
    absurd (never_answered request parts ReadFault (λ command cause. cause) (λ choice cause. cause)
    fails)
from_output request parts old new InputTooLarge feeds fails =
    absurd (never_answered request parts InputTooLarge (λ command cause. cause) (λ choice cause.
    cause) fails)
from_output request parts old new FileTooLarge feeds fails =
    absurd (never_answered request parts FileTooLarge (λ command cause. cause) (λ choice cause.
    cause) fails)
from_output request parts old new NotAPackage feeds fails =
    absurd (never_answered request parts NotAPackage (λ command cause. cause) (λ choice cause.
    cause) fails)
from_output request parts old new (NotAWorkbookFile fault) feeds fails =
    absurd (never_answered request parts (NotAWorkbookFile fault) (λ command cause. cause) (λ choice
    cause. cause) fails)
from_output request parts old new WriteFault feeds fails =
    absurd (never_answered request parts WriteFault (λ command cause. cause) (λ choice cause. cause)
    fails)

-- ---- the sink

-- a piece more was written
pub front_more :
    (bytes front rest : List ℕ) (count : ℕ)
    → bytes ≡ front ++ rest → bytes ≡ (front ++ take count rest) ++ drop count rest
front_more bytes front rest count joined =
    joined ∙ ap (λ (xs : List ℕ). front ++ xs) (sym (take-append-drop count rest))
    ∙ sym (append_assoc front (take count rest) (drop count rest))

pub written_more :
    (before now after front piece : List ℕ)
    → now ≡ before ++ front → after ≡ now ++ piece → after ≡ before ++ (front ++ piece)
written_more before now after front piece first second =
    second ∙ ap (λ (xs : List ℕ). xs ++ piece) first ∙ append_assoc before front piece

-- ---- exactly when

some_of : {A : Type 0} → A → Option A → A
some_of fallback (Some x) = x
some_of fallback None = fallback

none_or : {A : Type 0} → Option A → Type 0
none_or None = ⊥
none_or (Some x) = Unit {0}

not_some : {A : Type 0} (x : A) (found : Option A) → found ≡ Some x → found ≡ None → ⊥
unfolding none_or
not_some x found some none = subst none_or (sym some ∙ none) tt

same_some : {A : Type 0} (x y : A) (found : Option A) → found ≡ Some x → found ≡ Some y → x ≡ y
unfolding some_of
same_some x y found first second = ap (some_of x) (sym first ∙ second)

-- an output and a cause of a refusal exclude each other
abbrev pub NeverBoth : Type 0
NeverBoth =
    (request : Request) (parts : List Part) (output : List ℕ) (error : ToolError)
    → IsAnswer request parts output → AnswerCause request parts error → ⊥

-- the words are a command on a package of these parts
record IsRequest
    (words : List (List ℕ)) (source : SourceState) (request : Request) (parts : List Part)
    : Type 0 where
  asked : request_of words ≡ Some request
  tells : TellsInput (request_parts request) source
  gives : GivesParts (request_parts request) source parts

same_package :
    (own : Option (List Part)) (source : SourceState) (parts others : List Part)
    → GivesParts own source parts → GivesParts own source others → parts ≡ others
same_package (Some own) source parts others first second = first ∙ sym second
same_package None source parts others first second =
    same_some parts others (package_of_input source.left) first.spelled second.spelled

-- a command that reads the input is told of it
told_input :
    (own : Option (List Part)) (source : SourceState) (parts : List Part) → own ≡ None
    → TellsInput own source → GivesParts own source parts
    → (source.is_visible ≡ true) × Spells source.left parts
told_input (Some own) source parts none tells gives = absurd cc
told_input None source parts none tells gives = (tells, gives)

-- a package that has an output has no cause of a refusal
no_cause :
    NeverBoth → (words : List (List ℕ)) (source : SourceState) (request asked : Request)
    (parts : List Part) (output : List ℕ) (error : ToolError)
    → IsRequest words source request parts → IsAnswer request parts output
    → request_of words ≡ Some asked → HasAnswerCause asked source error → ⊥
no_cause never words source request asked parts output error is prints same cause =
    let request_is = same_some asked request (request_of words) same is.asked in
    let own = subst (λ (request : Request). HasAnswerCause request source error) request_is cause in
    let package_is = same_package (request_parts request) source own.parts parts (own.fed is.tells)
    is.gives in
    never request parts output error prints
    (subst (λ (parts : List Part). AnswerCause request parts error) package_is own.cause)

-- an input that spells a package isn't past its limit
never_past :
    (is_file : Bool) (old new : SourceState) (parts : List Part) → PastLimit is_file old new
    → old.is_visible ≡ true → Spells old.left parts → ⊥
never_past is_file old new parts past tells spells =
    let took = past.took tells in
    let long = length-append took.taken new.left in
    let eight : 8 ≤ length took.taken = omega (arith, took.many, (limit_by is_file).0) in
    let begins = ap begins_as_file took.from ∙ begin_alike took.taken new.left eight
    ∙ took.begins in
    omega (arith, took.many, spells.fits, ap longest begins, ap length took.from, long)

-- a package that has an output was not refused for any cause of its own
not_refused :
    NeverBoth → (words : List (List ℕ)) (old new : Streams) (request : Request)
    (parts : List Part) (output : List ℕ) (error : ToolError)
    → IsRequest words old.source request parts → IsAnswer request parts output
    → (error ≢ OutOfMemory) × (error ≢ ReadFault) × (error ≢ WriteFault)
    → RefusesRun words old new error → ⊥
not_refused never words old new request parts output Usage is prints own refuses =
    not_some request (request_of words) is.asked refuses.0
not_refused never words old new request parts output ReadFault is prints own refuses = own.1 refl
not_refused never words old new request parts output InputTooLarge is prints own refuses =
    let request_is = same_some refuses.request request (request_of words) refuses.asked is.asked in
    let fails = subst
    (λ (request : Request). FeedingFails request old.source new.source InputTooLarge) request_is
    refuses.cause in
    let input = told_input (request_parts request) old.source parts fails.0 is.tells is.gives in
    never_past false old.source new.source parts fails.1 input.0 input.1
not_refused never words old new request parts output FileTooLarge is prints own refuses =
    let request_is = same_some refuses.request request (request_of words) refuses.asked is.asked in
    let fails = subst
    (λ (request : Request). FeedingFails request old.source new.source FileTooLarge) request_is
    refuses.cause in
    let input = told_input (request_parts request) old.source parts fails.0 is.tells is.gives in
    never_past true old.source new.source parts fails.1 input.0 input.1
not_refused never words old new request parts output NotAPackage is prints own refuses =
    let request_is = same_some refuses.request request (request_of words) refuses.asked is.asked in
    let fails = subst
    (λ (request : Request). FeedingFails request old.source new.source NotAPackage) request_is
    refuses.cause in
    let input = told_input (request_parts request) old.source parts fails.0 is.tells is.gives in
    not_some parts (package_of_input old.source.left) input.1.spelled (fails.1.cause input.0).none
not_refused
    never words old new request parts output (NotAWorkbookFile fault) is prints own refuses =
    let error : ToolError = NotAWorkbookFile fault in
    let request_is = same_some refuses.request request (request_of words) refuses.asked is.asked in
    let fails = subst
    (λ (request : Request). FeedingFails request old.source new.source error) request_is
    refuses.cause in
    let input = told_input (request_parts request) old.source parts fails.0 is.tells is.gives in
    not_some parts (package_of_input old.source.left) input.1.spelled (fails.1.cause input.0).none
not_refused never words old new request parts output (Workbook error) is prints own refuses =
    no_cause never words old.source request refuses.request parts output (Workbook error) is prints
    refuses.asked refuses.cause.1
not_refused never words old new request parts output BoxTooLarge is prints own refuses =
    no_cause never words old.source request refuses.request parts output BoxTooLarge is prints
    refuses.asked refuses.cause.1
not_refused never words old new request parts output GraphTooLarge is prints own refuses =
    no_cause never words old.source request refuses.request parts output GraphTooLarge is prints
    refuses.asked refuses.cause.1
not_refused never words old new request parts output Unwritable is prints own refuses =
    no_cause never words old.source request refuses.request parts output Unwritable is prints
    refuses.asked refuses.cause.1
not_refused never words old new request parts output NoHeader is prints own refuses =
    no_cause never words old.source request refuses.request parts output NoHeader is prints
    refuses.asked refuses.cause.1
not_refused never words old new request parts output (TwoColumns key) is prints own refuses =
    no_cause never words old.source request refuses.request parts output (TwoColumns key) is prints
    refuses.asked refuses.cause.1
not_refused never words old new request parts output (NotChosen fault) is prints own refuses =
    no_cause never words old.source request refuses.request parts output (NotChosen fault) is prints
    refuses.asked refuses.cause.1
not_refused never words old new request parts output WriteFault is prints own refuses = own.2 refl
not_refused never words old new request parts output OutOfMemory is prints own refuses = own.0 refl

-- a command whose output was written has one
has_output :
    (words : List (List ℕ)) (old new : Streams) (request : Request) (parts : List Part)
    → IsRequest words old.source request parts → Succeeds words old new
    → HasAnswer request parts
has_output words old new request parts is succeeds =
    let request_is = same_some succeeds.request request (request_of words) succeeds.asked is.asked
    in
    let read = subst
    (λ (request : Request). AnswerRead request succeeds.output old.source new.source) request_is
    succeeds.reads in
    let gives = given_by (request_parts request) read.parts old.source new.source
    (read.fed.fed is.tells) in
    let package_is =
    same_package (request_parts request) old.source read.parts parts gives is.gives in (
      succeeds.output,
      subst (λ (parts : List Part). IsAnswer request parts succeeds.output) package_is
          read.is_output,
    )

pub answers :
    NeverBoth → (words : List (List ℕ)) (old new : Streams) (result : Result (Unit {0}) ToolError)
    → OnOk result (Succeeds words old new) → IfErr result (RefusesRun words old new)
    → AnswersExactly words old.source result
answers never words old new (Ok x) ok err = record {
  exactly = λ request parts asked tells gives memory read write. (
      let is : IsRequest words old.source request parts =
      record { asked = asked; tells = tells; gives = gives }
      in
      (λ _. has_output words old new request parts is ok, λ _. refl)
      );
}
answers never words old new (Err error) ok err = record {
  exactly = λ request parts asked tells gives memory read write. (
      let is : IsRequest words old.source request parts =
      record { asked = asked; tells = tells; gives = gives }
      in (
        λ is_ok. absurd (true≢false (sym is_ok)),
        λ printed. absurd (
            not_refused never words old new request parts printed.0 error is printed.1
            (λ is. memory (ap Err is), λ is. read (ap Err is), λ is. write (ap Err is)) err
            ),
      )
      );
}
