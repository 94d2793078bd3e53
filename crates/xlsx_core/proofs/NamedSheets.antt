-- How a look at the sheet of a name is refused where no sheet has it.
use Rattle.std.proofs.Common.{ℕ, List, Option, Some, None, Result, Err, refl, arith}
use Rattle.part_events.specs.Words.{PackageState, LeavesPackage}
use Rattle.xlsx_error.specs.declared.error.XlsxError.{XlsxError}
use Rattle.xlsx_error.specs.declared.error.XlsxError.TheVariants.{OutOfMemory, Io}
use Rattle.xlsx_error.specs.declared.error.XlsxError.TheVariants.{WorksheetNotFound}
use Rattle.xlsx_sections.specs.Words.{Answers, FailsBy}
use Rattle.xlsx_sections.proofs.Failing.{same_parts}
use Rattle.looks.specs.Words.{Look, look_ask}
use Rattle.looks.proofs.Answered.{refused_at_once}
use Rattle.xlsx_core.specs.NamedSheet.{IsNotFound, named_sheet_ask}
use Rattle.xlsx_core.specs.Worksheets.{LacksPath}

untouched : (most : ℕ) (state : PackageState) (error : XlsxError)
    → LeavesPackage most Io state state error
untouched most state error = record {
  parts = same_parts state;
  faults = λ other. refl;
  forward = omega arith;
  taken = λ told. omega arith;
}

lacks_fails : (state : PackageState) (name : List ℕ) (error : XlsxError)
    → LacksPath name None error → FailsBy (IsNotFound name) state state error
lacks_fails state name (WorksheetNotFound asked) lacks = λ told. lacks.0
lacks_fails state name OutOfMemory lacks = tt
lacks_fails state name error lacks = absurd lacks

pub path_refused : {A T : Type 0} (kind : XlsxError → Type 0) (look : List ℕ → Look A)
    (view : T → A) (state : PackageState) (name : List ℕ) (path : Option (List ℕ))
    (error : XlsxError) → kind OutOfMemory → LacksPath name path error
    → Answers (named_sheet_ask kind look name path) view
    (let refused : Result T XlsxError = Err error in refused) state state
path_refused kind look view state name None error memory lacks = record {
  uses = untouched 0 state error;
  to_end = λ told. tt;
  said = λ told. tt;
  err = lacks_fails state name error lacks;
  kind = lacks;
}
path_refused kind look view state name (Some there) OutOfMemory memory lacks =
    refused_at_once (look_ask kind (look there)) view state memory
path_refused kind look view state name (Some there) (WorksheetNotFound asked) memory lacks =
    let never = lacks.1 in absurd (cc)
path_refused kind look view state name (Some there) error memory lacks = absurd lacks
