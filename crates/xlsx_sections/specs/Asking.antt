-- A call on a package, as a value.
use Rattle.std.specs.Prelude.{◌≡◌, ℕ, List, true, Option, Some, Result, IfOk, OnOk, IfErr}
use Rattle.part_events.specs.Words.{Part, PackageState, Uses, CountsUp}
use Rattle.xlsx_error.specs.declared.error.XlsxError.{XlsxError}
use Rattle.xlsx_error.specs.declared.error.XlsxError.TheVariants.{Io}
use Rattle.xlsx_sections.specs.Failing.{FailsBy}

-- what a call asks of the parts of a package
pub record Ask (A : Type 0) : Type 1 where
  -- how many events are taken at most, and how many where it isn't refused
  pub most : List Part → ℕ
  pub exact : List Part → ℕ
  -- what the parts say, why they say nothing, and the refusals it can have whatever is told
  pub said : List Part → Option A
  pub cause : List Part → XlsxError → Type 0
  pub kind : XlsxError → Type 0

-- a call that asks this was answered, and its answer is seen so
pub record Answers {A B : Type 0} (ask : Ask B) (view : A → B) (result : Result A XlsxError)
    (old new : PackageState) : Type 0 where
  pub uses : Uses (ask.most old.parts) Io result old new
  pub to_end :
      old.is_visible ≡ true → OnOk result (CountsUp (ask.exact old.parts) old.taken new.taken)
  pub said : old.is_visible ≡ true → IfOk result (λ a. ask.said old.parts ≡ Some (view a))
  pub err : IfErr result (FailsBy (ask.cause old.parts) old new)
  pub kind : IfErr result ask.kind
