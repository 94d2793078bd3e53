-- What is said of what a formula comes to, beside the value that its cell has.
use Rattle.std.specs.Prelude.{◌==◌, nat_abs, Bool, true, false, if◌then◌else◌, ℤ, Option}
use Rattle.cell_data.specs.Words.{CellValue, nothing, integer, number, truth, time, value_of_data}
use Rattle.std.specs.Borrow.{Bor}
use Rattle.std.specs.Option.{option_map, unwrap_or}
use Rattle.cell_data.specs.declared.value.Data.{Data}
use Rattle.decimals.specs.Words.{number_of}
use Rattle.xlsx_check.specs.declared.outcome.Computed.{Computed}
use Rattle.xlsx_check.specs.declared.outcome.Computed.TheVariants as computed
use Rattle.xlsx_check.specs.declared.outcome.Outcome.{Outcome}
use Rattle.xlsx_check.specs.declared.outcome.Outcome.TheVariants as outcome
use Rattle.xlsx_check.specs.declared.outcome.Verdict.{Verdict}
use Rattle.xlsx_check.specs.declared.outcome.Verdict.TheVariants as verdict
use Rattle.xlsx_check.specs.Evaluation.{Denoted, a_number, a_truth, number_past, truth_past}
use Rattle.xlsx_check.specs.Evaluation.{unsupported, number_in, gap}

-- the number or the boolean that a formula was computed to
abbrev pub computed_of : Computed → Denoted
computed_of (computed.Number n) = a_number (number_of n)
computed_of (computed.Truth t) = a_truth t

-- an outcome, which doesn't tell what was past the limits
abbrev pub outcome_of : Outcome → Denoted
outcome_of (outcome.Value value) = computed_of value
outcome_of outcome.Unsupported = unsupported
outcome_of outcome.Overflow = number_past

-- a result, of which it isn't told whether a number or a boolean is past the limits
abbrev pub without_kind : Denoted → Denoted
without_kind truth_past = number_past
without_kind (a_number n) = a_number n
without_kind (a_truth t) = a_truth t
without_kind number_past = number_past
without_kind unsupported = unsupported

-- two results are the same number
abbrev pub is_number : ℤ × ℤ → Denoted → Bool
is_number n (a_number m) = nat_abs (gap n m) == 0
is_number n _ = false

-- two results are the same boolean
abbrev pub is_same_boolean : Bool → Bool → Bool
is_same_boolean true true = true
is_same_boolean true false = false
is_same_boolean false true = false
is_same_boolean false false = true

-- the value is this number, or this boolean
abbrev pub agrees : Denoted → CellValue → Bool
agrees (a_number n) (integer m) = is_number n (number_in (integer m))
agrees (a_number n) (number m) = is_number n (number_in (number m))
agrees (a_number n) (time days kind is_1904) = is_number n (number_in (time days kind is_1904))
agrees (a_truth t) (truth u) = is_same_boolean t u
agrees _ _ = false

-- the value of a cell, if it has one
abbrev pub value_or_nothing : Option (Bor Data) → CellValue
value_or_nothing value = unwrap_or (option_map (λ v. value_of_data v.now) value) nothing

-- what is said of a formula beside the value of its cell
pub data Judged : Type 0 where
  agreed : Judged
  differing : Denoted → Judged
  without_value : Judged
  not_computed : Judged
  overflowing : Judged

-- what is said of a result that is computed beside the value of its cell
abbrev pub judged_value : Denoted → CellValue → Judged
judged_value result nothing = without_value
judged_value result value = if agrees result value then agreed else differing result

-- what is said of a formula by what it comes to: what isn't computed is told before a value that is
-- wanting
abbrev pub judged : Denoted → CellValue → Judged
judged unsupported value = not_computed
judged number_past value = overflowing
judged truth_past value = overflowing
judged (a_number n) value = judged_value (a_number n) value
judged (a_truth t) value = judged_value (a_truth t) value

-- what is said of a formula beside its cell's value, as the code has it
abbrev pub verdict_of : Verdict → Judged
verdict_of verdict.Agrees = agreed
verdict_of (verdict.Differs value) = differing (computed_of value)
verdict_of verdict.NoValue = without_value
verdict_of verdict.Unsupported = not_computed
verdict_of verdict.Overflow = overflowing
