-- What is said of a formula by what was computed.
use Rattle.std.proofs.Common.{◌≡◌, sym, ap}
use Rattle.cell_data.specs.Words.{CellValue}
use Rattle.xlsx_check.specs.declared.outcome.Computed.{Computed}
use Rattle.xlsx_check.specs.declared.outcome.Computed.TheVariants as computed
use Rattle.xlsx_check.specs.Evaluation.{Denoted, a_number, a_truth, number_past, truth_past}
use Rattle.xlsx_check.specs.Evaluation.{unsupported}
use Rattle.xlsx_check.specs.Verdicts.{computed_of, without_kind, judged, judged_value}

pub judged_is : (d : Denoted) (value : Computed) (v : CellValue) →
    computed_of value ≡ without_kind d → judged d v ≡ judged_value (computed_of value) v
judged_is (a_number n) value v is = ap (λ (e : Denoted). judged_value e v) (sym is)
judged_is (a_truth t) value v is = ap (λ (e : Denoted). judged_value e v) (sym is)
judged_is number_past (computed.Number n) v is = absurd (cc)
judged_is number_past (computed.Truth t) v is = absurd (cc)
judged_is truth_past (computed.Number n) v is = absurd (cc)
judged_is truth_past (computed.Truth t) v is = absurd (cc)
judged_is unsupported (computed.Number n) v is = absurd (cc)
judged_is unsupported (computed.Truth t) v is = absurd (cc)
