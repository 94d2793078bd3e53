use Rattle.xlsx_core.proofs.RangesRead.{values_never, places_never, formulas_never, styles_never}
use Rattle.xlsx_core.proofs.laws.worksheets_that_are_read_are_not_refused.Goals as goal

pub returns : goal.returns
returns c = record {
  values = values_never;
  places = places_never;
  formulas = formulas_never;
  styles = styles_never;
}
