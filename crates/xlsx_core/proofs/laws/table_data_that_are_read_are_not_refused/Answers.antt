use Rattle.cell_data.specs.Words.{nothing, value_of_data, value_of_data_ref}
use Rattle.xlsx_cells.specs.Words.{with_texts}
use Rattle.xlsx_core.specs.TableData.{IsRangeIn}
use Rattle.xlsx_core.proofs.RangesRead.{shown_never, used_never}
use Rattle.xlsx_core.proofs.laws.table_data_that_are_read_are_not_refused.Goals as goal

pub returns : goal.returns
returns c = record {
  values = λ context header name area path parts range error reads cause.
      used_never context name path parts
      (λ values. IsRangeIn value_of_data header area (with_texts context.strings values) nothing
      range) error reads cause;
  places = λ context header name area path parts range error reads cause.
      used_never context name path parts
      (λ values. IsRangeIn value_of_data_ref header area values nothing range) error reads cause;
  shown = shown_never;
}
