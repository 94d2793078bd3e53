use Rattle.xlsx_core.proofs.LeastAreas.{least_ranges}
use Rattle.xlsx_core.proofs.as_read.ReadCells.into_ranges.Goals as goal

pub returns-clause-ranges : goal.returns-clause-ranges
returns-clause-ranges c =
    least_ranges _ _ (record {
      values = c.in_ok-value_range.field-0;
      formulas = c.in_ok-formula_range.field-0;
      styles = c.in_ok-style_range.field-0;
    }) c.in_ok-value_range.ensures c.in_ok-formula_range.ensures
