use Rattle.std.proofs.Common.{◌≡◌, map, true}
use Rattle.xlsx_cells.specs.Words.{stream_by, context_by, values_and_formulas, IsValuedFormula}
use Rattle.xlsx_cells.specs.Words.{formula_value_entry}
use Rattle.xlsx_cells.proofs.WholeReadings.{TookValues}
use Rattle.tests_calls.proofs.Through.{TookThrough}
use Rattle.tests_calls.proofs.taking.formulas_taken.Given as goal

abbrev pub invariant-cells : goal.invariant-cells
invariant-cells g l =
    let old = stream_by l.fn.reader in
    let now = stream_by l.reader in
    record {
      hold : context_by l.reader ≡ context_by l.fn.reader;
      took : TookValues values_and_formulas (context_by l.fn.reader) old now
          (map formula_value_entry l.cells.items);
      through : old.reading.source.is_visible ≡ true →
          TookThrough (IsValuedFormula (context_by l.fn.reader)) old now l.cells.items;
    }

abbrev pub decreases-cells : goal.decreases-cells
decreases-cells g l = (stream_by l.reader).reading.source.left
