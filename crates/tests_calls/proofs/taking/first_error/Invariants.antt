use Rattle.std.proofs.Common.{◌≡◌, List, None, map, true}
use Rattle.std.specs.List.{find}
use Rattle.cell_data.specs.declared.cell.Cell.{Cell}
use Rattle.cell_data.specs.declared.value.DataRef.{DataRef}
use Rattle.xlsx_cells.specs.Words.{stream_by, context_by, IsValued, values_alone, cell_value_entry}
use Rattle.xlsx_cells.proofs.WholeReadings.{TookValues}
use Rattle.tests_calls.specs.Taking.{has_error}
use Rattle.tests_calls.proofs.Through.{TookThrough}
use Rattle.tests_calls.proofs.taking.first_error.Given as goal

abbrev pub invariant-cells : goal.invariant-cells
invariant-cells g l =
    let old = stream_by l.fn.reader in
    let now = stream_by l.reader in
    let context = context_by l.fn.reader in
    record {
      hold : context_by l.reader ≡ context;
      took : (sound : List (Cell DataRef)) × (find has_error sound ≡ None)
          × TookValues values_alone context old now (map cell_value_entry sound)
          × (old.reading.source.is_visible ≡ true →
          TookThrough (λ kept. IsValued context) old now sound);
    }

abbrev pub decreases-cells : goal.decreases-cells
decreases-cells g l = (stream_by l.reader).reading.source.left
