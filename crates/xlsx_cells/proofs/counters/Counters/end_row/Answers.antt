use Rattle.std.proofs.Common.{refl, arith}
use Rattle.xlsx_cells.proofs.CountersMoved.{row_counter_more}
use Rattle.xlsx_cells.proofs.counters.Counters.end_row.Goals as goal

pub returns : goal.returns
returns c = λ before kept. record {
  row = omega (
    arith,
    kept.row,
    row_counter_more 0 before,
    c.min-self.ensures,
    c.saturating_add.ensures,
  );
  column = refl;
}
