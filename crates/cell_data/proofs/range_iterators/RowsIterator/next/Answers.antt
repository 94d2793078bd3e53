use Rattle.std.proofs.Common.{ap}
use Rattle.sorted_cells.specs.Words.{placed_left}
use Rattle.cell_data.specs.Range.{bounds_of, height_of}
use Rattle.cell_data.specs.RangeItems.{row_values}
use Rattle.cell_data.proofs.CellSteps.{row_taken, next_given}
use Rattle.cell_data.proofs.range_iterators.RowsIterator.next.Goals as goal

pub invariant_of-self : goal.invariant_of-self
invariant_of-self g c = record {
  from =
      rw (c.pass_row.ensures, ap (λ pos. pos.0) c.row_start-pos.ensures)
      (row_taken c.args.self.now.range.now c.args.self.now.next (placed_left c.args.self.now.left)
      c.args.self.now.from);
}

pub returns-clause-steps : goal.returns-clause-steps
returns-clause-steps g c =
    let range = c.args.self.now.range.now in
    next_given (λ row. row_values range row 0) c.args.self.now.next (height_of (bounds_of range))
    (rw c.height.ensures at c.if-self-height.false)
