use Rattle.std.proofs.Common.{◌<◌, subst}
use Rattle.sorted_cells.specs.Words.{placed_left}
use Rattle.sorted_cells.proofs.Handing.{fewer}
use Rattle.cell_data.specs.Range.{bounds_of, width_of}
use Rattle.cell_data.specs.RangeItems.{box_count, box_item}
use Rattle.cell_data.proofs.CellSteps.{number_passed, next_given, place_passed}
use Rattle.cell_data.proofs.range_iterators.CellsIterator.next.Goals as goal

pub invariant_of-self : goal.invariant_of-self
invariant_of-self g c =
    let range = c.args.self.now.range.now in
    let width = width_of (bounds_of range) in
    let further =
    place_passed range c.position_of-pos.result (c.place_of-row.result.0, c.place_of-row.result.1)
    (placed_left c.take_value-val.new.left) c.position_of-pos.ensures
    c.take_value-val.ensures.left in record {
      from =
          number_passed range c.args.self.now.next (placed_left c.take_value-val.new.left)
          (subst (λ column. column < width) c.place_of-row.ensures.column
          c.place_of-row.ensures.in_columns)
          (rw (c.place_of-row.ensures.row, c.place_of-row.ensures.column) at further);
    }

pub returns-clause-steps : goal.returns-clause-steps
returns-clause-steps g c =
    rw (
      c.take_value-val.ensures.value,
      c.position_of-pos.ensures,
      c.place_of-row.ensures.row,
      c.place_of-row.ensures.column,
    )
    (next_given (box_item c.args.self.now.range.now) c.args.self.now.next
    (box_count c.args.self.now.range.now)
    (rw c.cell_count.ensures at c.if-self-cell_count.false))

pub returns-clause-goes : goal.returns-clause-goes
returns-clause-goes g c = record {
  on = λ finite. (
    tt,
    tt,
    fewer (next_given (box_item c.args.self.now.range.now) c.args.self.now.next
        (box_count c.args.self.now.range.now)
        (rw c.cell_count.ensures at c.if-self-cell_count.false)),
  );
  keeps = tt;
  rests = λ finite. tt;
}
