use Rattle.std.proofs.Common.{ℕ}
use Rattle.sorted_cells.specs.Words.{placed_left}
use Rattle.sorted_cells.proofs.Handing.{fewer}
use Rattle.cell_data.specs.Range.{bounds_of, width_of, filled}
use Rattle.cell_data.proofs.CellSteps.{next_given, place_passed, position_further}
use Rattle.cell_data.proofs.range_iterators.RowCellsIterator.next.Goals as goal

pub invariant_of-self : goal.invariant_of-self
invariant_of-self g c =
    let range = c.args.self.now.range.now in
    let place : ℕ × ℕ = (c.args.self.now.row, c.args.self.now.next) in record {
      columns = c.args.self.now.columns;
      place = position_further range c.args.self.now.pos place c.args.self.now.place;
      from =
          place_passed range c.args.self.now.pos place (placed_left c.take_value-val.new.left)
          c.args.self.now.place c.take_value-val.ensures.left;
    }

pub returns-clause-steps : goal.returns-clause-steps
returns-clause-steps g c =
    let range = c.args.self.now.range.now in
    rw (c.take_value-val.ensures.value, c.args.self.now.place)
    (next_given (λ column. filled range (c.args.self.now.row, column)) c.args.self.now.next
    (width_of (bounds_of range)) (rw c.args.self.now.columns at c.if-self.false))

pub returns-clause-goes : goal.returns-clause-goes
returns-clause-goes g c =
    let range = c.args.self.now.range.now in
    let steps =
    next_given (λ column. filled range (c.args.self.now.row, column)) c.args.self.now.next
    (width_of (bounds_of range)) (rw c.args.self.now.columns at c.if-self.false) in record {
      on = λ finite. (tt, tt, fewer steps);
      keeps = tt;
      rests = λ finite. tt;
    }
