use Rattle.std.proofs.Common.{◌∙◌, ap, sym}
use Rattle.sorted_cells.specs.Placed.{past_row}
use Rattle.sorted_cells.specs.Rows.{cells_by}
use Rattle.sorted_cells.proofs.Passing.{own_passed, other_stays}
use Rattle.sorted_cells.proofs.placed_cells.PlacedCells.pass_row.Goals as goal

pub rows-preserved : goal.rows-preserved
rows-preserved g c = record {
  left =
      ap (past_row c.args.row) c.enter_row-in-rows.ensures.left
      ∙ (sym (own_passed c.args.row c.rows.self.own.now
      (cells_by c.rows.self.rows.now c.rows.self.behind.now))
      ∙ (rw c.rows-test.true at c.rows.invariant.left));
  none = c.enter_row-in-rows.ensures.none;
}

pub returns-after-rows : goal.returns-after-rows
returns-after-rows g c =
    other_stays c.args.row c.rows.self.number c.rows.self.own.now
    (cells_by c.rows.self.rows.now c.rows.self.behind.now) c.rows-test.false
    c.rows.invariant.none
    ∙ c.rows.invariant.left
