use Rattle.std.proofs.Common.{◌≡◌, [], length}
use Rattle.sorted_cells.specs.Placed.{placed_left, past_row}
use Rattle.sorted_cells.proofs.placed_cells.PlacedCells.pass_row.Given as goal

abbrev pub invariant-rows : goal.invariant-rows
invariant-rows o l = record {
  left : past_row l.row (placed_left l.self) ≡ past_row l.row (placed_left l.fn.self);
  none : length l.self.own.now ≡ 0 → placed_left l.self ≡ [];
}

abbrev pub decreases-rows : goal.decreases-rows
decreases-rows o l = length (placed_left l.self)
