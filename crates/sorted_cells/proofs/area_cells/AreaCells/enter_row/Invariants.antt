use Rattle.std.proofs.Common.{◌≡◌, length}
use Rattle.sorted_cells.specs.Area.{area_left}
use Rattle.sorted_cells.proofs.area_cells.AreaCells.enter_row.Given as goal

abbrev pub invariant-rows : goal.invariant-rows
invariant-rows o l = area_left l.self ≡ area_left l.fn.self

abbrev pub decreases-rows : goal.decreases-rows
decreases-rows o l = length l.self.rows.now
