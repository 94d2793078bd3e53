use Rattle.std.proofs.Common.{arith}
use Rattle.sorted_cells.proofs.Pushing.{counted}
use Rattle.sorted_cells.proofs.sorted.SortedCells.iter.Goals as goal

pub returns-clause-fits : goal.returns-clause-fits
returns-clause-fits g c =
    let cells = c.args.self.now.cells in
    let count = counted 0 c.args.self.now.rows.items cells.items c.args.self.now.shared in
    omega (arith, count, cells.ok, cells.small)
