use Rattle.std.proofs.Common.{rules, ◌≡◌, ◌∙◌, sym, length}
use Rattle.sorted_cells.proofs.Pushing.{counted}
use Rattle.sorted_cells.proofs.sorted.SortedCells.len.Goals as goal

pub returns : goal.returns
returns g c =
    let count : c.len.result ≡ length c.args.self.now.cells.items = search rules in
    count ∙ sym (counted 0 c.args.self.now.rows.items c.args.self.now.cells.items
    c.args.self.now.shared)
