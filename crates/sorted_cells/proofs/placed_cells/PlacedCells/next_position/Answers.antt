use Rattle.std.proofs.Common.{rules, ◌≡◌, sym, Some, None}
use Rattle.std.specs.Prelude.{slice_get}
use Rattle.sorted_cells.proofs.Placing.{first_behind}
use Rattle.sorted_cells.proofs.placed_cells.PlacedCells.next_position.Goals as goal

pub returns : goal.returns
returns g c =
    let none : slice_get c.args.self.now.own.now 0 ≡ None = search rules in
    let row : slice_get c.args.self.now.rows.now 0 ≡ Some c.in_ok-row.row.now = search rules in
    let cell : slice_get c.args.self.now.behind.now 0 ≡ Some c.in_ok-cell.cell.now =
    search rules in
    sym (first_behind c.args.self.now.number c.args.self.now.own.now c.args.self.now.rows.now
    c.args.self.now.behind.now c.in_ok-row.row.now c.in_ok-cell.cell.now none row cell
    c.args.self.now.shared)
