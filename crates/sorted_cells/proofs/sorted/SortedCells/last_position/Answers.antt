use Rattle.std.proofs.Common.{rules, ◌≡◌, ◌∙◌, sym, ◌∷◌, ◌++◌, [], length}
use Rattle.sorted_cells.proofs.Pushing.{last_found, none_last}
use Rattle.sorted_cells.proofs.sorted.SortedCells.last_position.Goals as goal

pub returns-in_err-cell : goal.returns-in_err-cell
returns-in_err-cell g c =
    let none : length c.args.self.now.cells.items ≡ 0 =
    search (rules, c.in_err-cell.ensures.cases) in
    c.from_residual-in_err-cell.ensures
    ∙ sym (none_last c.args.self.now.rows.items c.args.self.now.cells.items none
    c.args.self.now.shared)

pub returns : goal.returns
returns g c =
    let rows : c.args.self.now.rows.items ≡ c.in_ok-row.field-0-1.now ++ c.in_ok-row.row.now ∷ [] =
    search (rules, c.in_ok-row.ensures.cases.0) in
    let cells : c.args.self.now.cells.items
    ≡ c.in_ok-cell.field-0-1.now ++ c.in_ok-cell.cell.now ∷ [] =
    search (rules, c.in_ok-cell.ensures.cases.0) in
    sym (last_found c.args.self.now.rows.items c.in_ok-row.field-0-1.now c.in_ok-row.row.now
    c.args.self.now.cells.items c.in_ok-cell.field-0-1.now c.in_ok-cell.cell.now rows cells
    c.args.self.now.shared)
