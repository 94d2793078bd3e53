use Rattle.std.proofs.Common.{rules, ◌≡◌, ◌∷◌, ◌∙◌, sym, drop, reverse}
use Rattle.sorted_cells.proofs.Handing.{handed, fewer}
use Rattle.sorted_cells.proofs.owned_cells.OwnedCellsIterator.next.Goals as goal

pub returns-clause-steps : goal.returns-clause-steps
returns-clause-steps g c =
    let first : reverse c.enter_row.new.self.cells.items
    ≡ c.in_ok-cell.cell ∷ reverse c.take_last.new.cells.items =
    search rules in
    sym c.enter_row.ensures.left
    ∙ handed c.enter_row.new.self.number c.enter_row.new.self.own
    (drop c.enter_row.new.self.entered c.enter_row.new.self.rows.items) c.in_ok-cell.cell
    (reverse c.take_last.new.cells.items) (reverse c.enter_row.new.self.cells.items)
    c.if-self-eq0.false first

pub returns-clause-goes : goal.returns-clause-goes
returns-clause-goes g c =
    let first : reverse c.enter_row.new.self.cells.items
    ≡ c.in_ok-cell.cell ∷ reverse c.take_last.new.cells.items =
    search rules in
    let steps =
    sym c.enter_row.ensures.left
    ∙ handed c.enter_row.new.self.number c.enter_row.new.self.own
    (drop c.enter_row.new.self.entered c.enter_row.new.self.rows.items) c.in_ok-cell.cell
    (reverse c.take_last.new.cells.items) (reverse c.enter_row.new.self.cells.items)
    c.if-self-eq0.false first in
    record {
      on = λ finite. (tt, tt, fewer steps);
      keeps = tt;
      rests = λ finite. tt;
    }
