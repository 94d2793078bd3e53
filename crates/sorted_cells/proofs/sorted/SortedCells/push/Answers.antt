use Rattle.std.proofs.Common.{rules, ◌≡◌, ◌∷◌, ◌++◌, [], length, true}
use Rattle.std.specs.Result.{is_ok}
use Rattle.sorted_cells.specs.declared.row.ColumnCell.{ColumnCell}
use Rattle.sorted_cells.specs.Rows.{with_row}
use Rattle.sorted_cells.proofs.Pushing.{put_with_row, AreKept}
use Rattle.sorted_cells.proofs.sorted.SortedCells.push.Goals as goal

-- the room for the cell is there before the row is begun
pub invariant_of-self-2 : goal.invariant_of-self-2
invariant_of-self-2 g c =
    let cell : ColumnCell g.row.T.Denot = record { column = c.args.pos.1; val = c.args.val } in
    let ok : is_ok c.push.result ≡ true = search rules in
    let cells : c.push.new.self.items ≡ c.args.self.now.cells.items ++ cell ∷ [] =
    search rules in
    let rows : c.begin_row.new.rows.items
    ≡ with_row c.args.pos.0 (length c.args.self.now.cells.items) c.args.self.now.rows.items =
    search rules in
    let kept : AreKept c.args.self.now.rows.items c.args.self.now.cells.items = record {
      shared = c.args.self.now.shared;
      numbers = c.args.self.now.numbers;
      rising = c.args.self.now.rising;
    } in
    let put =
    put_with_row c.args.self.now.rows.items c.args.self.now.cells.items c.args.pos.0 cell
    c.begin_row.new.rows.items c.push.new.self.items kept c.requires rows cells in
    record {
      shared = put.kept.shared;
      numbers = put.kept.numbers;
      rising = put.kept.rising;
    }

pub returns-clause-ok : goal.returns-clause-ok
returns-clause-ok g c =
    let cell : ColumnCell g.row.T.Denot = record { column = c.args.pos.1; val = c.args.val } in
    let ok : is_ok c.push.result ≡ true = search rules in
    let cells : c.push.new.self.items ≡ c.args.self.now.cells.items ++ cell ∷ [] =
    search rules in
    let rows : c.begin_row.new.rows.items
    ≡ with_row c.args.pos.0 (length c.args.self.now.cells.items) c.args.self.now.rows.items =
    search rules in
    let kept : AreKept c.args.self.now.rows.items c.args.self.now.cells.items = record {
      shared = c.args.self.now.shared;
      numbers = c.args.self.now.numbers;
      rising = c.args.self.now.rising;
    } in
    let put =
    put_with_row c.args.self.now.rows.items c.args.self.now.cells.items c.args.pos.0 cell
    c.begin_row.new.rows.items c.push.new.self.items kept c.requires rows cells in
    put.is
