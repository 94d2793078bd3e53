use Rattle.std.proofs.Common.{rules, ◌≡◌, ◌≤◌, length, take, drop}
use Rattle.std.specs.Prelude.{nat_le}
use Rattle.std.proofs.lemmas.Fn.{always_returns_same}
use Rattle.sorted_cells.specs.declared.row.Row.{Row}
use Rattle.sorted_cells.specs.Rows.{rows_end}
use Rattle.sorted_cells.proofs.Cutting.{left_front}
use Rattle.sorted_cells.proofs.keeping.cut_behind.Goals as goal

pub returns : goal.returns
returns g c =
    let rows : c.truncate-2.new.self.items
    ≡ take c.partition_point-behind.result c.args.rows.now.items =
    search rules in
    let ends : c.rows_end.result
    ≡ rows_end (drop c.partition_point-behind.result c.args.rows.now.items)
    (length c.args.cells.now.items) =
    search rules in
    let within : c.partition_point-behind.result ≤ length c.args.rows.now.items = search rules in
    left_front c.partition_point-behind.result c.rows_end.result c.args.rows.now.items
    c.deref.result.now c.truncate-2.new.self.items c.args.cells.now.items c.truncate.new.self.items
    c.args.last c.deref.ensures.value rows c.truncate.ensures.items c.requires.shared
    c.requires.numbers within
    (c.partition_point-behind.ensures.partitioned (λ (row : Row). nat_le row.number c.args.last)
    (always_returns_same _ _ _ (λ a r f called. search rules))) ends
