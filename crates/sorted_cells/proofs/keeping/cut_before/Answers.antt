use Rattle.std.proofs.Common.{rules, ◌≡◌, ◌≤◌, length, drop}
use Rattle.std.specs.Prelude.{nat_lt}
use Rattle.std.proofs.lemmas.Fn.{always_returns_same}
use Rattle.sorted_cells.specs.declared.row.Row.{Row}
use Rattle.sorted_cells.specs.Rows.{rows_end}
use Rattle.sorted_cells.proofs.Cutting.{left_back, fits_cells}
use Rattle.sorted_cells.proofs.keeping.cut_before.Goals as goal

pub drop_front-requires : goal.drop_front-requires
drop_front-requires g c =
    let ends : c.rows_end.result
    ≡ rows_end (drop c.partition_point-before.result c.args.rows.now.items)
    (length c.args.cells.now.items) =
    search rules in
    let within : c.partition_point-before.result ≤ length c.args.rows.now.items = search rules in
    fits_cells c.partition_point-before.result c.rows_end.result c.args.rows.now.items
    c.args.rows.now.items c.args.rows.now.items c.args.cells.now.items c.args.cells.now.items
    c.requires.shared within ends

pub returns : goal.returns
returns g c =
    let ends : c.rows_end.result
    ≡ rows_end (drop c.partition_point-before.result c.args.rows.now.items)
    (length c.args.cells.now.items) =
    search rules in
    let within : c.partition_point-before.result ≤ length c.args.rows.now.items = search rules in
    left_back c.partition_point-before.result c.rows_end.result c.args.rows.now.items
    c.deref.result.now c.drop_front-2.new.list.items c.args.cells.now.items
    c.drop_front.new.list.items c.args.first c.deref.ensures.value c.drop_front-2.ensures
    c.drop_front.ensures c.requires.shared c.requires.numbers within
    (c.partition_point-before.ensures.partitioned (λ (row : Row). nat_lt row.number c.args.first)
    (always_returns_same _ _ _ (λ a r f called. search rules))) ends
