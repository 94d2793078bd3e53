use Rattle.std.proofs.Common.{rules, ◌≡◌, drop, refl}
use Rattle.std.specs.Prelude.{nat_lt}
use Rattle.std.proofs.lemmas.Fn.{always_returns_same}
use Rattle.sorted_cells.specs.declared.row.Row.{Row}
use Rattle.sorted_cells.proofs.Cutting.{left_back, fits_cells}
use Rattle.sorted_cells.proofs.keeping.rows_from.Goals as goal

pub split_at-requires : goal.split_at-requires
split_at-requires g c =
    fits_cells c.partition_point-before.result c.rows_end.result c.args.rows.now c.args.rows.now
    c.args.rows.now c.args.cells.now c.args.cells.now c.requires.shared
    c.partition_point-before.ensures.bound (search rules)

pub returns : goal.returns
returns g c =
    let rows : c.split_at-2.result.1.now ≡ drop c.partition_point-before.result c.args.rows.now =
    search rules in
    let cells : c.split_at.result.1.now ≡ drop c.rows_end.result c.args.cells.now = search rules in
    left_back c.partition_point-before.result c.rows_end.result c.args.rows.now c.args.rows.now
    c.split_at-2.result.1.now c.args.cells.now c.split_at.result.1.now c.args.first refl rows cells
    c.requires.shared c.requires.numbers c.partition_point-before.ensures.bound
    (c.partition_point-before.ensures.partitioned (λ (row : Row). nat_lt row.number c.args.first)
    (always_returns_same _ _ _ (λ a r f called. search rules))) (search rules)
