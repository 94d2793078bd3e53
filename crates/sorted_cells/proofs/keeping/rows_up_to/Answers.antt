use Rattle.std.proofs.Common.{rules, ◌≡◌, take, refl}
use Rattle.std.specs.Prelude.{nat_le}
use Rattle.std.proofs.lemmas.Fn.{always_returns_same}
use Rattle.sorted_cells.specs.declared.row.Row.{Row}
use Rattle.sorted_cells.proofs.Cutting.{left_front, fits_cells}
use Rattle.sorted_cells.proofs.keeping.rows_up_to.Goals as goal

pub split_at-requires : goal.split_at-requires
split_at-requires g c =
    fits_cells c.partition_point-behind.result c.rows_end.result c.args.rows.now c.args.rows.now
    c.args.rows.now c.args.cells.now c.args.cells.now c.requires.shared
    c.partition_point-behind.ensures.bound (search rules)

pub returns : goal.returns
returns g c =
    let rows : c.split_at-2.result.0.now ≡ take c.partition_point-behind.result c.args.rows.now =
    search rules in
    let cells : c.split_at.result.0.now ≡ take c.rows_end.result c.args.cells.now = search rules in
    left_front c.partition_point-behind.result c.rows_end.result c.args.rows.now c.args.rows.now
    c.split_at-2.result.0.now c.args.cells.now c.split_at.result.0.now c.args.last refl rows cells
    c.requires.shared c.requires.numbers c.partition_point-behind.ensures.bound
    (c.partition_point-behind.ensures.partitioned (λ (row : Row). nat_le row.number c.args.last)
    (always_returns_same _ _ _ (λ a r f called. search rules))) (search rules)
