use Rattle.std.proofs.Common.{rules, ◌≡◌, take, drop}
use Rattle.std.specs.Prelude.{nat_le, nat_lt}
use Rattle.std.proofs.lemmas.Fn.{always_returns_same}
use Rattle.sorted_cells.specs.declared.row.ColumnCell.{ColumnCell}
use Rattle.sorted_cells.proofs.Between.{columns_cut}
use Rattle.sorted_cells.proofs.row.columns_between.Goals as goal

pub returns : goal.returns
returns g c =
    let front : c.split_at.result.0.now
    ≡ take c.partition_point-behind.result c.args.cells.now =
    search rules in
    let left : c.split_at-2.result.1.now
    ≡ drop c.partition_point-before.result c.split_at.result.0.now =
    search rules in
    columns_cut c.args.first c.args.last c.partition_point-behind.result
    c.partition_point-before.result c.args.cells.now c.split_at.result.0.now
    c.split_at-2.result.1.now c.requires
    (c.partition_point-behind.ensures.partitioned
    (λ (cell : ColumnCell g.row.T.Denot). nat_le cell.column c.args.last)
    (always_returns_same _ _ _ (λ a r f called. search rules))) front
    c.partition_point-behind.ensures.bound
    (c.partition_point-before.ensures.partitioned
    (λ (cell : ColumnCell g.row.T.Denot). nat_lt cell.column c.args.first)
    (always_returns_same _ _ _ (λ a r f called. search rules)))
    c.partition_point-before.ensures.bound left
