use Rattle.std.proofs.Common.{rules, sym}
use Rattle.std.proofs.lemmas.List.Sorted.{answers_always}
use Rattle.std.proofs.lemmas.Cmp.{nat_cmp_total}
use Rattle.std.specs.FinMap.{nat_cmp-IsAntisymmetric}
use Rattle.std.specs.Ordering.{nat_cmp}
use Rattle.sorted_cells.specs.declared.row.ColumnCell.{ColumnCell}
use Rattle.sorted_cells.specs.Rows.{column_entry}
use Rattle.sorted_cells.proofs.Finding.{searched, not_searched}
use Rattle.sorted_cells.proofs.row.value_in.Goals as goal

-- the closure gives a cell's column
pub returns-in-Ok : goal.returns-in-Ok
returns-in-Ok g c =
    let by_key =
    c.in-Ok.ensures.position (λ (cell : ColumnCell g.row.T.Denot). cell.column)
    (answers_always _ _ _ (λ f a r q k. search rules)) in
    sym (searched nat_cmp nat_cmp_total nat_cmp-IsAntisymmetric column_entry c.args.column
    c.args.cells.now c.in-Ok.place c.index-cells-place.result c.requires c.in-Ok.ensures.bound
    by_key)

pub returns-in-Err : goal.returns-in-Err
returns-in-Err g c =
    let by_key =
    c.in-Err.ensures.position (λ (cell : ColumnCell g.row.T.Denot). cell.column)
    (answers_always _ _ _ (λ f a r q k. search rules)) in
    sym (not_searched nat_cmp nat_cmp_total nat_cmp-IsAntisymmetric column_entry c.args.column
    c.args.cells.now c.in-Err.field-0 c.requires by_key)
