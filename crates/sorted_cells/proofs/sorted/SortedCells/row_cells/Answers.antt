use Rattle.std.proofs.Common.{rules, ◌≡◌, ◌∙◌, ◌+◌, ◌-◌, sym, ap, arith, take, drop, List, length}
use Rattle.sorted_cells.specs.declared.row.ColumnCell.{ColumnCell}
use Rattle.sorted_cells.specs.Rows.{rows_end}
use Rattle.sorted_cells.proofs.Parts.{row_part}
use Rattle.sorted_cells.proofs.sorted.SortedCells.row_cells.Goals as goal

pub offset_bounds-deref-first : goal.offset_bounds-deref-first
offset_bounds-deref-first g c =
    let ends : c.rows_end-end.result
    ≡ rows_end (drop (c.args.row + 1) c.args.self.now.rows.items)
    (length c.args.self.now.cells.items) =
    search rules in
    let part =
    row_part c.args.row c.args.self.now.rows.items c.args.self.now.cells.items c.index.result.now
    c.rows_end-end.result c.args.self.now.shared c.requires c.index.ensures ends in
    omega (arith, part.rises, part.within, ap length c.deref-2.ensures.value)

pub slice_bounds-result-count : goal.slice_bounds-result-count
slice_bounds-result-count g c =
    let ends : c.rows_end-end.result
    ≡ rows_end (drop (c.args.row + 1) c.args.self.now.rows.items)
    (length c.args.self.now.cells.items) =
    search rules in
    let part =
    row_part c.args.row c.args.self.now.rows.items c.args.self.now.cells.items c.index.result.now
    c.rows_end-end.result c.args.self.now.shared c.requires c.index.ensures ends in
    omega (arith, part.rises, part.within, ap length c.deref-2.ensures.value)

pub slice_bounds-result-start : goal.slice_bounds-result-start
slice_bounds-result-start g c =
    let ends : c.rows_end-end.result
    ≡ rows_end (drop (c.args.row + 1) c.args.self.now.rows.items)
    (length c.args.self.now.cells.items) =
    search rules in
    let part =
    row_part c.args.row c.args.self.now.rows.items c.args.self.now.cells.items c.index.result.now
    c.rows_end-end.result c.args.self.now.shared c.requires c.index.ensures ends in
    omega (arith, part.rises, part.within, ap length c.deref-2.ensures.value)

pub slice_bounds-result-end : goal.slice_bounds-result-end
slice_bounds-result-end g c =
    let ends : c.rows_end-end.result
    ≡ rows_end (drop (c.args.row + 1) c.args.self.now.rows.items)
    (length c.args.self.now.cells.items) =
    search rules in
    let part =
    row_part c.args.row c.args.self.now.rows.items c.args.self.now.cells.items c.index.result.now
    c.rows_end-end.result c.args.self.now.shared c.requires c.index.ensures ends in
    omega (arith, part.rises, part.within, ap length c.deref-2.ensures.value)

pub returns : goal.returns
returns g c =
    let ends : c.rows_end-end.result
    ≡ rows_end (drop (c.args.row + 1) c.args.self.now.rows.items)
    (length c.args.self.now.cells.items) =
    search rules in
    let part =
    row_part c.args.row c.args.self.now.rows.items c.args.self.now.cells.items c.index.result.now
    c.rows_end-end.result c.args.self.now.shared c.requires c.index.ensures ends in
    ap (λ (cells : List (ColumnCell g.row.T.Denot)).
    take (c.rows_end-end.result - c.index.result.now.first) (drop c.index.result.now.first cells))
    c.deref-2.ensures.value
    ∙ sym part.is
