use Rattle.std.proofs.Common.{◌≡◌, true, List, ◌∙◌, ap}
use Rattle.std.specs.List.{filter}
use Rattle.cell_refs.specs.Words.{is_rising, is_in_area}
use Rattle.cell_refs.specs.declared.dimensions.Dimensions.{Dimensions}
use Rattle.sorted_cells.specs.declared.row.Row.{Row}
use Rattle.sorted_cells.specs.declared.row.ColumnCell.{ColumnCell}
use Rattle.sorted_cells.specs.Area.{entries_between}
use Rattle.sorted_cells.specs.Rows.{cells_by, first_of_rows}
use Rattle.sorted_cells.specs.Thinned.{is_between}
use Rattle.sorted_cells.proofs.Between.{left_rise}
use Rattle.sorted_cells.proofs.CutAreas.{cut_columns}
use Rattle.sorted_cells.proofs.sorted.SortedCells.cells_in.Goals as goal

pub new-requires-clause-rising : goal.new-requires-clause-rising
new-requires-clause-rising g c =
    let rising : is_rising (cells_by c.deref.result.now c.deref-2.result.now) ≡ true =
    rw (c.deref.ensures.value, c.deref-2.ensures.value) c.args.self.now.rising in
    left_rise (is_between c.args.start.0 c.args.end.0)
    (first_of_rows c.rows_between.result.0.now) c.deref.result.now
    c.rows_between.result.0.now c.deref-2.result.now c.rows_between.result.1.now
    c.rows_between.ensures rising

pub returns : goal.returns
returns g c =
    let area : Dimensions = record { start = c.args.start; end = c.args.end } in
    c.new.ensures
    ∙ (ap (entries_between c.args.start.1 c.args.end.1) c.rows_between.ensures.cells_are
    ∙ (cut_columns area (cells_by c.deref.result.now c.deref-2.result.now)
    ∙ (ap (λ (rows : List Row).
    filter (λ cell. is_in_area area cell.0) (cells_by rows c.deref-2.result.now))
    c.deref.ensures.value
    ∙ ap (λ (cells : List (ColumnCell g.row.T.Denot)).
    filter (λ cell. is_in_area area cell.0) (cells_by c.args.self.now.rows.items cells))
    c.deref-2.ensures.value)))
