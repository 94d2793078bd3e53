use Rattle.std.proofs.Common.{◌≡◌, ◌≤◌, ◌+◌, ◌++◌, length, take, drop, true}
use Rattle.sorted_cells.specs.Rows.{are_rows, first_of_rows}
use Rattle.sorted_cells.specs.Thinned.{thinned}
use Rattle.sorted_cells.proofs.keeping.count_anew.Given as goal

abbrev pub invariant-loop-at : goal.invariant-loop-at
invariant-loop-at g l = record {
  written : l.written ≤ l.at;
  fits : l.place + length l.left ≤ length l.cells;
  shared : are_rows (first_of_rows (drop l.at l.rows)) (drop l.at l.rows) (length l.left) ≡ true;
  same :
      take l.written l.rows ++ thinned l.first l.last l.place (drop l.at l.rows) l.left
      ≡ thinned l.first l.last 0 l.fn.rows l.cells;
}
