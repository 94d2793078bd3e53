use Rattle.std.proofs.Common.{map}
use Rattle.cell_data.specs.Words.{cells_of}
use Rattle.sorted_cells.specs.Words.{kept_cells, placed_left}
use Rattle.xlsx_precedents.specs.Precedents.{areas_named_by, formula_of_cell}
use Rattle.xlsx_precedents.proofs.Gathering.{Gathers}
use Rattle.xlsx_precedents.proofs.index.gather.Given as goal

abbrev pub invariant-loop-pos : goal.invariant-loop-pos
invariant-loop-pos l =
    Gathers (kept_cells l.cells) l.named (map formula_of_cell (placed_left l.pos-iterator))
    (map areas_named_by (map formula_of_cell (cells_of l.fn.formulas)))
