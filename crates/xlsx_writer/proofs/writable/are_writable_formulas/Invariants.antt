use Rattle.std.proofs.Common.{◌≡◌, string_bytes}
use Rattle.cell_data.specs.Words.{formula_pairs}
use Rattle.cell_data.proofs.Stepping.{meant}
use Rattle.sorted_cells.specs.Words.{placed_left}
use Rattle.xlsx_writer.specs.Writable.{are_writable_formulas}
use Rattle.xlsx_writer.proofs.writable.are_writable_formulas.Given as goal

abbrev pub invariant-loop-formula : goal.invariant-loop-formula
invariant-loop-formula l =
    are_writable_formulas (meant string_bytes (placed_left l.formula-iterator))
    ≡ are_writable_formulas (formula_pairs l.formulas)
