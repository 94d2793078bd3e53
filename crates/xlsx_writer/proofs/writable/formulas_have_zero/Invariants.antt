use Rattle.std.proofs.Common.{◌≡◌, string_bytes}
use Rattle.std.specs.List.{list_any}
use Rattle.cell_data.specs.Words.{formula_pairs}
use Rattle.cell_data.proofs.Stepping.{meant}
use Rattle.sorted_cells.specs.Words.{placed_left}
use Rattle.written_markup.specs.Words.{has_byte}
use Rattle.xlsx_writer.proofs.writable.formulas_have_zero.Given as goal

abbrev pub invariant-loop-formula : goal.invariant-loop-formula
invariant-loop-formula l =
    list_any (λ entry. has_byte 0 entry.1)
    (meant string_bytes (placed_left l.formula-iterator))
    ≡ list_any (λ entry. has_byte 0 entry.1) (formula_pairs l.formulas)
