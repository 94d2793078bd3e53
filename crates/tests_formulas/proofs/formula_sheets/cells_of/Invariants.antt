use Rattle.std.proofs.Common.{All}
use Rattle.cell_data.specs.Words.{IsInSheet}
use Rattle.tests_formulas.proofs.formula_sheets.cells_of.Given as goal

abbrev pub invariant-loop-line : goal.invariant-loop-line
invariant-loop-line l =
    All IsInSheet l.cells.items × (goal.iterator-loop-line).can_next l.line-iterator
    × (goal.iterator-loop-line).is_finite l.line-iterator
