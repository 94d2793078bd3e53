use Rattle.std.proofs.Common.{All}
use Rattle.cell_data.specs.Words.{IsInSheet}
use Rattle.tests_formulas.proofs.check_tests.sheet.Given as goal

abbrev pub invariant-loop-case : goal.invariant-loop-case
invariant-loop-case l = All IsInSheet l.cells.items
