use Rattle.std.proofs.Common.{◌≡◌, ◌++◌, string_bytes}
use Rattle.xlsx_pivots.specs.Words.{pairs_left, pairs_of, pivots_kept}
use Rattle.xlsx_commands.specs.PivotLists.{pivot_lines}
use Rattle.xlsx_commands.proofs.pivot_lines.lines_of_pivots.Given as goal

abbrev pub invariant-pivots : goal.invariant-pivots
invariant-pivots l = record {
  listed :
      string_bytes l.out ++ pivot_lines l.form (pairs_left l.pair-iterator)
      ≡ pivot_lines l.form (pairs_of (pivots_kept l.pivots));
}
