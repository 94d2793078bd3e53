use Rattle.xlsx_writer.proofs.LeastCuts.{IsWrittenUpTo}
use Rattle.xlsx_writer.proofs.least_escapes.next_escaped.Given as goal

abbrev pub invariant-loop-i : goal.invariant-loop-i
invariant-loop-i l = IsWrittenUpTo l.text l.i
