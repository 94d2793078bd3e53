use Rattle.std.proofs.Common.{◌≡◌, ◌++◌, drop}
use Rattle.xlsx_precedents.specs.Spans.{numbered_from, spans_told}
use Rattle.xlsx_precedents.proofs.spans.numbered.Given as goal

abbrev pub invariant-loop-number : goal.invariant-loop-number
invariant-loop-number l =
    spans_told l.spans.items ++ numbered_from l.number (drop l.number l.areas)
    ≡ numbered_from 0 l.areas
