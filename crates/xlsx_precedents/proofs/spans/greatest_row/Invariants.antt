use Rattle.std.proofs.Common.{◌≡◌, drop}
use Rattle.xlsx_precedents.specs.Spans.{greatest_from, spans_told}
use Rattle.xlsx_precedents.proofs.spans.greatest_row.Given as goal

abbrev pub invariant-loop-span : goal.invariant-loop-span
invariant-loop-span l =
    greatest_from l.greatest (spans_told (drop l.span-index l.spans))
    ≡ greatest_from 0 (spans_told l.spans)
