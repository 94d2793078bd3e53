use Rattle.std.proofs.Common.{rules}
use Rattle.std.proofs.lemmas.List.Sorted.{IsNonDecreasingBy-from_sort_by_key}
use Rattle.xlsx_precedents.specs.Spans.{first_row, span_told}
use Rattle.xlsx_precedents.specs.declared.spans.Span.{Span}
use Rattle.xlsx_precedents.proofs.Halving.{rising_told}
use Rattle.xlsx_precedents.proofs.spans.by_first_row.Goals as goal

pub returns-clause-rising : goal.returns-clause-rising
returns-clause-rising c =
    rising_told c.sort_unstable_by_key.new.self.items
    (IsNonDecreasingBy-from_sort_by_key (λ (s : Span). first_row (span_told s)) _
    c.sort_unstable_by_key.ensures.sorted (λ a r q k. search rules))
