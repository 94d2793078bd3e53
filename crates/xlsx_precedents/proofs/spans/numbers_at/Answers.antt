use Rattle.std.proofs.Common.{rules, ◌≡◌}
use Rattle.std.proofs.lemmas.List.Sorted.{IsNonDecreasingBy-from_sort}
use Rattle.xlsx_precedents.specs.Spans.{numbers_having, spans_told}
use Rattle.xlsx_precedents.proofs.InOrder.{sorted_are}
use Rattle.xlsx_precedents.proofs.spans.numbers_at.Goals as goal

pub returns-clause-having : goal.returns-clause-having
returns-clause-having g c =
    let sorted = c.sort_unstable.new.self.items in
    let found : c.push_having.new.numbers.items
    ≡ numbers_having c.args.pos (spans_told c.args.spans.now) = search rules in
    sorted_are c.args.pos c.args.areas.now (spans_told c.args.spans.now) c.requires.are
    c.push_having.new.numbers.items sorted found c.sort_unstable.ensures.permutation
    (IsNonDecreasingBy-from_sort (λ n. n) sorted c.sort_unstable.ensures.sorted)
