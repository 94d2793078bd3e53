use Rattle.std.proofs.Common.{rules}
use Rattle.xlsx_precedents.proofs.Halving.{spans_are}
use Rattle.xlsx_precedents.proofs.spans.spans_of.Goals as goal

pub returns : goal.returns
returns c =
    spans_are c.args.areas.now c.in_ok-numbered.field-0.items c.by_first_row-sorted.result.items
    c.in_ok-spans.spans.items c.push_halved.new.out.items c.in_ok-numbered.ensures
    c.by_first_row-sorted.ensures.same c.by_first_row-sorted.ensures.rising
    c.in_ok-spans.ensures.items (search rules)
