use Rattle.std.proofs.Common.{string_bytes}
use Rattle.std.proofs.lemmas.Result.{on_ok_weaker}
use Rattle.xlsx_graph.proofs.OrderTexts.{lines_by}
use Rattle.xlsx_graph.proofs.order_lines.push_both.Goals as goal

pub returns-clause-ok : goal.returns-clause-ok
returns-clause-ok c =
    on_ok_weaker c.push_left.result
    (lines_by c.args.book.now c.args.graph.now.formulas c.args.order.now c.args.in_order.now
    (string_bytes c.args.out.now) (string_bytes c.push_ordered.new.out)
    (string_bytes c.push_left.new.out) c.requires.told c.in_ok-push_ordered.ensures.ok)
    c.push_left.ensures.ok
