use Rattle.std.proofs.Common.{string_bytes}
use Rattle.std.proofs.lemmas.Result.{on_ok_weaker}
use Rattle.xlsx_graph.specs.Graph.{needed}
use Rattle.xlsx_graph.proofs.EdgesWithin.{needed_are_within}
use Rattle.xlsx_graph.proofs.OrderTexts.{left_own}
use Rattle.xlsx_graph.proofs.order_lines.push_if_left.Goals as goal

pub returns-clause-ok : goal.returns-clause-ok
returns-clause-ok c =
    let fs = c.args.graph.now.formulas in
    on_ok_weaker c.push_order_line.result
    (left_own c.args.book.now fs c.args.in_order.now c.args.number c.left_mark.result.now
    (string_bytes c.args.out.now) (string_bytes c.push_order_line.new.out)
    c.if-in_order-number.false
    (c.left_mark.ensures (needed fs) (needed_are_within fs) c.requires.cycles))
    c.push_order_line.ensures.ok
