use Rattle.std.proofs.Common.{◌≡◌, ◌∙◌, ◌++◌, ap, arith, filter, flat_map, get_or, length, not}
use Rattle.std.proofs.Common.{string_bytes, false}
use Rattle.calculation_order.specs.Edges.{numbers_below}
use Rattle.escaped_text.proofs.Extending.{Extends-push, Extends-trans}
use Rattle.xlsx_graph.specs.Graph.{needed}
use Rattle.xlsx_graph.specs.GraphLines.{left_line}
use Rattle.xlsx_graph.proofs.OrderTexts.{left_more}
use Rattle.xlsx_graph.proofs.order_lines.push_left.Goals as goal

pub loop-number-preserved : goal.loop-number-preserved
loop-number-preserved c =
    let fs = c.args.graph.now.formulas in
    let start = string_bytes c.args.out.now in
    let out = string_bytes c.loop-number.out in
    let new = string_bytes c.push_if_left.new.out in
    record {
      extends = Extends-trans start out new c.loop-number.invariant.extends
          (Extends-push out new _ c.in_ok-push_if_left.ensures.ok);
      lines = left_more (left_line c.args.book.now fs (needed fs)) c.args.in_order.now
          c.loop-number.number start out new c.loop-number.invariant.lines
          c.in_ok-push_if_left.ensures.ok;
    }

pub returns-clause-ok : goal.returns-clause-ok
returns-clause-ok c =
    let fs = c.args.graph.now.formulas in
    let all : c.loop-number.number ≡ length fs = omega arith in
    c.loop-number.invariant.lines
    ∙ ap (λ k. string_bytes c.args.out.now ++ flat_map (left_line c.args.book.now fs (needed fs))
    (filter (λ n. not (get_or c.args.in_order.now n false)) (numbers_below k))) all
