use Rattle.std.proofs.Common.{◌<◌, ◌≤◌, arith, length, string_bytes}
use Rattle.xlsx_graph.proofs.LineTexts.{lines_all, lines_step, line_extends}
use Rattle.xlsx_graph.proofs.graph_lines.push_formulas.Goals as goal

pub loop-number-preserved : goal.loop-number-preserved
loop-number-preserved c =
    let within : c.loop-number.number < length c.args.graph.now.formulas = omega arith in (
      line_extends c.args.book.now c.args.graph.now.formulas c.loop-number.number
          (string_bytes c.args.out.now) (string_bytes c.loop-number.out)
          (string_bytes c.push_formula.new.out) within c.loop-number.invariant.0
          c.in_ok-push_formula.ensures.ok,
      lines_step c.args.book.now c.args.graph.now.formulas c.loop-number.number
          (string_bytes c.loop-number.out) (string_bytes c.push_formula.new.out) _ within
          c.loop-number.invariant.1 c.in_ok-push_formula.ensures.ok,
    )

pub returns-clause-ok : goal.returns-clause-ok
returns-clause-ok c =
    let past : length c.args.graph.now.formulas ≤ c.loop-number.number = omega arith in
    lines_all c.args.book.now c.args.graph.now.formulas c.loop-number.number
    (string_bytes c.loop-number.out) (string_bytes c.args.out.now) past c.loop-number.invariant.1
