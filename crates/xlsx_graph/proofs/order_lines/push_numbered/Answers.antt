use Rattle.std.proofs.Common.{◌∙◌, ◌<◌, ◌≤◌, ◌++◌, ap, arith, length, string_bytes}
use Rattle.std.proofs.lemmas.Result.{on_ok_weaker}
use Rattle.xlsx_graph.proofs.LineTexts.{numbered_none, numbered_own}
use Rattle.xlsx_graph.proofs.order_lines.push_numbered.Goals as goal

pub returns-then-number-len-clause-ok : goal.returns-then-number-len-clause-ok
returns-then-number-len-clause-ok c =
    let past : length c.args.graph.now.formulas ≤ c.args.number = omega arith in
    numbered_none c.args.book.now c.args.graph.now.formulas c.args.number
    (string_bytes c.args.out.now) past

pub returns-clause-ok : goal.returns-clause-ok
returns-clause-ok c =
    let within : c.args.number < length c.args.graph.now.formulas = omega arith in
    on_ok_weaker c.push_cell.result
    (λ pushed. pushed ∙ ap (λ bs. string_bytes c.args.out.now ++ bs)
    (numbered_own c.args.book.now c.args.graph.now.formulas c.args.number c.cell.result within
    c.cell.ensures))
    c.push_cell.ensures.ok
