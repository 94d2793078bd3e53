use Rattle.std.proofs.Common.{◌∙◌, sym}
use Rattle.xlsx_writer.proofs.LeastCuts.{kept, cut_here, all_kept, test_at}
use Rattle.xlsx_writer.proofs.least_escapes.next_escaped.Goals as goal

pub loop-i-preserved : goal.loop-i-preserved
loop-i-preserved c =
    kept c.args.text.now c.loop-i.i c.loop-i-test.true c.loop-i.invariant
    (test_at c.args.text.now c.loop-i.i ∙ sym c.is_escaped.ensures ∙ c.if-is_escaped.false)

pub returns-then-is_escaped : goal.returns-then-is_escaped
returns-then-is_escaped c =
    cut_here c.args.text.now c.loop-i.i c.loop-i-test.true c.loop-i.invariant
    (test_at c.args.text.now c.loop-i.i ∙ sym c.is_escaped.ensures ∙ c.if-is_escaped.true)

pub returns : goal.returns
returns c = all_kept c.args.text.now c.loop-i.i c.loop-i-test.false c.loop-i.invariant
