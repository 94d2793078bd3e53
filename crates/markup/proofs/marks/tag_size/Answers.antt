use Rattle.std.proofs.Common.{◌+◌, suc, sym, ap, ◌∙◌, arith, drop}
use Rattle.markup.specs.Marks.{bracket_place}
use Rattle.markup.proofs.TagEnds.{bracket_here, bracket_later, bracket_end}
use Rattle.markup.proofs.marks.tag_size.Goals as goal

pub returns-then-ends_tag-clause-value : goal.returns-then-ends_tag-clause-value
returns-then-ends_tag-clause-value c =
    let here = bracket_here c.loop-at.quote c.args.bytes.now c.loop-at.at c.loop-at-test.true
    (sym c.ends_tag.ensures ∙ c.if-ends_tag.true) in
    omega (arith, c.loop-at.invariant, here)

pub loop-at-preserved : goal.loop-at-preserved
loop-at-preserved c =
    let later = bracket_later c.loop-at.quote c.args.bytes.now c.loop-at.at c.loop-at-test.true
    (sym c.ends_tag.ensures ∙ c.if-ends_tag.false) in
    c.loop-at.invariant ∙ ap (λ n. c.loop-at.at + n) later
    ∙ ap (λ quote. c.loop-at.at + suc (bracket_place quote
    (drop (c.loop-at.at + 1) c.args.bytes.now)))
    (sym c.quote_behind-quote.ensures)
    ∙ omega arith

pub returns-clause-value : goal.returns-clause-value
returns-clause-value c =
    let past = bracket_end c.loop-at.quote c.args.bytes.now c.loop-at.at c.loop-at-test.false in
    omega (arith, c.loop-at.invariant, past)
