use Rattle.std.proofs.Common.{sym, ◌∙◌, arith}
use Rattle.tests_parts.proofs.SlowLemmas.{without_leading_space-is}
use Rattle.tests_parts.proofs.slow_attributes.back_part.Goals as goal
use Rattle.tests_parts.proofs.slow_attributes.back_part.Goals.{
  then-loop-count-test+else-is_ascii_whitespace,
}
use Rattle.tests_parts.proofs.slow_attributes.back_part.Goals.{else-loop-count-test}

pub returns : goal.returns
returns c =
    let loop = c.loop-count in
    let text = c.args.text.now in
    c.text_from.ensures ∙ without_leading_space-is text loop.count loop.invariant.within
    loop.invariant.passes
    (elim c.loop-count-test.branch [
      | then-loop-count-test+else-is_ascii_whitespace w ↦ λ _.
          sym w.is_ascii_whitespace.ensures.value ∙ w.if-is_ascii_whitespace.false
      | else-loop-count-test w ↦ λ below. absurd (omega (arith, w.loop-count-test.false))
    ])
