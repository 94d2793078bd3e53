use Rattle.std.proofs.Common.{sym, ◌∙◌, arith}
use Rattle.tests_parts.proofs.SlowLemmas.{without_trailing_space-is}
use Rattle.tests_parts.proofs.slow_attributes.front_part.Goals as goal
use Rattle.tests_parts.proofs.slow_attributes.front_part.Goals.{
  then-loop-end-test+else-is_ascii_whitespace,
}
use Rattle.tests_parts.proofs.slow_attributes.front_part.Goals.{else-loop-end-test}

pub returns : goal.returns
returns c =
    let loop = c.loop-end in
    let text = c.args.text.now in
    without_trailing_space-is text loop.end loop.invariant.within loop.invariant.passes
    (elim c.loop-end-test.branch [
      | then-loop-end-test+else-is_ascii_whitespace w ↦ λ _. sym w.is_ascii_whitespace.ensures.value
          ∙ w.if-is_ascii_whitespace.false
      | else-loop-end-test w ↦ λ above. absurd (omega (arith, w.loop-end-test.false))
    ])
