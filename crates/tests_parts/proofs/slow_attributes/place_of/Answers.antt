use Rattle.std.proofs.Common.{sym, arith}
use Rattle.std.specs.Prelude.{◌==◌}
use Rattle.std.proofs.lemmas.Bool.{eq-eqb}
use Rattle.std.proofs.lemmas.List.Sums.{position_or_len_is}
use Rattle.tests_parts.proofs.slow_attributes.place_of.Goals as goal

pub returns-else-text-place-clause-value : goal.returns-else-text-place-clause-value
returns-else-text-place-clause-value c =
    let loop = c.loop-place in
    sym (position_or_len_is
    (λ b. b == c.args.byte)
    c.args.text.now loop.place 0 loop.invariant.within loop.invariant.fails
    (λ _. eq-eqb _ _ c.if-text-place.false))

pub returns-after-loop-place-clause-value : goal.returns-after-loop-place-clause-value
returns-after-loop-place-clause-value c =
    let loop = c.loop-place in
    sym (position_or_len_is
    (λ b. b == c.args.byte)
    c.args.text.now loop.place 0 loop.invariant.within loop.invariant.fails
    (λ below. absurd (omega (arith, c.loop-place-test.false))))
