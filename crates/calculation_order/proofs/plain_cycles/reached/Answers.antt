use Rattle.std.proofs.Common.{◌≡◌, ◌∙◌, ◌+◌, ◌-◌, ap, arith, length, suc, sym, ℕ}
use Rattle.calculation_order.specs.Edges.{reached, reached_within}
use Rattle.calculation_order.proofs.plain_cycles.reached.Goals as goal

pub loop-preserved : goal.loop-preserved
unfolding reached_within
loop-preserved c =
    let links = c.args.links.now.links in
    let left : length links - c.loop.counter ≡ suc (length links - (c.loop.counter + 1))
    = omega arith in
    record {
      numbers = ap (reached_within (length links - (c.loop.counter + 1)) links)
          c.in_ok-push_targets.ensures
          ∙ sym (ap (λ (n : ℕ). reached_within n links c.loop.numbers.items) left)
          ∙ c.loop.invariant.numbers;
    }

pub returns : goal.returns
unfolding reached_within reached
returns c =
    let links = c.args.links.now.links in
    let none : length links - c.loop.counter ≡ 0 = omega arith in
    sym (ap (λ (n : ℕ). reached_within n links c.loop.numbers.items) none)
    ∙ c.loop.invariant.numbers
