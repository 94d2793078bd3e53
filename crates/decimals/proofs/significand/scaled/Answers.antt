use Rattle.std.proofs.Common.{rules, arith, ◌≡◌, ◌*◌, ◌^◌, ap, ◌∙◌}
use Rattle.decimals.proofs.Digits.{scaled_over, scaled_more}
use Rattle.decimals.proofs.significand.scaled.Goals as goal

pub returns-in_err-product : goal.returns-in_err-product
returns-in_err-product c =
    let over =
    scaled_over (2 ^ 128) c.args.number c.loop.counter c.args.power (omega arith)
    (omega arith) in
    rw c.from_residual.ensures (λ fits. omega arith)

pub loop-preserved : goal.loop-preserved
loop-preserved c = record {
  some = omega arith;
  product =
      scaled_more c.args.number c.loop.counter c.loop.product c.in_ok-product.product
      c.loop.invariant.product (search rules);
  fits = search rules;
}

pub returns : goal.returns
returns c =
    let last : c.loop.counter ≡ c.args.power = omega arith in
    let product = c.loop.invariant.product ∙ ap (λ k. c.args.number * 10 ^ k) last in
    (omega (arith, product), product)
