use Rattle.std.proofs.Common.{arith}
use Rattle.decimals.proofs.Parts.{zero_cut}
use Rattle.decimals.proofs.significand.without_zeros.Goals as goal

pub loop-zeros-preserved : goal.loop-zeros-preserved
loop-zeros-preserved c = record {
  product = zero_cut c.args.number c.loop-zeros.left c.loop-zeros.zeros
      c.loop-zeros.invariant.product (omega arith);
  some = λ _. omega arith;
}
