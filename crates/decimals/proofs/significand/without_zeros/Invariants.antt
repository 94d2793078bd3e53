use Rattle.std.proofs.Common.{◌≡◌, ◌*◌, ◌^◌, ◌<◌}
use Rattle.decimals.proofs.significand.without_zeros.Given as goal

abbrev pub invariant-loop-zeros : goal.invariant-loop-zeros
invariant-loop-zeros l = record {
  product : l.left * 10 ^ l.zeros ≡ l.number;
  some : 0 < l.zeros → 0 < l.left;
}
