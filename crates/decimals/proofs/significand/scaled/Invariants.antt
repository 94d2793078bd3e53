use Rattle.std.proofs.Common.{◌≡◌, ◌*◌, ◌^◌, ◌<◌}
use Rattle.decimals.proofs.significand.scaled.Given as goal

abbrev pub invariant-loop : goal.invariant-loop
invariant-loop l = record {
  some : 0 < l.number;
  product : l.product ≡ l.number * 10 ^ l.counter;
  fits : l.product < 2 ^ 128;
}
