use Rattle.std.proofs.Common.{◌≡◌, ◌+◌, ◌≤◌, ◌++◌, replicate, string_bytes, string_len}
use Rattle.std.proofs.Common.{string_capacity}
use Rattle.decimals.proofs.decimal_printing.push_zeros.Given as goal

abbrev pub invariant-loop : goal.invariant-loop
invariant-loop l = record {
  bytes : string_bytes l.out ≡ string_bytes l.initial.out ++ replicate l.counter 48;
  len : string_len l.out ≡ string_len l.initial.out + l.counter;
  capacity : string_capacity l.initial.out ≤ string_capacity l.out;
}
