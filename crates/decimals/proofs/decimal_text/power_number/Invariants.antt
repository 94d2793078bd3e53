use Rattle.std.proofs.Common.{◌≡◌, ◌^◌, min, take, drop}
use Rattle.std.specs.Str.{all_ascii_digits}
use Rattle.std.specs.Str.Parse.{digits_value}
use Rattle.decimals.proofs.decimal_text.power_number.Given as goal

abbrev pub invariant-loop-byte : goal.invariant-loop-byte
invariant-loop-byte l = record {
  digits : all_ascii_digits (drop l.byte-index l.digits) ≡ all_ascii_digits l.digits;
  number : l.number ≡ min (digits_value 10 (take l.byte-index l.digits)) (2 ^ 100);
}
