use Rattle.std.proofs.Common.{◌≡◌, ◌<◌, ◌^◌, take, drop}
use Rattle.std.specs.Str.Parse.{digits_value}
use Rattle.attr_text.specs.Words.{all_digits}
use Rattle.xlsx_styles.proofs.color_text.hex_number.Given as goal

abbrev pub invariant-loop-digit : goal.invariant-loop-digit
invariant-loop-digit l = record {
  number : l.number ≡ digits_value 16 (take l.digit-index l.digits);
  bound : l.number < 16 ^ l.digit-index;
  left : all_digits 16 (drop l.digit-index l.digits) ≡ all_digits 16 l.digits;
}
