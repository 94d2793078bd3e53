use Rattle.std.proofs.Common.{◌≡◌, take, drop}
use Rattle.std.specs.Str.Parse.{digits_value}
use Rattle.attr_text.specs.Text.{all_digits}
use Rattle.attr_text.proofs.DigitsLemmas.{capped}
use Rattle.attr_text.proofs.entity.digits_number.Given as goal

abbrev pub invariant-loop-digit : goal.invariant-loop-digit
invariant-loop-digit l = record {
  number : l.number ≡ capped (digits_value l.base (take l.digit-index l.digits));
  left : all_digits l.base (drop l.digit-index l.digits) ≡ all_digits l.base l.digits;
}
