use Rattle.std.proofs.Common.{rules, ◌≡◌, ◌*◌, ◌^◌, ◌==◌, ◌∙◌, cond, Some, pos, ◌+ℤ◌}
use Rattle.std.specs.Prelude.{nat_abs}
use Rattle.std.specs.Int.{is_negative}
use Rattle.std.specs.Option.{option_map}
use Rattle.decimals.specs.Decimal.{number_of}
use Rattle.decimals.specs.Decimals.{with_sign, fitting}
use Rattle.decimals.proofs.Parts.{abs_small, parts_fit}
use Rattle.decimals.proofs.decimal.Decimal.from_parts.Goals as goal

pub returns : goal.returns
returns c =
    let (number, zeros) = c.without_zeros-number.result in
    let value : number * 10 ^ zeros ≡ nat_abs c.args.mantissa = search rules in
    let is : option_map number_of c.fitting.result
    ≡ cond (number == 0) (Some (pos 0, pos 0))
    (fitting (with_sign (is_negative c.args.mantissa) number, c.args.exponent +ℤ pos zeros)) =
    search rules in
    is
    ∙ parts_fit c.args.mantissa c.args.exponent number zeros
    (abs_small c.args.mantissa c.ranges.mantissa) value c.without_zeros-number.ensures.trimmed
