use Rattle.std.proofs.Common.{rules, arith, ◌≡◌, ◌<◌, ◌^◌, ◌*◌, ◌∙◌, ap, refl, sym, cond, Some, pos}
use Rattle.std.proofs.Common.{◌==◌, ◌+ℤ◌}
use Rattle.std.specs.Prelude.{nat_abs}
use Rattle.std.specs.Int.{is_negative}
use Rattle.std.specs.Option.{option_map}
use Rattle.decimals.specs.Decimal.{number_of}
use Rattle.decimals.specs.Decimals.{with_sign, fitting, decimal_from}
use Rattle.decimals.specs.Rounding.{digits_behind, nearest}
use Rattle.decimals.proofs.Rounded.{few_digits, in_its_form, rounded_itself, rounded_to_none}
use Rattle.decimals.proofs.Rounded.{rounded_parts}
use Rattle.decimals.proofs.decimal.Decimal.rounded.Goals as goal

pub returns-then-digits-eq0 : goal.returns-then-digits-eq0
returns-then-digits-eq0 c =
    let is : option_map number_of c.fitting.result ≡ Some (pos 0, pos 0) = search rules in
    is ∙ rounded_to_none c.args.digits c.args.self.mantissa c.args.self.exponent
    c.if-digits-eq0.true

pub returns-then-behind-eq0 : goal.returns-then-behind-eq0
returns-then-behind-eq0 c =
    let none : digits_behind c.args.digits (nat_abs c.args.self.mantissa) ≡ 0 = search rules in
    in_its_form c.args.self (search rules) (search rules)
    ∙ ap decimal_from
    (sym (rounded_itself c.args.digits c.args.self.mantissa c.args.self.exponent
    c.if-digits-eq0.false none))

pub nearest-requires-clause-places : goal.nearest-requires-clause-places
nearest-requires-clause-places c =
    omega (arith, few_digits c.unsigned_abs-number.result (search rules))

pub returns : goal.returns
returns c =
    let (number, zeros) = c.without_zeros-number.result in
    let behind = c.saturating_sub-behind.result in
    let is : behind ≡ digits_behind c.args.digits (nat_abs c.args.self.mantissa) = search rules in
    let value : number * 10 ^ zeros ≡ nearest behind (nat_abs c.args.self.mantissa) =
    search rules in
    let small : nearest behind (nat_abs c.args.self.mantissa) < 2 ^ 128 = search rules in
    let known : option_map number_of c.fitting-2.result
    ≡ cond (number == 0) (Some (pos 0, pos 0))
    (fitting (
      with_sign (is_negative c.args.self.mantissa) number,
      (c.args.self.exponent +ℤ pos behind) +ℤ pos zeros,
    )) =
    search rules in
    known
    ∙ rounded_parts c.args.digits c.args.self.mantissa c.args.self.exponent _ behind number zeros
    c.if-digits-eq0.false is value small c.without_zeros-number.ensures.trimmed refl
