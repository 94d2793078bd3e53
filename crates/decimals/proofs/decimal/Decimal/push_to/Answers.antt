use Rattle.std.proofs.Common.{rules, ◌≡◌, ◌++◌, string_bytes, pos, OnOk}
use Rattle.std.specs.Prelude.{int_lt, unsigned_abs}
use Rattle.std.specs.Fmt.{decimal, sign_text}
use Rattle.decimals.specs.Decimals.{printed_digits}
use Rattle.decimals.proofs.Printed.{sign_first, pushed_on}
use Rattle.decimals.proofs.ReadsBack.{decimal_back}
use Rattle.decimals.proofs.decimal.Decimal.push_to.Goals as goal

pub returns-clause-ok : goal.returns-clause-ok
returns-clause-ok c =
    let sign : string_bytes c.push_sign.new.out ≡ string_bytes c.args.out.now ++ sign_text
    (int_lt c.args.self.now.mantissa (pos 0)) = search rules in
    let digits : OnOk c.push_digits.result
    (string_bytes c.push_digits.new.out ≡ string_bytes c.push_sign.new.out ++ printed_digits
    (decimal (unsigned_abs c.args.self.now.mantissa)) c.args.self.now.exponent) =
    search rules in
    pushed_on c.push_digits.result _ _ _ _ _ _ digits sign
    (sign_first c.args.self.now.mantissa c.args.self.now.exponent)

pub returns-in_err-reserve-clause-back : goal.returns-in_err-reserve-clause-back
returns-in_err-reserve-clause-back c = decimal_back c.args.self.now (search rules) (search rules)

pub returns-clause-back : goal.returns-clause-back
returns-clause-back c = decimal_back c.args.self.now (search rules) (search rules)
