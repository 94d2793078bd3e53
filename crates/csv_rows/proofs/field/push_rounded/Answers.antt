use Rattle.std.proofs.Common.{rules, ◌≡◌, ◌++◌, subst, Some, None, Option, ℤ, pos}
use Rattle.std.specs.Prelude.{string_bytes, OnOk}
use Rattle.std.specs.Fmt.{signed_decimal}
use Rattle.decimals.specs.Words.{number_of, decimal_from}
use Rattle.csv_rows.specs.RowsText.{rounded_or}
use Rattle.csv_rows.proofs.field.push_rounded.Goals as goal

pub returns-in-Some-clause-ok : goal.returns-in-Some-clause-ok
returns-in-Some-clause-ok c =
    let is : Some (number_of c.in-Some.decimal) ≡ decimal_from (c.args.number, pos 0) =
    search rules in
    subst (λ (found : Option (ℤ × ℤ)). OnOk c.push_number.result (string_bytes c.push_number.new.out
    ≡ string_bytes c.args.out.now ++ rounded_or (signed_decimal c.args.number) c.args.digits found))
    is c.push_number.ensures.ok

pub returns-in-None-clause-ok : goal.returns-in-None-clause-ok
returns-in-None-clause-ok c =
    let is : None ≡ decimal_from (c.args.number, pos 0) = search rules in
    let known : OnOk c.push_whole.result (string_bytes c.push_whole.new.out
    ≡ string_bytes c.args.out.now ++ signed_decimal c.args.number) = search rules in
    subst (λ (found : Option (ℤ × ℤ)). OnOk c.push_whole.result (string_bytes c.push_whole.new.out
    ≡ string_bytes c.args.out.now ++ rounded_or (signed_decimal c.args.number) c.args.digits found))
    is known
