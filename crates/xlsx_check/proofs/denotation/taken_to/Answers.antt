use Rattle.std.proofs.Common.{rules, ◌≡◌, ◌<◌, ◌^◌, pos, ◌-ℤ◌, ◌*ℤ◌, nat_abs, ◌∙◌, ap, of_z}
use Rattle.std.specs.Prelude.{SomeIff, FitsSigned}
use Rattle.std.specs.Int.{w128}
use Rattle.decimals.specs.Words.{number_of}
use Rattle.xlsx_check.proofs.Numbers.{taken_past, taken_is}
use Rattle.xlsx_check.proofs.denotation.taken_to.Goals as goal

pub returns-in_err-tens : goal.returns-in_err-tens
returns-in_err-tens c =
    let steps : c.unsigned_abs.result ≡ nat_abs (c.args.number.exponent -ℤ c.args.power) =
    search rules in
    let some : c.args.number.mantissa ≡ pos 0 → ⊥ =
    λ zero. c.if-mantissa-eq0.false (ap (of_z w128) (c.mantissa.ensures ∙ zero)) in
    let past : 10 ^ c.unsigned_abs.result < 2 ^ 127 → ⊥ = c.in_err-tens.ensures in
    rw c.from_residual.ensures
    (taken_past c.args.power (number_of c.args.number) c.unsigned_abs.result steps some past)

pub returns : goal.returns
returns c =
    let steps : c.unsigned_abs.result ≡ nat_abs (c.args.number.exponent -ℤ c.args.power) =
    search rules in
    let tens : c.in_ok-tens.field-0 ≡ pos (10 ^ c.unsigned_abs.result) = search rules in
    let known : SomeIff c.checked_mul.result
    (FitsSigned w128 (c.args.number.mantissa *ℤ c.in_ok-tens.field-0))
    (c.args.number.mantissa *ℤ c.in_ok-tens.field-0) =
    search rules in
    taken_is c.args.power (number_of c.args.number) c.unsigned_abs.result c.in_ok-tens.field-0
    c.checked_mul.result steps tens known
