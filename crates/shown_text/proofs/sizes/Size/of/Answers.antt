use Rattle.std.proofs.Common.{rules, arith, ◌≡◌, ◌∙◌, ◌-◌, ◌+ℤ◌, ◌<◌, ◌^◌, ap, pos, to_z, of_z}
use Rattle.std.specs.Prelude.{nat_abs}
use Rattle.std.specs.Int.{w64}
use Rattle.std.proofs.lemmas.Int.{ints}
use Rattle.decimals.specs.Words.{digit_count, nearest}
use Rattle.shown_text.proofs.SizeSteps.{size_is, power_is, few_kept, near_power}
use Rattle.shown_text.proofs.sizes.Size.of.Goals as goal

pub invariant_of-result-clause-few : goal.invariant_of-result-clause-few
invariant_of-result-clause-few c =
    let small : c.unsigned_abs-whole.result < 2 ^ 128 = search rules in
    let is : c.digits_behind-behind.result ≡ digit_count c.unsigned_abs-whole.result - 15 =
    search rules in
    let few = few_kept c.unsigned_abs-whole.result c.digits_behind-behind.result small is in
    omega (arith, few, c.without_digits.ensures)

pub invariant_of-result-clause-near : goal.invariant_of-result-clause-near
invariant_of-result-clause-near c =
    let e = c.args.number.now.exponent in
    let near = near_power e c.digits_behind-behind.result (search rules) (search rules) in
    let sum : to_z w64 (of_z w64 (to_z w64 (of_z w64 c.from.result)
    +ℤ to_z w64 (of_z w64 c.from-2.result))) ≡ e +ℤ pos c.digits_behind-behind.result =
    omega (arith, ints) in
    omega (arith, near, ap nat_abs sum)

pub returns-clause-number : goal.returns-clause-number
returns-clause-number c =
    let m = c.args.number.now.mantissa in
    let whole : c.unsigned_abs-whole.result ≡ nat_abs m = search rules in
    let is : c.digits_behind-behind.result ≡ digit_count (nat_abs m) - 15 = search rules in
    let known : c.without_digits.result ≡ nearest c.digits_behind-behind.result (nat_abs m) =
    search rules in
    known ∙ size_is m c.args.number.now.exponent c.digits_behind-behind.result is

pub returns-clause-power : goal.returns-clause-power
returns-clause-power c =
    let m = c.args.number.now.mantissa in
    let e = c.args.number.now.exponent in
    let is : c.digits_behind-behind.result ≡ digit_count (nat_abs m) - 15 = search rules in
    let sum : to_z w64 (of_z w64 (to_z w64 (of_z w64 c.from.result)
    +ℤ to_z w64 (of_z w64 c.from-2.result))) ≡ e +ℤ pos c.digits_behind-behind.result =
    omega (arith, ints) in
    sum ∙ power_is m e c.digits_behind-behind.result is
