use Rattle.std.proofs.Common.{rules, arith, sym, ◌∙◌, ◌≡◌, ◌<◌, ◌^◌, ◌-◌, ◌+ℤ◌, ◌-ℤ◌, pos, to_z}
use Rattle.std.proofs.Common.{of_z}
use Rattle.std.specs.Int.{w128}
use Rattle.std.specs.Str.Parse.{starts_with_minus, without_leading_sign}
use Rattle.std.proofs.lemmas.Int.{ints}
use Rattle.decimals.proofs.Parsed.{reads_text, pieces_over, front_of_text_over, parsed, no_digits}
use Rattle.decimals.proofs.Parsed.{no_power}
use Rattle.decimals.proofs.decimal.Decimal.parse.Goals as goal

pub returns-in_err-whole : goal.returns-in_err-whole
returns-in_err-whole c =
    let body : c.behind_sign-is_negative.result.1.now ≡ without_leading_sign c.args.text.now =
    search rules in
    rw c.from_residual.ensures
    (sym (front_of_text_over c.args.text.now _ body c.in_err-whole.ensures.none))

pub returns-in_err-digits : goal.returns-in_err-digits
returns-in_err-digits c =
    let body : c.behind_sign-is_negative.result.1.now ≡ without_leading_sign c.args.text.now =
    search rules in
    rw c.from_residual-in_err-digits.ensures
    (sym (pieces_over c.args.text.now _ _ _ body c.in_ok-whole.ensures.some.0
    c.in_ok-whole.ensures.some.1 c.in_err-digits.ensures.none))

pub returns-then-digits-eq0 : goal.returns-then-digits-eq0
returns-then-digits-eq0 c =
    let body : c.behind_sign-is_negative.result.1.now ≡ without_leading_sign c.args.text.now =
    search rules in
    let reads =
    reads_text c.args.text.now _ _ _ _ _ body c.in_ok-whole.ensures.some.0
    c.in_ok-whole.ensures.some.1 c.in_ok-digits.ensures.some.0 c.in_ok-digits.ensures.some.1 in
    no_digits _ _ _ _ reads c.if-digits-eq0.true

pub returns-in_err-power : goal.returns-in_err-power
returns-in_err-power c =
    let body : c.behind_sign-is_negative.result.1.now ≡ without_leading_sign c.args.text.now =
    search rules in
    let reads =
    reads_text c.args.text.now _ _ _ _ _ body c.in_ok-whole.ensures.some.0
    c.in_ok-whole.ensures.some.1 c.in_ok-digits.ensures.some.0 c.in_ok-digits.ensures.some.1 in
    rw c.from_residual-in_err-power.ensures (no_power _ _ _ _ reads c.in_err-power.ensures.power)

pub fitting-requires : goal.fitting-requires
fitting-requires c =
    let body : c.behind_sign-is_negative.result.1.now ≡ without_leading_sign c.args.text.now =
    search rules in
    let reads =
    reads_text c.args.text.now _ _ _ _ _ body c.in_ok-whole.ensures.some.0
    c.in_ok-whole.ensures.some.1 c.in_ok-digits.ensures.some.0 c.in_ok-digits.ensures.some.1 in
    reads.keeps.trimmed

pub returns : goal.returns
returns c =
    let body : c.behind_sign-is_negative.result.1.now ≡ without_leading_sign c.args.text.now =
    search rules in
    let reads =
    reads_text c.args.text.now _ _ _ _ _ body c.in_ok-whole.ensures.some.0
    c.in_ok-whole.ensures.some.1 c.in_ok-digits.ensures.some.0 c.in_ok-digits.ensures.some.1 in
    let minus : c.behind_sign-is_negative.result.0 ≡ starts_with_minus c.args.text.now =
    search rules in
    let zeros : c.in_ok-digits.digits.zeros < 2 ^ 64 = search rules in
    let count : c.in_ok-digits.digits.count < 2 ^ 64 = search rules in
    let moved : to_z w128 (of_z w128 c.moved_power-power.result) ≡
    (c.in_ok-power.power +ℤ pos c.in_ok-digits.digits.zeros) -ℤ pos
    (c.in_ok-digits.digits.count - c.in_ok-whole.whole.count) = omega (arith, ints) in
    c.fitting.ensures
    ∙ parsed c.args.text.now _ _ _ _ c.in_ok-power.power _ reads minus c.if-digits-eq0.false
    zeros count c.in_ok-power.ensures.power moved
