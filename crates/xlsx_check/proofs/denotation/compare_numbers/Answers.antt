use Rattle.std.proofs.Common.{rules, ◌≡◌, ℤ, pos, ◌-ℤ◌, ap, ◌∙◌}
use Rattle.std.specs.Prelude.{FitsSigned}
use Rattle.std.specs.Int.{w128}
use Rattle.std.specs.Ordering.{int_cmp}
use Rattle.decimals.specs.Words.{number_of}
use Rattle.xlsx_check.specs.Evaluation.{taken_to}
use Rattle.xlsx_check.proofs.Numbers.{both_ordered, first_order, second_order}
use Rattle.xlsx_check.proofs.denotation.compare_numbers.Goals as goal

pub returns-in_default : goal.returns-in_default
returns-in_default c =
    let a : ℤ × ℤ = number_of c.args.a in
    let b : ℤ × ℤ = number_of c.args.b in
    let power : ℤ = c.lower-power.result in
    let fits_a : FitsSigned w128 a.0 = search rules in
    let fits_b : FitsSigned w128 b.0 = search rules in
    let past : FitsSigned w128 (taken_to power a) → ⊥ = search rules in
    let order : c.cmp.result ≡ int_cmp a.0 (pos 0) = search rules in
    first_order a b power c.cmp.result c.lower-power.ensures.value fits_a fits_b past order

pub returns-in_default-taken_to : goal.returns-in_default-taken_to
returns-in_default-taken_to c =
    let a : ℤ × ℤ = number_of c.args.a in
    let b : ℤ × ℤ = number_of c.args.b in
    let power : ℤ = c.lower-power.result in
    let fits : FitsSigned w128 (taken_to power a) = search rules in
    let past : FitsSigned w128 (taken_to power b) → ⊥ = search rules in
    let order : c.cmp-in_default-taken_to.result ≡ int_cmp (pos 0) b.0 = search rules in
    second_order a b power c.cmp-in_default-taken_to.result c.lower-power.ensures.value fits past
    order

pub returns : goal.returns
returns c =
    let a : ℤ × ℤ = number_of c.args.a in
    let b : ℤ × ℤ = number_of c.args.b in
    let power : ℤ = c.lower-power.result in
    let first_is : c.in-Some.first ≡ taken_to power a = search rules in
    let second_is : c.in-Some-taken_to.second ≡ taken_to power b = search rules in
    let order : c.cmp-2.result ≡ int_cmp c.in-Some.first c.in-Some-taken_to.second = search rules in
    both_ordered (taken_to power a) (taken_to power b) c.in-Some.first c.in-Some-taken_to.second
    c.cmp-2.result first_is second_is order
    ∙ ap (λ (p : ℤ). int_cmp (taken_to p a -ℤ taken_to p b) (pos 0)) c.lower-power.ensures.value
