use Rattle.std.proofs.Common.{rules, ◌≡◌, ℤ, pos, ◌+ℤ◌, ap, ◌∙◌, of_z}
use Rattle.std.specs.Prelude.{FitsSigned, SomeIff}
use Rattle.std.specs.Int.{w128}
use Rattle.decimals.specs.Words.{number_of}
use Rattle.xlsx_check.specs.Denoting.{denoted_by}
use Rattle.xlsx_check.specs.Evaluation.{from_whole, taken_to}
use Rattle.xlsx_check.proofs.Numbers.{sum_fits, first_past, second_past, sum_of_some}
use Rattle.xlsx_check.proofs.denotation.sum_of.Goals as goal

pub returns-in_default : goal.returns-in_default
returns-in_default c =
    let a : ℤ × ℤ = number_of c.args.a in
    let b : ℤ × ℤ = number_of c.args.b in
    let power : ℤ = c.lower-power.result in
    let first : a.0 ≡ pos 0 → ⊥ =
    λ zero. c.if-mantissa-eq0-2.false (ap (of_z w128) (c.mantissa-2.ensures ∙ zero)) in
    let second : b.0 ≡ pos 0 → ⊥ =
    λ zero. c.if-mantissa-eq0.false (ap (of_z w128) (c.mantissa.ensures ∙ zero)) in
    let past : FitsSigned w128 (taken_to power a) → ⊥ = search rules in
    sum_of_some a b power _ first second c.lower-power.ensures.value
    (first_past power (taken_to power a) (taken_to power b)
    (taken_to power a +ℤ taken_to power b) past)

pub returns-in_default-taken_to : goal.returns-in_default-taken_to
returns-in_default-taken_to c =
    let a : ℤ × ℤ = number_of c.args.a in
    let b : ℤ × ℤ = number_of c.args.b in
    let power : ℤ = c.lower-power.result in
    let first : a.0 ≡ pos 0 → ⊥ =
    λ zero. c.if-mantissa-eq0-2.false (ap (of_z w128) (c.mantissa-2.ensures ∙ zero)) in
    let second : b.0 ≡ pos 0 → ⊥ =
    λ zero. c.if-mantissa-eq0.false (ap (of_z w128) (c.mantissa.ensures ∙ zero)) in
    let past : FitsSigned w128 (taken_to power b) → ⊥ = search rules in
    sum_of_some a b power _ first second c.lower-power.ensures.value
    (second_past power (taken_to power a) (taken_to power b)
    (taken_to power a +ℤ taken_to power b) past)

pub returns : goal.returns
returns c =
    let a : ℤ × ℤ = number_of c.args.a in
    let b : ℤ × ℤ = number_of c.args.b in
    let power : ℤ = c.lower-power.result in
    let first : a.0 ≡ pos 0 → ⊥ =
    λ zero. c.if-mantissa-eq0-2.false (ap (of_z w128) (c.mantissa-2.ensures ∙ zero)) in
    let second : b.0 ≡ pos 0 → ⊥ =
    λ zero. c.if-mantissa-eq0.false (ap (of_z w128) (c.mantissa.ensures ∙ zero)) in
    let first_is : c.in-Some.first ≡ taken_to power a = search rules in
    let first_fits : FitsSigned w128 (taken_to power a) = search rules in
    let second_is : c.in-Some-taken_to.second ≡ taken_to power b = search rules in
    let second_fits : FitsSigned w128 (taken_to power b) = search rules in
    let known : SomeIff c.checked_add.result
    (FitsSigned w128 (c.in-Some.first +ℤ c.in-Some-taken_to.second))
    (c.in-Some.first +ℤ c.in-Some-taken_to.second) =
    search rules in
    let is : denoted_by c.number_of_whole.result ≡ from_whole c.checked_add.result power =
    search rules in
    sum_of_some a b power _ first second c.lower-power.ensures.value
    (sum_fits c.checked_add.result power (taken_to power a) (taken_to power b)
    c.in-Some.first c.in-Some-taken_to.second (denoted_by c.number_of_whole.result) first_is
    second_is first_fits second_fits known is)
