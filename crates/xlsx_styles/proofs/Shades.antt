-- Fractions of channels: none is below 0 or above 255.
use Rattle.std.proofs.Common.{◌≡◌, ℕ, ◌+◌, ◌-◌, ◌*◌, ◌/◌, ◌^◌, ◌<◌, ◌≤◌, min, ap, subst, sym, ◌∙◌}
use Rattle.std.proofs.Common.{arith}
use Rattle.std.specs.Prelude.{ℤ, pos, negsuc, true, zero, suc, nat_abs}
use Rattle.std.specs.Int.Signed.{le_z}
use Rattle.decimals.specs.Words.{number_of}
use Rattle.decimals.specs.declared.decimal.Decimal.{Decimal}
use Rattle.xlsx_styles.specs.Tint.{unit, parts_of, number_size, tint_size, with_decimals}
use Rattle.std.proofs.Math.Nat.{mul-le-mul_left, mul-add, add-mul, mul_comm, mul_assoc}
use Rattle.std.proofs.Math.Nat.{mul-div_cancel, mul-le-mul_right, mul-le-mul, one-le-pow}
use Rattle.std.proofs.Math.Nat.{pow-le-pow_right, div-eq_of_lt, div-div-eq-div-mul}
use Rattle.std.proofs.lemmas.Nat.{pow-add}

pub above_zero : (tinted room swing sum twice : ℕ) → swing ≤ tinted → sum ≤ twice + room
    → swing * sum ≤ tinted * room + swing * twice
above_zero tinted room swing sum twice less low =
    let whole = mul-le-mul_left swing low in
    let split : swing * (twice + room) ≡ swing * twice + swing * room = mul-add swing twice room in
    let more = mul-le-mul_right room less in
    omega arith

pub below_full : (tinted room swing sum twice full : ℕ) → swing + tinted ≤ full → twice ≤ sum + room
    → tinted * room + swing * twice - swing * sum ≤ full * room
below_full tinted room swing sum twice full less high =
    let whole = mul-le-mul_left swing high in
    let split : swing * (sum + room) ≡ swing * sum + swing * room = mul-add swing sum room in
    let both : (swing + tinted) * room ≡ swing * room + tinted * room = add-mul swing tinted room in
    let more = mul-le-mul_right room less in
    omega arith

-- a number of few places, in parts of ten to the twentieth
powers : (places : ℕ) → places ≤ 20 → 10 ^ places * 10 ^ (20 - places) ≡ 10 ^ 20
powers places few = sym (pow-add 10 places (20 - places))
    ∙ ap (λ n. 10 ^ n) (let e : places + (20 - places) ≡ 20 = omega arith in e)

quotient : (size places : ℕ) → places ≤ 20 → size * 10 ^ 20 / 10 ^ places
    ≡ size * 10 ^ (20 - places)
quotient size places few =
    let some : 0 < 10 ^ places = one-le-pow places 10 (omega arith) in
    let regroup : size * 10 ^ 20 ≡ size * 10 ^ (20 - places) * 10 ^ places =
    ap (λ n. size * n) (sym (powers places few) ∙ mul_comm (10 ^ places) (10 ^ (20 - places)))
    ∙ sym (mul_assoc size (10 ^ (20 - places)) (10 ^ places)) in
    ap (λ n. n / 10 ^ places) regroup ∙ mul-div_cancel (size * 10 ^ (20 - places)) some

pub few_below : (size places : ℕ) → places ≤ 20 → size < 10 ^ places
    → (size * 10 ^ (20 - places) ≤ 10 ^ 20)
    × (size * 10 ^ (20 - places) ≡ min (size * 10 ^ 20 / 10 ^ places) (10 ^ 20))
few_below size places few below =
    let less : size ≤ 10 ^ places = omega arith in
    let most : size * 10 ^ (20 - places) ≤ 10 ^ 20 =
    subst (λ n. size * 10 ^ (20 - places) ≤ n) (powers places few)
    (mul-le-mul_right (10 ^ (20 - places)) less) in
    (most, rw (quotient size places few) (omega arith))

pub few_above : (size places : ℕ) → places ≤ 20 → 10 ^ places ≤ size
    → 10 ^ 20 ≡ min (size * 10 ^ 20 / 10 ^ places) (10 ^ 20)
few_above size places few above =
    let least : 10 ^ 20 ≤ size * 10 ^ (20 - places) =
    subst (λ n. n ≤ size * 10 ^ (20 - places)) (powers places few)
    (mul-le-mul_right (10 ^ (20 - places)) above) in
    rw (quotient size places few) (omega arith)

-- a number of few places that is at most 1
taken_exactly : (size places : ℕ) → places ≤ 20 → size ≤ 10 ^ places
    → min (size * 10 ^ 20 / 10 ^ places) (10 ^ 20) * 10 ^ places ≡ size * 10 ^ 20
taken_exactly size places few fits =
    let most : size * 10 ^ (20 - places) ≤ 10 ^ 20 =
    subst (λ n. size * 10 ^ (20 - places) ≤ n) (powers places few)
    (mul-le-mul_right (10 ^ (20 - places)) fits) in
    let whole : min (size * 10 ^ (20 - places)) (10 ^ 20) ≡ size * 10 ^ (20 - places) = omega arith
    in
    ap (λ n. min n (10 ^ 20) * 10 ^ places) (quotient size places few)
    ∙ (ap (λ n. n * 10 ^ places) whole
    ∙ (mul_assoc size (10 ^ (20 - places)) (10 ^ places)
    ∙ ap (λ n. size * n) (mul_comm (10 ^ (20 - places)) (10 ^ places) ∙ powers places few)))

pub short_exact : (tint : Decimal) (mantissa : ℤ) (places : ℕ)
    → number_of tint ≡ with_decimals mantissa places → places ≤ 20 → nat_abs mantissa ≤ 10 ^ places
    → tint_size tint * 10 ^ places ≡ nat_abs mantissa * 10 ^ 20
short_exact tint mantissa zero is few fits =
    ap (λ (number : ℤ × ℤ). number_size number * 10 ^ 0) is
    ∙ (let at_most : nat_abs mantissa ≤ 1 = omega arith in omega arith)
short_exact tint mantissa (suc places) is few fits =
    let one : places + 1 ≡ suc places = omega arith in
    ap (λ (number : ℤ × ℤ). number_size number * 10 ^ suc places) is
    ∙ subst (λ n. number_size (mantissa, negsuc places) * 10 ^ n ≡ nat_abs mantissa * 10 ^ 20) one
    (taken_exactly (nat_abs mantissa) (places + 1) (omega arith)
    (subst (λ n. nat_abs mantissa ≤ 10 ^ n) (sym one) fits))

-- a number of many places
pub many : (size places : ℕ) → 20 < places → size * 10 ^ 20 / 10 ^ places
    ≡ size / 10 ^ (places - 20)
many size places more =
    let whole : 20 + (places - 20) ≡ places = omega arith in
    let split : 10 ^ places ≡ 10 ^ 20 * 10 ^ (places - 20) =
    ap (λ n. 10 ^ n) (sym whole) ∙ pow-add 10 20 (places - 20) in
    ap (λ n. size * 10 ^ 20 / n) split
    ∙ (sym (div-div-eq-div-mul (size * 10 ^ 20) (10 ^ 20) (10 ^ (places - 20)))
    ∙ ap (λ n. n / 10 ^ (places - 20))
    (mul-div_cancel size (let some : 0 < 10 ^ 20 = omega arith in some)))

pub nothing_left : (size places : ℕ) → size < 2 ^ 128 → 58 < places
    → 0 ≡ min (size * 10 ^ 20 / 10 ^ places) (10 ^ 20)
nothing_left size places fits more =
    let far : 39 ≤ places - 20 = omega arith in
    let some : 0 < 10 = omega arith in
    let most : 10 ^ 39 ≤ 10 ^ (places - 20) = pow-le-pow_right some far in
    let below : size < 10 ^ (places - 20) = omega arith in
    let none : size / 10 ^ (places - 20) ≡ 0 = div-eq_of_lt below in
    let e = many size places (omega arith) in
    rw (e, none) (omega arith)

pub power_fits : (places : ℕ) → places ≤ 58 → 10 ^ (places - 20) < 2 ^ 128
power_fits places few =
    let near : places - 20 ≤ 38 = omega arith in
    let some : 0 < 10 = omega arith in
    let most : 10 ^ (places - 20) ≤ 10 ^ 38 = pow-le-pow_right some near in
    omega arith

pub power_some : (power : ℕ) → 0 < 10 ^ power
power_some power = one-le-pow power 10 (omega arith)

-- a number of no places that isn't 0
pub whole_size : (size : ℕ) (power : ℤ) → le_z (pos 0) power ≡ true → (size ≡ 0 → ⊥) → unit
    ≡ min (parts_of size power) unit
whole_size size (pos power) whole some =
    let one : 1 ≤ 10 ^ power = power_some power in
    let here : 1 ≤ size = omega arith in
    let least : 1 * 1 ≤ size * 10 ^ power = mul-le-mul here one in
    let most = mul-le-mul_right (10 ^ 20) least in
    omega arith
whole_size size (negsuc power) whole some = absurd (cc)
