-- A number by its digits.
use Rattle.std.proofs.Common.{◌≡◌, ℕ, ◌+◌, ◌-◌, ◌%◌, ◌^◌, ◌<◌, ◌≤◌, ◌==◌, false, length, sym, ap}
use Rattle.std.proofs.Common.{◌∙◌, arith, inl, inr, ℤ, pos, negsuc, ◌+ℤ◌, ◌<ℤ◌, ◌≤ℤ◌, Some, ◌∷◌, []}
use Rattle.std.specs.Prelude.{nat_abs, nat_lt, FitsSigned, ◌-ℤ◌}
use Rattle.std.specs.Int.{w32}
use Rattle.std.specs.Fmt.{decimal}
use Rattle.std.proofs.Math.Nat.{pow-le-pow_right, mod-eq_of_lt}
use Rattle.std.proofs.lemmas.Bool.{cases_lt}
use Rattle.std.proofs.lemmas.Bool.Decides.{nat_tests}
use Rattle.std.proofs.lemmas.Fmt.{decimal_is_IsNumeral_wide, length-decimal-le_wide}
use Rattle.std.proofs.lemmas.Int.{ints}
use Rattle.decimals.specs.Words.{digit_count, digits_behind, nearest}
use Rattle.decimals.specs.Rounding.{rounded_number}
use Rattle.decimals.proofs.Nearest.{nearest_most}
use Rattle.decimals.proofs.Rounded.{size_signed}
use Rattle.decimals.proofs.RoundedLaws.{has_digits, nearest_zero}
use Rattle.excel_dates.specs.Words.{nearest_at}
use Rattle.excel_dates.proofs.SerialSteps.{nothing_left, by_false, not_less}
use Rattle.shown_text.specs.Digits.{digits_above_0, nearest_digits}
use Rattle.shown_text.specs.GeneralText.{shown_digits, has_nine_places, general_places, first_power}
use Rattle.shown_text.specs.GeneralText.{scientific, text_in_places, general_size}

-- a number has a digit
pub some_digits : (n : ℕ) → n < 2 ^ 128 → 0 < length (decimal n)
some_digits n small = (decimal_is_IsNumeral_wide n (omega arith)).0.0

-- a number below ten to the power 15 has no digit behind the first fifteen
pub none_behind : (n : ℕ) → n < 10 ^ 15 → digits_behind 15 n ≡ 0
none_behind n small =
    let few = length-decimal-le_wide 15 n (omega arith) small (omega (arith, small)) in
    omega (arith, few)

-- without none of its digits a number is itself
pub nearest_itself : (n : ℕ) → nearest 0 n ≡ n
nearest_itself n = omega arith

-- the size of a number in fifteen digits
pub size_is : (m e : ℤ) (behind : ℕ) → behind ≡ digit_count (nat_abs m) - 15 →
    nearest behind (nat_abs m) ≡ nat_abs (shown_digits (m, e)).0
unfolding rounded_number
size_is m e behind is =
    ap (λ k. nearest k (nat_abs m)) is
    ∙ sym (size_signed _ (nearest (digits_behind 15 (nat_abs m)) (nat_abs m)))

pub power_is : (m e : ℤ) (behind : ℕ) → behind ≡ digit_count (nat_abs m) - 15 →
    (e +ℤ pos behind) ≡ (shown_digits (m, e)).1
unfolding rounded_number
power_is m e behind is = ap (λ k. e +ℤ pos k) is

-- it has fifteen digits, or one more where it is ten to the power 15
pub few_kept : (n behind : ℕ) → n < 2 ^ 128 → behind ≡ digit_count n - 15 →
    nearest behind n ≤ 10 ^ 15
few_kept n behind small is = elim (cases_lt 0 n) [
  | inl positive ↦
      let count = digit_count n in
      let most = nearest_most 15 n count (has_digits n positive small) in
      let power : 10 ^ (count - (count - 15)) ≤ 10 ^ 15 =
      pow-le-pow_right (omega arith) (let h : count - (count - 15) ≤ 15 = omega arith in h) in
      omega (arith, most, power, ap (λ k. nearest k n) is)
  | inr none ↦
      let itself : n ≡ 0 = omega (arith, none) in
      omega (arith, ap (nearest behind) itself, nearest_zero behind)
]

-- nothing is left of a number that is far below 1
pub far_below : (n : ℕ) (power : ℤ) → n ≤ 10 ^ 15 → power <ℤ pos 0 → 39 ≤ nat_abs power →
    (nearest_at n power < 2 ^ 128) × (0 ≡ nearest_at n power)
far_below n (pos p) small below far = absurd (omega (arith, ints))
far_below n (negsuc p) small below far =
    let none = nothing_left (p + 1) n (omega (arith, far)) (omega (arith, small)) in
    (omega (arith, none), none)

-- its power stays near 0
pub near_power : (e : ℤ) (behind : ℕ) → FitsSigned w32 e → behind ≤ 39 →
    nat_abs (e +ℤ pos behind) < 2 ^ 32
near_power (pos n) behind fits few = omega (arith, ints)
near_power (negsuc n) behind fits few = omega (arith, ints)

-- the digits behind the ninth place
pub behind_nine : (n : ℕ) (power : ℤ) (behind : ℕ) →
    (behind ≡ 0) × (negsuc 8 ≤ℤ power) →
    (n % 10 ^ behind == 0) ≡ has_nine_places n power
behind_nine n (pos p) behind is = ap (λ k. n % 10 ^ k == 0) is.0
behind_nine n (negsuc p) behind is =
    let same : behind ≡ p + 1 - 9 = omega (arith, ints, is.0, is.1) in
    ap (λ k. n % 10 ^ k == 0) same

-- a number with so many places has digits behind the ninth
pub past_nine : (n : ℕ) (power : ℤ) (behind : ℕ) → 0 < n → n ≤ 10 ^ 15 → 39 ≤ behind →
    (negsuc 8 -ℤ power) ≡ pos behind → false ≡ has_nine_places n power
past_nine n (pos p) behind some small far is = absurd (omega (arith, ints))
past_nine n (negsuc p) behind some small far is =
    let same : p + 1 - 9 ≡ behind = omega (arith, ints) in
    let unit : 10 ^ 39 ≤ 10 ^ behind = pow-le-pow_right (omega arith) far in
    let rest : n % 10 ^ behind ≡ n = mod-eq_of_lt (omega (arith, unit, small)) in
    let test : (n % 10 ^ behind == 0) ≡ false = grind (arith, nat_tests, rest, some) in
    sym (ap (λ k. n % 10 ^ k == 0) same ∙ test)

-- a limit of eleven digits before the point and nine behind it
pub limit_small : (places : ℕ) → places ≤ 9 → 10 ^ (11 + places) ≤ 10 ^ 20
limit_small places few =
    let within : 11 + places ≤ 20 = omega arith in pow-le-pow_right (omega arith) within

-- a size that is too great for its places
pub past_limit : (n : ℕ) (power : ℤ) (places : ℕ) → (n ≡ 0 → ⊥) → places ≤ 9 →
    general_places n power (first_power n power) ≡ Some places →
    (nearest_at n (power +ℤ pos places) < 2 ^ 128 → ⊥) → scientific n power ≡ general_size n power
past_limit n power places some few is over =
    let limit = limit_small places few in
    let positive : (n == 0) ≡ false = grind (arith, nat_tests) in
    sym (by_false (n == 0) (48 ∷ []) _ positive
    ∙ (ap (text_in_places n power) is
    ∙ by_false (nat_lt (nearest_at n (power +ℤ pos places)) (10 ^ (11 + places))) _ _
    (not_less _ _ (omega (arith, limit, over)))))

-- no digits are left of a number that is far below 1
pub no_digits : (n : ℕ) (power : ℤ) → n ≤ 10 ^ 15 → power <ℤ pos 0 → 39 ≤ nat_abs power →
    [] ≡ nearest_digits n power
no_digits n (pos p) small below far = absurd (omega (arith, ints))
no_digits n (negsuc p) small below far =
    ap (λ k. digits_above_0 k 0)
    (nothing_left (p + 1) n (omega (arith, far)) (omega (arith, small)))
