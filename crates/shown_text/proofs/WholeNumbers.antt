-- Whole numbers under General.
use Rattle.std.proofs.Common.{◌≡◌, ℕ, ℤ, zero, suc, ◌+◌, ◌-◌, ◌*◌, ◌/◌, ◌%◌, ◌^◌, ◌<◌, ◌≤◌, ◌==◌}
use Rattle.std.proofs.Common.{[], ◌∷◌, ◌++◌, refl, sym, ap, ◌∙◌, arith, pos, negsuc, Some}
use Rattle.std.proofs.Common.{append-nil, inl, inr}
use Rattle.std.specs.Prelude.{nat_abs, nat_lt, neg_ℤ, ◌*ℤ◌}
use Rattle.std.specs.Fmt.{decimal, signed_decimal, sign_text}
use Rattle.std.specs.Int.{is_negative}
use Rattle.std.proofs.Math.IntN.{+ℤ_idr, pos-*ℤ-pos, negsuc-*ℤ-pos}
use Rattle.std.proofs.Math.Nat.{mul-div_cancel, add-mul-mod_self_right, mul-lt-mul_of_pos_right}
use Rattle.std.proofs.Math.Nat.{pow-le-pow_right, mod-eq_of_lt}
use Rattle.std.proofs.lemmas.Bool.{cases_lt}
use Rattle.std.proofs.lemmas.Bool.Decides.{nat_tests}
use Rattle.std.proofs.lemmas.Fmt.{decimal_digit, length-decimal-le_wide}
use Rattle.std.proofs.lemmas.Nat.{pow-add}
use Rattle.decimals.specs.Words.{digit_count, nearest}
use Rattle.decimals.proofs.Nearest.{factors, times}
use Rattle.decimals.proofs.Rounded.{not_negative, unit_some}
use Rattle.decimals.proofs.RoundedLaws.{has_digits}
use Rattle.excel_dates.proofs.SerialSteps.{by_true, by_false, is_less, not_less}
use Rattle.shown_text.proofs.SizeSteps.{size_is, power_is}
use Rattle.shown_text.proofs.Zeros.{zero_cut}
use Rattle.shown_text.specs.GeneralText.{general_places, general_size, general_text, shown_digits}
use Rattle.shown_text.specs.GeneralText.{text_in_places, with_places}

-- a whole number with zeros for places
with_zeros : (n places : ℕ) → with_places places (n * 10 ^ places) ≡ decimal n
with_zeros n places =
    let whole : n * 10 ^ places / 10 ^ places ≡ n = mul-div_cancel n (unit_some places) in
    let sum : 0 + n * 10 ^ places ≡ n * 10 ^ places = omega arith in
    let none : 0 % 10 ^ places ≡ 0 = mod-eq_of_lt (unit_some places) in
    let rest : n * 10 ^ places % 10 ^ places ≡ 0 =
    sym (ap (λ k. k % 10 ^ places) sum) ∙ (add-mul-mod_self_right 0 n (10 ^ places) ∙ none) in
    (λ i. decimal (whole i) ++ zero_cut places (n * 10 ^ places % 10 ^ places) rest i)
    ∙ append-nil (decimal n)

-- in its places, where it has eleven digits at most
in_places_of : (n zeros places : ℕ) → n * 10 ^ zeros < 10 ^ 11 →
    text_in_places n (pos zeros) (Some places) ≡ decimal (n * 10 ^ zeros)
in_places_of n zeros places below =
    let whole = n * 10 ^ zeros in
    let more : n * 10 ^ (zeros + places) ≡ whole * 10 ^ places =
    omega (arith, ap (λ k. n * k) (pow-add 10 zeros places)) in
    let limit : whole * 10 ^ places < 10 ^ (11 + places) =
    omega (
      arith,
      mul-lt-mul_of_pos_right below (unit_some places),
      factors 11 places (11 + places) refl,
    ) in
    by_true (nat_lt (n * 10 ^ (zeros + places)) (10 ^ (11 + places))) _ _
    (is_less _ _ (omega (arith, more, limit)))
    ∙ (ap (with_places places) more ∙ with_zeros whole places)

-- the power of its first digit is ten at most
few_digits : (n zeros : ℕ) → 0 < n → n * 10 ^ zeros < 10 ^ 11 → zeros + (digit_count n - 1) ≤ 10
few_digits n zeros positive below =
    let small : n < 10 ^ 11 = omega (arith, times n (unit_some zeros)) in
    let has = has_digits n positive (omega (arith, small)) in
    let least : 10 ^ (digit_count n - 1) * 10 ^ zeros ≤ n * 10 ^ zeros =
    times (10 ^ zeros) has.least in
    let power : 10 ^ (digit_count n - 1) * 10 ^ zeros ≡ 10 ^ (zeros + (digit_count n - 1)) =
    factors (digit_count n - 1) zeros (zeros + (digit_count n - 1)) (omega arith) in
    elim (cases_lt 10 (zeros + (digit_count n - 1))) [
      | inl over ↦
          let high : 10 ^ 11 ≤ 10 ^ (zeros + (digit_count n - 1)) =
          pow-le-pow_right (omega arith) over in
          absurd (omega (arith, high, least, power, below))
      | inr within ↦ within
    ]

pub whole_size_text : (n zeros : ℕ) → n * 10 ^ zeros < 10 ^ 11 →
    general_size n (pos zeros) ≡ decimal (n * 10 ^ zeros)
whole_size_text zero zeros below =
    let none : 0 * 10 ^ zeros ≡ 0 = omega arith in
    sym (ap decimal none ∙ decimal_digit 0 (omega arith))
whole_size_text (suc n) zeros below =
    let first = zeros + (digit_count (suc n) - 1) in
    let few = few_digits (suc n) zeros (omega arith) below in
    let places : general_places (suc n) (pos zeros) (pos first) ≡ Some (9 - first) =
    by_false (nat_lt 10 first) _ _ (not_less 10 first few) in
    by_false (suc n == 0) (48 ∷ []) _ (grind (arith, nat_tests))
    ∙ (ap (text_in_places (suc n) (pos zeros)) places
    ∙ in_places_of (suc n) zeros (9 - first) below)

below_zero : (n : ℕ) → 0 < n → 45 ∷ decimal n ≡ signed_decimal (neg_ℤ (pos n))
below_zero zero some = absurd (omega arith)
below_zero (suc n) some = refl

-- a number with its sign in front
signed_whole : (m : ℤ) (k : ℕ) → 0 < k →
    sign_text (is_negative m) ++ decimal (nat_abs m * k) ≡ signed_decimal (m *ℤ pos k)
signed_whole (pos n) k some =
    ap (λ test. sign_text test ++ decimal (n * k)) (not_negative n)
    ∙ ap signed_decimal (sym (pos-*ℤ-pos n k))
signed_whole (negsuc n) k some =
    let product : 0 < suc n * k =
    omega (arith, times k (let h : 1 ≤ suc n = omega arith in h), some) in
    below_zero (suc n * k) product ∙ ap signed_decimal (sym (negsuc-*ℤ-pos n k))

-- a whole number below ten to the power eleven is shown by its digits
pub whole_number_text : (m : ℤ) (zeros : ℕ) → nat_abs m * 10 ^ zeros < 10 ^ 11 →
    general_text (m, pos zeros) ≡ signed_decimal (m *ℤ pos (10 ^ zeros))
unfolding general_text
whole_number_text m zeros below =
    let n = nat_abs m in
    let small : n < 10 ^ 11 = omega (arith, times n (unit_some zeros)) in
    let count : digit_count n ≤ 11 =
    length-decimal-le_wide 11 n (omega arith) small (omega (arith, small)) in
    let none : 0 ≡ digit_count n - 15 = omega (arith, count) in
    let number : n ≡ nat_abs (shown_digits (m, pos zeros)).0 =
    sym (nearest_itself n) ∙ size_is m (pos zeros) 0 none in
    let power : pos zeros ≡ (shown_digits (m, pos zeros)).1 =
    sym (+ℤ_idr (pos zeros)) ∙ power_is m (pos zeros) 0 none in
    (λ i. sign_text (is_negative m) ++ general_size (sym number i) (sym power i))
    ∙ (ap (λ t. sign_text (is_negative m) ++ t) (whole_size_text n zeros below)
    ∙ signed_whole m (10 ^ zeros) (unit_some zeros))
  where
    nearest_itself : (n : ℕ) → nearest 0 n ≡ n
    nearest_itself n = omega arith
