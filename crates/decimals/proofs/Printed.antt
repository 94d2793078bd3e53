-- How long the text of a decimal is.
use Rattle.std.proofs.Common.{◌≡◌, refl, ℕ, suc, ◌+◌, ◌-◌, ◌≤◌, ◌∷◌, ◌++◌, Bool, true, false, cond}
use Rattle.std.proofs.Common.{List, length, take, drop, replicate, ℤ, pos, negsuc, arith}
use Rattle.std.proofs.Common.{length-append, length-take, length-drop, ap, add-one, sym, ◌∙◌}
use Rattle.std.proofs.Common.{append_assoc, Result, Ok, Err}
use Rattle.std.specs.Prelude.{nat_le, nat_lt, int_lt, unsigned_abs, FitsSigned, OnOk}
use Rattle.std.specs.Fmt.{decimal, signed_decimal, sign_text}
use Rattle.std.specs.Int.{w32}
use Rattle.std.proofs.lemmas.Bool.Decides.{nat_tests}
use Rattle.std.proofs.lemmas.Fmt.{length-decimal-le}
use Rattle.std.proofs.lemmas.Int.{ints}
use Rattle.std.proofs.lemmas.List.{length-replicate}
use Rattle.decimals.specs.Decimals.{with_point, with_exponent, printed_digits, printed}

power_short : (power : ℤ) → FitsSigned w32 power → length (signed_decimal power) ≤ 11
power_short (pos n) fits =
    omega (arith, length-decimal-le 10 n (omega arith) (omega (arith, ints)) (omega (arith, ints)))
power_short (negsuc n) fits =
    omega (
      arith,
      length-decimal-le 10 (suc n) (omega arith) (omega (arith, ints))
          (omega (arith, ints)),
    )

exponent_short : (digits : List ℕ) (power : ℤ) → length digits ≤ 40 → FitsSigned w32 power →
    length (with_exponent digits power) ≤ 60
exponent_short digits power short fits =
    omega (arith, length-append digits (69 ∷ signed_decimal power), power_short power fits)

zeros_short : (digits : List ℕ) (n : ℕ) → length digits ≤ 40 → n ≤ 20 →
    length (digits ++ replicate n 48) ≤ 60
zeros_short digits n short few =
    omega (arith, length-append digits (replicate n 48), length-replicate {A = ℕ} n 48)

point_in_short : (places : ℕ) (digits : List ℕ) →
    length (take (length digits - places) digits ++ 46 ∷ drop (length digits - places) digits)
    ≡ length digits + 1
point_in_short places digits = simp (length-append, length-take, length-drop) (omega arith)

point_short : (digits : List ℕ) (places : ℕ) → length digits ≤ 40 → places ≤ 20 →
    length (with_point places digits) ≤ 60
point_short digits places short few =
    omega (
      arith,
      point_in_short places
          (replicate (places + 1 - length digits) 48 ++ digits),
      length-append
          (replicate (places + 1 - length digits) 48) digits,
      length-replicate {A = ℕ}
          (places + 1 - length digits) 48,
    )

either_short : (test : Bool) (one other : List ℕ) → (test ≡ true → length one ≤ 60) →
    length other ≤ 60 → length (cond test one other) ≤ 60
either_short true one other short short_other = short refl
either_short false one other short short_other = short_other

pub digits_short : (digits : List ℕ) (power : ℤ) → length digits ≤ 40 → FitsSigned w32 power →
    length (printed_digits digits power) ≤ 60
digits_short digits (pos n) short fits =
    either_short (nat_le n 20) _ _ (λ few. zeros_short digits n short (grind (arith, nat_tests)))
    (exponent_short digits (pos n) short fits)
digits_short digits (negsuc n) short fits =
    either_short (nat_lt n 20) _ _
    (λ few. point_short digits (n + 1) short (grind (arith, nat_tests)))
    (exponent_short digits (negsuc n) short fits)

-- the text of a number begins with its sign
pub sign_first : (mantissa power : ℤ) →
    printed (mantissa, power) ≡ sign_text (int_lt mantissa (pos 0)) ++ printed_digits
    (decimal (unsigned_abs mantissa)) power
unfolding printed
sign_first (pos n) power =
    let above : int_lt (pos n) (pos 0) ≡ false = grind (arith, nat_tests, ints) in
    rw above refl
sign_first (negsuc n) power = ap (λ k. 45 ∷ printed_digits (decimal k) power) (add-one n)

-- a text behind another
pub pushed_on : {A E : Type 0} (r : Result A E) (new middle old first second whole : List ℕ) →
    OnOk r (new ≡ middle ++ second) → middle ≡ old ++ first → whole ≡ first ++ second →
    OnOk r (new ≡ old ++ whole)
pushed_on (Ok a) new middle old first second whole pushed begun is =
    pushed ∙ (ap (λ m. m ++ second) begun
    ∙ (append_assoc old first second ∙ ap (λ w. old ++ w) (sym is)))
pushed_on (Err e) new middle old first second whole pushed begun is = tt
