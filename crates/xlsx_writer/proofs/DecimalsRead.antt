-- A number that a text writes is a decimal in its one form.
use Rattle.std.proofs.Common.{◌≡◌, ℕ, ◌%◌, Bool, true, false, cond, ◌&&◌, ◌||◌, List, [], ◌∷◌, ◌++◌}
use Rattle.std.proofs.Common.{length, Some, None, Option, refl, sym, ap, ◌∙◌, arith}
use Rattle.std.specs.Prelude.{◌==◌, ℤ, pos, ◌+ℤ◌, ◌-ℤ◌, nat_abs, not}
use Rattle.std.specs.Char.{is_ascii_digit}
use Rattle.std.specs.Option.{option_and_then}
use Rattle.std.specs.Str.{all_ascii_digits}
use Rattle.std.specs.Str.Parse.{digits_value, starts_with_minus, without_leading_sign}
use Rattle.std.proofs.lemmas.Bool.Decides.{nat_tests}
use Rattle.cell_refs.proofs.PositionOrder.{and_both, and_from}
use Rattle.decimals.specs.Words.{digits_in_front, behind_digits, fraction_digits, is_point}
use Rattle.decimals.specs.Words.{behind_fraction, power_of, trailing_zeros, with_sign, has_bits}
use Rattle.decimals.specs.Words.{without_trailing_zeros, number_of_digits, fitting}
use Rattle.decimals.specs.Decimals.{decimal_of}
use Rattle.decimals.proofs.OneForm.{zeros_gone}
use Rattle.decimals.proofs.Rounded.{size_signed}
use Rattle.decimals.proofs.Significands.{front_digits}
use Rattle.xlsx_writer.specs.Writable.{is_decimal}

-- ---- digits

fraction_all : (text : List ℕ) → all_ascii_digits (fraction_digits text) ≡ true
fraction_all [] = refl
fraction_all (b ∷ bs) = by (is_point b) where
  by : (t : Bool) → all_ascii_digits (cond t (digits_in_front bs) []) ≡ true
  by true = front_digits bs
  by false = refl

digits_in_row : (front others : List ℕ) → all_ascii_digits front ≡ true →
    all_ascii_digits others ≡ true → all_ascii_digits (front ++ others) ≡ true
digits_in_row [] others one two = two
digits_in_row (b ∷ front) others one two =
    let (first, rest) = and_both (is_ascii_digit b) (all_ascii_digits front) one in
    and_from (is_ascii_digit b) (all_ascii_digits (front ++ others)) first
    (digits_in_row front others rest two)

-- ---- the one form

-- only zero ends in a zero, and has the power 0
abbrev ends_alone_in_zero : ℤ × ℤ → Bool
ends_alone_in_zero n = not (nat_abs n.0 % 10 == 0) || (nat_abs n.0 == 0 && nat_abs n.1 == 0)

fits_and_ends : (n : ℤ × ℤ) → has_bits 127 n.0 ≡ true → has_bits 31 n.1 ≡ true →
    ends_alone_in_zero n ≡ true → is_decimal n ≡ true
fits_and_ends n whole power ends = and_from _ _ (and_from _ _ whole power) ends

ends_alone : (negative : Bool) (digits : List ℕ) (power : ℤ) → all_ascii_digits digits ≡ true →
    ends_alone_in_zero (number_of_digits negative digits power) ≡ true
ends_alone negative digits power all = by (digits_value 10 digits == 0) refl where
  whole : ℕ
  whole = digits_value 10 (without_trailing_zeros digits)

  some : (m : ℕ) (q : ℤ) → m ≡ whole → (whole % 10 == 0) ≡ false →
      (not (m % 10 == 0) || (m == 0 && nat_abs q == 0)) ≡ true
  some m q same none =
      ap (λ (k : ℕ). not (k % 10 == 0) || (k == 0 && nat_abs q == 0)) same
      ∙ ap (λ (t : Bool). not t || (whole == 0 && nat_abs q == 0)) none

  is_zero : (a : ℕ) → (a == 0) ≡ true → a ≡ 0
  is_zero a is = grind (arith, nat_tests)

  is_some : (a : ℕ) → a ≡ 0 → (a == 0) ≡ false → ⊥
  is_some a none other = grind (arith, nat_tests)

  last : (t : Bool) → (whole % 10 == 0) ≡ t → (digits_value 10 digits == 0) ≡ false → t ≡ false
  last false is none = refl
  last true is none =
      absurd (is_some (digits_value 10 digits)
      (zeros_gone digits all (is_zero (whole % 10) is)) none)

  by : (t : Bool) → (digits_value 10 digits == 0) ≡ t →
      ends_alone_in_zero (cond {A = ℤ × ℤ} t (pos 0, pos 0) (
        with_sign negative whole,
        power +ℤ pos (trailing_zeros digits),
      )) ≡ true
  by true is = refl
  by false is =
      some (nat_abs (with_sign negative whole)) (power +ℤ pos (trailing_zeros digits))
      (size_signed negative whole) (last (whole % 10 == 0) refl is)

one_form_fits : (x n : ℤ × ℤ) → fitting x ≡ Some n →
    ends_alone_in_zero x ≡ true → is_decimal n ≡ true
one_form_fits x n is ends =
    by (has_bits 127 x.0 && has_bits 31 x.1) refl is where
      by : (t : Bool) → (has_bits 127 x.0 && has_bits 31 x.1) ≡ t → cond t (Some x) None ≡ Some n →
          is_decimal n ≡ true
      by false fits is = absurd (cc)
      by true fits is =
          let parts = and_both (has_bits 127 x.0) (has_bits 31 x.1) fits in
          let same : x ≡ n = cc in
          ap is_decimal (sym same) ∙ fits_and_ends x parts.0 parts.1 ends

-- what a text writes is in its one form
pub decimal_is_read : (text : List ℕ) (n : ℤ × ℤ) → decimal_of text ≡ Some n → is_decimal n ≡ true
unfolding decimal_of
decimal_is_read text n is =
    by (length (front ++ fraction_digits rest) == 0) (power_of (behind_fraction rest)) is where
      front : List ℕ
      front = digits_in_front (without_leading_sign text)

      rest : List ℕ
      rest = behind_digits (without_leading_sign text)

      all : all_ascii_digits (front ++ fraction_digits rest) ≡ true
      all = digits_in_row front (fraction_digits rest) (front_digits (without_leading_sign text))
          (fraction_all rest)

      by : (t : Bool) (o : Option ℤ) → cond t None (option_and_then (λ power.
          fitting (number_of_digits (starts_with_minus text) (front ++ fraction_digits rest)
          (power -ℤ pos (length (fraction_digits rest))))) o) ≡ Some n → is_decimal n ≡ true
      by true o is = absurd (cc)
      by false None is = absurd (cc)
      by false (Some power) is =
          let shifted = power -ℤ pos (length (fraction_digits rest)) in
          one_form_fits (number_of_digits (starts_with_minus text) (front ++ fraction_digits rest)
          shifted) n is
          (ends_alone (starts_with_minus text) (front ++ fraction_digits rest) shifted all)
