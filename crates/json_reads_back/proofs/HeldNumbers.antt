-- A number that a decimal has is again one of a decimal once it is rounded.
use Rattle.std.proofs.Common.{◌≡◌, ℕ, ◌<◌, ◌≤◌, ◌^◌, ◌%◌, ◌==◌, Bool, true, false, ◌&&◌, List}
use Rattle.std.proofs.Common.{Option, Some, None, ℤ, pos, negsuc, refl, sym, ◌∙◌, ap, subst, arith}
use Rattle.std.specs.Prelude.{FitsSigned, IfSome, if◌then◌else◌, nat_abs}
use Rattle.std.specs.Fmt.{decimal}
use Rattle.std.specs.Int.{is_negative, w32, w64, w128}
use Rattle.std.specs.Option.{unwrap_or}
use Rattle.std.specs.Str.{all_ascii_digits}
use Rattle.std.specs.Str.Parse.{digits_value}
use Rattle.std.proofs.lemmas.Bool.Decides.{nat_tests}
use Rattle.std.proofs.lemmas.Int.{ints}
use Rattle.std.proofs.lemmas.Option.{none-some}
use Rattle.std.proofs.Math.Nat.{mul-le-mul_left}
use Rattle.decimals.specs.Words.{has_bits, in_one_form, with_sign, without_trailing_zeros, nearest}
use Rattle.decimals.specs.Words.{digits_behind}
use Rattle.decimals.specs.Decimals.{decimal_from}
use Rattle.decimals.specs.Rounding.{rounded_number}
use Rattle.decimals.proofs.Nearest.{near_up, some as unit_some}
use Rattle.decimals.proofs.OneForm.{zeros_gone}
use Rattle.decimals.proofs.Parts.{abs_small}
use Rattle.decimals.proofs.ReadsBack.{decimal_writes}
use Rattle.decimals.proofs.Rounded.{size_signed}
use Rattle.json_lines.specs.JsonLines.{IsOfDecimal}
use Rattle.csv_rows.specs.RowsText.{shown_number}

-- where the whole number is 0, so is the power
abbrev IsZeroPlain : ℤ × ℤ → Type 0
IsZeroPlain n = n.0 ≡ pos 0 → n.1 ≡ pos 0

whole_fits : (m : ℤ) → has_bits 127 m ≡ true → FitsSigned w128 m
whole_fits (pos n) bits = grind (arith, nat_tests, ints)
whole_fits (negsuc n) bits = grind (arith, nat_tests, ints)

power_fits : (m : ℤ) → has_bits 31 m ≡ true → FitsSigned w32 m
power_fits (pos n) bits = grind (arith, nat_tests, ints)
power_fits (negsuc n) bits = grind (arith, nat_tests, ints)

no_number : (negative : Bool) (n : ℕ) → with_sign negative n ≡ pos 0 → n ≡ 0
no_number negative n is = sym (size_signed negative n) ∙ ap nat_abs is

chosen_plain : (test negative : Bool) (n : ℕ) (power : ℤ) → (test ≡ false → n ≡ 0 → ⊥)
    → IsZeroPlain (if test then (pos 0, pos 0) else (with_sign negative n, power))
chosen_plain true negative n power some is = refl
chosen_plain false negative n power some is = absurd (some refl (no_number negative n is))

some_digit : (digits : List ℕ) → all_ascii_digits digits ≡ true
    → (digits_value 10 digits == 0) ≡ false
    → digits_value 10 (without_trailing_zeros digits) ≡ 0 → ⊥
some_digit digits all some none =
    let gone = zeros_gone digits all (ap (λ n. n % 10) none) in
    grind (arith, nat_tests, gone, some)

form_plain : (n : ℤ × ℤ) → nat_abs n.0 < 2 ^ 128 → IsZeroPlain (in_one_form n)
form_plain n small =
    let digits = decimal (nat_abs n.0) in
    chosen_plain (digits_value 10 digits == 0) (is_negative n.0)
    (digits_value 10 (without_trailing_zeros digits)) _
    (some_digit digits (decimal_writes (nat_abs n.0) small).all)

fitted : (whole power : Bool) (n found : ℤ × ℤ) → has_bits 127 n.0 ≡ whole
    → has_bits 31 n.1 ≡ power → IsZeroPlain n
    → (if whole && power then Some n else None) ≡ Some found → IsOfDecimal found
fitted true true n found one two plain is =
    subst (λ own. IfSome own IsOfDecimal) is (record {
      whole = whole_fits n.0 one;
      power = power_fits n.1 two;
      zero = plain;
    })
fitted true false n found one two plain is = absurd (none-some found is)
fitted false power n found one two plain is = absurd (none-some found is)

decimal_held : (n found : ℤ × ℤ) → nat_abs n.0 < 2 ^ 128 → decimal_from n ≡ Some found
    → IsOfDecimal found
unfolding decimal_from
decimal_held n found small is =
    let form = in_one_form n in
    fitted (has_bits 127 form.0) (has_bits 31 form.1) form found refl refl (form_plain n small) is

-- a number of so many digits is no greater than the number that it is nearest to
nearest_small : (places n : ℕ) → nearest places n ≤ n
nearest_small places n =
    let unit = unit_some places in
    near_up (10 ^ places) n n unit (omega (arith, mul-le-mul_left n unit))

abbrev or_zero : Bool → ℤ × ℤ → ℤ × ℤ
or_zero test n = if test then (pos 0, pos 0) else n

chosen_small : (test negative : Bool) (n : ℕ) (power : ℤ) → n < 2 ^ 128
    → nat_abs (or_zero test (with_sign negative n, power)).0 < 2 ^ 128
chosen_small true negative n power small = omega arith
chosen_small false negative n power small = omega (arith, size_signed negative n, small)

rounded_small : (digits : ℕ) (n : ℤ × ℤ) → nat_abs n.0 < 2 ^ 128
    → nat_abs (rounded_number digits n).0 < 2 ^ 128
unfolding rounded_number
rounded_small digits n small =
    let behind = digits_behind digits (nat_abs n.0) in
    chosen_small (digits == 0) (is_negative n.0) (nearest behind (nat_abs n.0)) _
    (omega (arith, nearest_small behind (nat_abs n.0), small))

or_held : (found : Option (ℤ × ℤ)) (n : ℤ × ℤ) → IsOfDecimal n
    → ((own : ℤ × ℤ) → found ≡ Some own → IsOfDecimal own) → IsOfDecimal (unwrap_or found n)
or_held None n held each = held
or_held (Some own) n held each = each own refl

-- the number that a decimal is written as is one of a decimal
pub shown_held : (digits : Option ℕ) (n : ℤ × ℤ) → IsOfDecimal n
    → IsOfDecimal (shown_number digits n)
shown_held None n held = held
shown_held (Some digits) n held =
    or_held (decimal_from (rounded_number digits n)) n held
    (λ own. decimal_held (rounded_number digits n) own
    (rounded_small digits n (abs_small n.0 held.whole)))

if_held : (digits : Option ℕ) (found : Option (ℤ × ℤ))
    → ((own : ℤ × ℤ) → found ≡ Some own → IsOfDecimal own)
    → IfSome found (λ own. IsOfDecimal (shown_number digits own))
if_held digits None each = tt
if_held digits (Some own) each = shown_held digits own (each own refl)

whole_small : (n : ℤ) → FitsSigned w64 n → nat_abs n < 2 ^ 128
whole_small (pos n) fits = omega (arith, ints, fits.sfits)
whole_small (negsuc n) fits = omega (arith, ints, fits.sfits)

-- and so is that of a whole number of 64 bits
pub whole_held : (digits : Option ℕ) (n : ℤ) → FitsSigned w64 n
    → IfSome (decimal_from (n, pos 0)) (λ own. IsOfDecimal (shown_number digits own))
whole_held digits n fits =
    if_held digits (decimal_from (n, pos 0))
    (λ own. decimal_held (n, pos 0) own (whole_small n fits))
