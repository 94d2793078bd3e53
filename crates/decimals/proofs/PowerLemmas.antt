-- The number that digits write, up to a limit.
use Rattle.std.proofs.Common.{◌≡◌, ℕ, ◌+◌, ◌-◌, ◌*◌, ◌<◌, ◌&&◌, true, false, List, length, min}
use Rattle.std.proofs.Common.{get_or, take, drop, ap, ◌∙◌, arith}
use Rattle.std.specs.Char.{is_ascii_digit}
use Rattle.std.specs.Str.{all_ascii_digits}
use Rattle.std.specs.Str.Parse.{digits_value}
use Rattle.std.proofs.lemmas.Bool.Decides.{nat_tests}
use Rattle.std.proofs.lemmas.Int.Digits.{digits_value_more}
use Rattle.std.proofs.lemmas.List.{drop_more}
use Rattle.std.proofs.lemmas.Str.{digit_value_digit}

-- one digit more
pub number_more_up_to : (limit : ℕ) (digits : List ℕ) (i n m : ℕ) → i < length digits →
    is_ascii_digit (get_or digits i 0) ≡ true → n ≡ min (digits_value 10 (take i digits)) limit →
    m ≡ min (n * 10 + (get_or digits i 0 - 48)) limit →
    m ≡ min (digits_value 10 (take (i + 1) digits)) limit
number_more_up_to limit digits i n m within digit known next =
    let more = digits_value_more 10 digits i within in
    let value =
    digit_value_digit (get_or digits i 0)
    (grind (arith, nat_tests), grind (arith, nat_tests)) in
    omega (arith, more, value)

digits_at : (digits : List ℕ) (i : ℕ) → i < length digits →
    all_ascii_digits (drop i digits) ≡
    (is_ascii_digit (get_or digits i 0) && all_ascii_digits (drop (i + 1) digits))
digits_at digits i within = ap all_ascii_digits (drop_more digits i 0 within)

-- a digit is passed over, and what is none ends the digits
pub digits_past : (digits : List ℕ) (i : ℕ) → i < length digits →
    is_ascii_digit (get_or digits i 0) ≡ true →
    all_ascii_digits (drop i digits) ≡ all_ascii_digits (drop (i + 1) digits)
digits_past digits i within digit =
    digits_at digits i within ∙ ap (λ t. t && all_ascii_digits (drop (i + 1) digits)) digit

pub digits_stop : (digits : List ℕ) (i : ℕ) → i < length digits →
    is_ascii_digit (get_or digits i 0) ≡ false → all_ascii_digits (drop i digits) ≡ false
digits_stop digits i within none =
    digits_at digits i within ∙ ap (λ t. t && all_ascii_digits (drop (i + 1) digits)) none

pub ruleset power_steps = (number_more_up_to, digits_past, digits_stop)
