-- How a text of digits with a point among them is read.
use Rattle.std.proofs.Common.{◌≡◌, ◌∙◌, ◌++◌, ◌+◌, ◌<◌, ◌≤◌, ◌==◌, ℕ, ℤ, pos, ◌-ℤ◌, Bool, true}
use Rattle.std.proofs.Common.{false, cond, List, [], ◌∷◌, Option, None, length, take, drop, refl}
use Rattle.std.proofs.Common.{ap, sym, arith, length-append, Some, suc, negsuc}
use Rattle.std.specs.Prelude.{nat_abs, nat_lt, neg_ℤ, ◌&&◌}
use Rattle.std.specs.Char.{is_ascii_digit}
use Rattle.std.specs.Fmt.{sign_text}
use Rattle.std.specs.List.{prefix_len}
use Rattle.std.specs.Option.{option_and_then}
use Rattle.std.specs.Str.{all_ascii_digits}
use Rattle.std.specs.Str.Parse.{digits_value, starts_with_minus, without_leading_sign}
use Rattle.std.proofs.Math.Seq.{take-append_seam, drop-append_seam}
use Rattle.std.proofs.lemmas.Bool.Decides.{nat_tests}
use Rattle.std.proofs.lemmas.List.{append-nil, drop_all}
use Rattle.std.proofs.lemmas.Str.Parse.{tells_all_ascii_digits}
use Rattle.decimals.specs.Words.{behind_fraction, fraction_digits, signed_number, digits_in_front}
use Rattle.decimals.specs.Words.{behind_digits, fitting, number_of_digits, power_of}
use Rattle.decimals.specs.Words.{unsigned_decimal}
use Rattle.decimals.specs.Decimals.{decimal_of}
use Rattle.decimals.proofs.ReadsBack.{Writes}
use Rattle.decimals.proofs.Rounded.{not_negative}
use Rattle.decimals.proofs.Significands.{take_whole}
use Rattle.shown_text.specs.Words.{exponent_sign}
use Rattle.shown_text_laws.proofs.Tests.{both_hold}
use Rattle.excel_dates.proofs.SerialSteps.{by_true, by_false, is_less}

-- a digit is one by its test, and no sign
is_digit_of : (d : ℕ) (ds : List ℕ) → all_ascii_digits (d ∷ ds) ≡ true
    → (is_ascii_digit d ≡ true) × (all_ascii_digits ds ≡ true)
is_digit_of d ds all =
    let (first, rest) = tells_all_ascii_digits.parts d ds all in
    (grind (arith, nat_tests, first.0, first.1), rest)

-- the digits in front of a text go up to a byte that is none
front_len : (ds : List ℕ) (b : ℕ) (bs : List ℕ) → all_ascii_digits ds ≡ true
    → is_ascii_digit b ≡ false → prefix_len is_ascii_digit (ds ++ b ∷ bs) ≡ length ds
front_len [] b bs all none = by_false (is_ascii_digit b) (1 + prefix_len is_ascii_digit bs) 0 none
front_len (d ∷ ds) b bs all none =
    let each = is_digit_of d ds all in
    by_true (is_ascii_digit d) (1 + prefix_len is_ascii_digit (ds ++ b ∷ bs)) 0 each.0
    ∙ omega (arith, front_len ds b bs each.1 none)

-- or to the end
whole_len : (ds : List ℕ) → all_ascii_digits ds ≡ true → prefix_len is_ascii_digit ds ≡ length ds
whole_len [] all = refl
whole_len (d ∷ ds) all =
    let each = is_digit_of d ds all in
    by_true (is_ascii_digit d) (1 + prefix_len is_ascii_digit ds) 0 each.0
    ∙ omega (arith, whole_len ds each.1)

-- a text that begins with a digit has no sign
no_minus : (ds es : List ℕ) → 0 < length ds → all_ascii_digits ds ≡ true
    → starts_with_minus (ds ++ es) ≡ false
no_minus [] es some all = absurd (omega arith)
no_minus (d ∷ ds) es some all =
    let (first, rest) = tells_all_ascii_digits.parts d ds all in
    grind (arith, nat_tests, first.0, first.1)

no_sign : (ds es : List ℕ) → 0 < length ds → all_ascii_digits ds ≡ true
    → without_leading_sign (ds ++ es) ≡ ds ++ es
no_sign [] es some all = absurd (omega arith)
no_sign (d ∷ ds) es some all =
    let (first, rest) = tells_all_ascii_digits.parts d ds all in
    let minus : (d == 45) ≡ false = grind (arith, nat_tests, first.0, first.1) in
    let plus : (d == 43) ≡ false = grind (arith, nat_tests, first.0, first.1) in
    by_false (d == 45) (drop 1 ((d ∷ ds) ++ es)) (drop (cond (d == 43) 1 0) ((d ∷ ds) ++ es)) minus
    ∙ ap (λ t. drop (cond t 1 0) ((d ∷ ds) ++ es)) plus

abbrev body_read : Bool → List ℕ → Option (ℤ × ℤ)
body_read negative text = unsigned_decimal negative (digits_in_front text) (behind_digits text)

-- a sign in front of digits
pub sign_read : (negative : Bool) (ds es : List ℕ) → 0 < length ds → all_ascii_digits ds ≡ true
    → decimal_of (sign_text negative ++ (ds ++ es))
    ≡ unsigned_decimal negative (digits_in_front (ds ++ es)) (behind_digits (ds ++ es))
unfolding decimal_of
sign_read true ds es some all = refl
sign_read false ds es some all =
    ap (λ minus. body_read minus (without_leading_sign (ds ++ es))) (no_minus ds es some all)
    ∙ ap (body_read false) (no_sign ds es some all)

some_digits : (test : Bool) (found : Option (ℤ × ℤ)) → test ≡ false → cond test None found ≡ found
some_digits true found none = absurd (cc)
some_digits false found none = refl

-- digits up to a byte that is none
pub front_then : (ds : List ℕ) (b : ℕ) (bs : List ℕ) → all_ascii_digits ds ≡ true
    → is_ascii_digit b ≡ false → digits_in_front (ds ++ b ∷ bs) ≡ ds
front_then ds b bs all none =
    ap (λ k. take k (ds ++ b ∷ bs)) (front_len ds b bs all none) ∙ take-append_seam ds (b ∷ bs)

pub behind_then : (ds : List ℕ) (b : ℕ) (bs : List ℕ) → all_ascii_digits ds ≡ true
    → is_ascii_digit b ≡ false → behind_digits (ds ++ b ∷ bs) ≡ b ∷ bs
behind_then ds b bs all none =
    ap (λ k. drop k (ds ++ b ∷ bs)) (front_len ds b bs all none) ∙ drop-append_seam ds (b ∷ bs)

front_all : (ds : List ℕ) → all_ascii_digits ds ≡ true → digits_in_front ds ≡ ds
front_all ds all = ap (λ k. take k ds) (whole_len ds all) ∙ take_whole ds

behind_all : (ds : List ℕ) → all_ascii_digits ds ≡ true → behind_digits ds ≡ []
behind_all ds all =
    ap (λ k. drop k ds) (whole_len ds all)
    ∙ drop_all (length ds) ds (let h : length ds ≤ length ds = omega arith in h)

powered : (negative : Bool) (digits behind : List ℕ) (power : ℤ) (found : Option ℤ)
    → found ≡ Some power
    → option_and_then
    (λ p. fitting (number_of_digits negative digits (p -ℤ pos (length behind)))) found
    ≡ fitting (number_of_digits negative digits (power -ℤ pos (length behind)))
powered negative digits behind power found is =
    ap (option_and_then
    (λ p. fitting (number_of_digits negative digits (p -ℤ pos (length behind))))) is

-- what stands behind the digits of a whole number: those of its places, and its power
pub record IsBehind (text behind : List ℕ) (power : ℤ) : Type 0 where
  pub digits : fraction_digits text ≡ behind
  pub told : power_of (behind_fraction text) ≡ Some power

-- digits, and what stands behind them, with a sign
pub parts_read : (negative : Bool) (whole : List ℕ) (b : ℕ) (bs behind : List ℕ) (power : ℤ)
    → 0 < length whole → all_ascii_digits whole ≡ true → is_ascii_digit b ≡ false
    → IsBehind (b ∷ bs) behind power
    → decimal_of (sign_text negative ++ (whole ++ b ∷ bs))
    ≡ fitting (number_of_digits negative (whole ++ behind) (power -ℤ pos (length behind)))
parts_read negative whole b bs behind power some all none is =
    let any : (length (whole ++ behind) == 0) ≡ false =
    let more = length-append whole behind in grind (arith, nat_tests, some, more) in
    sign_read negative whole (b ∷ bs) some all
    ∙ (λ i. unsigned_decimal negative (front_then whole b bs all none i)
    (behind_then whole b bs all none i))
    ∙ ap (λ digits. cond (length (whole ++ digits) == 0) None
    (option_and_then
    (λ p. fitting (number_of_digits negative (whole ++ digits) (p -ℤ pos (length digits))))
    (power_of (behind_fraction (b ∷ bs))))) is.digits
    ∙ some_digits (length (whole ++ behind) == 0) _ any
    ∙ powered negative (whole ++ behind) behind power (power_of (behind_fraction (b ∷ bs))) is.told

-- digits before a point and behind it, with a sign
pub point_read : (negative : Bool) (whole behind : List ℕ) → 0 < length whole
    → all_ascii_digits whole ≡ true → all_ascii_digits behind ≡ true
    → decimal_of (sign_text negative ++ (whole ++ 46 ∷ behind))
    ≡ fitting (number_of_digits negative (whole ++ behind) (pos 0 -ℤ pos (length behind)))
point_read negative whole behind some all all_behind =
    parts_read negative whole 46 behind behind (pos 0) some all refl (record {
      digits = front_all behind all_behind;
      told = ap power_of (behind_all behind all_behind);
    })

-- digits alone, with a sign
pub whole_read : (negative : Bool) (whole : List ℕ) → 0 < length whole
    → all_ascii_digits whole ≡ true
    → decimal_of (sign_text negative ++ whole)
    ≡ fitting (number_of_digits negative whole (pos 0 -ℤ pos 0))
whole_read negative whole some all =
    let any : (length whole == 0) ≡ false = grind (arith, nat_tests, some) in
    ap (λ text. decimal_of (sign_text negative ++ text)) (sym (append-nil whole))
    ∙ sign_read negative whole [] some all
    ∙ ap (λ text. unsigned_decimal negative (digits_in_front text) (behind_digits text))
    (append-nil whole)
    ∙ (λ i. unsigned_decimal negative (front_all whole all i) (behind_all whole all i))
    ∙ ap (λ text. cond (length text == 0) None
    (fitting (number_of_digits negative text (pos 0 -ℤ pos 0)))) (append-nil whole)
    ∙ some_digits (length whole == 0) _ any

-- a sign and digits
signed_by : (test : Bool) (found : Option ℤ) → test ≡ true → cond test found None ≡ found
signed_by true found holds = refl
signed_by false found holds = absurd (cc)

plus_read : (ds : List ℕ) (n : ℕ) → 0 < length ds → Writes ds n
    → signed_number (43 ∷ ds) ≡ Some (pos n)
plus_read ds n some writes =
    signed_by (nat_lt 0 (length ds) && all_ascii_digits ds) (Some (pos (digits_value 10 ds)))
    (both_hold _ _ (is_less 0 (length ds) some) writes.all)
    ∙ ap (λ k. Some (pos k)) writes.value

minus_read : (ds : List ℕ) (n : ℕ) → 0 < length ds → Writes ds n
    → signed_number (45 ∷ ds) ≡ Some (neg_ℤ (pos n))
minus_read ds n some writes =
    signed_by (nat_lt 0 (length ds) && all_ascii_digits ds)
    (Some (neg_ℤ (pos (digits_value 10 ds))))
    (both_hold _ _ (is_less 0 (length ds) some) writes.all)
    ∙ ap (λ k. Some (neg_ℤ (pos k))) writes.value

-- the power that an exponent tells
pub exponent_read : (power : ℤ) (ds : List ℕ) → 0 < length ds → Writes ds (nat_abs power)
    → power_of (69 ∷ exponent_sign power ∷ ds) ≡ Some power
exponent_read (pos n) ds some writes =
    ap (λ below. signed_number (cond below 45 43 ∷ ds)) (not_negative n)
    ∙ plus_read ds n some writes
exponent_read (negsuc n) ds some writes = minus_read ds (suc n) some writes

-- digits behind a point, and an exponent behind these
pub point_then : (digits rest : List ℕ) (power : ℤ) → all_ascii_digits digits ≡ true
    → power_of (69 ∷ rest) ≡ Some power → IsBehind (46 ∷ (digits ++ 69 ∷ rest)) digits power
point_then digits rest power all told = record {
  digits = front_then digits 69 rest all refl;
  told = ap power_of (behind_then digits 69 rest all refl) ∙ told;
}
