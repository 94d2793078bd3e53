-- How the powers of ten of texts are read.
use Rattle.std.proofs.Common.{◌≡◌, ◌∙◌, ◌++◌, ◌+◌, ◌-◌, ◌*◌, ◌^◌, ◌<◌, ◌≤◌, ◌==◌, ℕ, zero, suc, ℤ}
use Rattle.std.proofs.Common.{pos, ◌+ℤ◌, ◌-ℤ◌, Bool, true, false, List, [], ◌∷◌, Some, length, take}
use Rattle.std.proofs.Common.{replicate, refl, ap, sym, subst, arith, length-append, length-take}
use Rattle.std.specs.Prelude.{nat_abs}
use Rattle.std.specs.Fmt.{decimal, sign_text}
use Rattle.std.specs.Char.{digit_value}
use Rattle.std.specs.Str.{all_ascii_digits}
use Rattle.std.specs.Str.Parse.{digits_value, digits_value_after}
use Rattle.std.proofs.lemmas.Grind.{pow_more}
use Rattle.std.proofs.lemmas.Int.{ints}
use Rattle.std.proofs.lemmas.List.Sums.{suffix_len-le-length}
use Rattle.std.proofs.lemmas.Str.Parse.{tells_all_ascii_digits}
use Rattle.decimals.specs.Words.{decimal_of, fitting, number_of_digits, power_of, trailing_zeros}
use Rattle.decimals.specs.Words.{without_trailing_zeros}
use Rattle.decimals.proofs.Nearest.{factors, some, times}
use Rattle.decimals.proofs.OneForm.{value_kept}
use Rattle.decimals.proofs.ReadsBack.{Writes, decimal_writes}
use Rattle.excel_dates.specs.Words.{padded}
use Rattle.format_codes.specs.declared.piece.Filler.TheVariants.{Zero}
use Rattle.shown_text.specs.Words.{digit_at, in_places, place_character, placed_text, surplus}
use Rattle.shown_text.specs.Words.{behind_point, exponent_sign, with_power}
use Rattle.shown_text_laws.proofs.ManyPlaces.{places}
use Rattle.shown_text_laws.proofs.OnePlace.{decimal_some, digit_of, in_one_place}
use Rattle.shown_text_laws.proofs.Places.{place_taken}
use Rattle.shown_text_laws.proofs.ReadPlaces.{digits_then, zeros}
use Rattle.shown_text_laws.proofs.ReadTexts.{exponent_read, parts_read, point_then}
use Rattle.shown_text_laws.proofs.SixDigits.{one_number}

-- digits in two places
abbrev pub in_two_places : List ℕ → List ℕ
in_two_places ds = surplus false ds 2 (length ds) ++ in_places false ds false 2 (places 2)

pub record Spells (digits : List ℕ) (n : ℕ) : Type 0 where
  pub some : 0 < length digits
  pub writes : Writes digits n

two_are : (ds : List ℕ) → 1 < length ds → in_two_places ds ≡ ds
two_are ds more =
    let some : 0 < length ds = omega (arith, more) in
    let last = λ (forced : Bool).
    placed_text false 0 (place_character Zero forced (digit_at ds 0)) ++ [] in
    let first : placed_text false 1 (place_character Zero false (digit_at ds 1))
    ≡ placed_text false 1 (digit_at ds 1) =
    ap (λ digit. placed_text false 1 (place_character Zero false digit)) (digit_of ds 1 more)
    ∙ sym (ap (placed_text false 1) (digit_of ds 1 more)) in
    let forced : last true ≡ last false =
    ap (λ digit. placed_text false 0 (place_character Zero true digit) ++ []) (digit_of ds 0 some)
    ∙ sym (ap (λ digit. placed_text false 0 (place_character Zero false digit) ++ [])
    (digit_of ds 0 some)) in
    (λ i. surplus false ds 2 (length ds) ++ (first i ++ forced i))
    ∙ place_taken ds 1 (last false)
    ∙ in_one_place ds some

pub two_spell : (ds : List ℕ) (n : ℕ) → Spells ds n → Spells (in_two_places ds) n
two_spell [] n spells = absurd (omega (arith, spells.some))
two_spell (d ∷ []) n spells = record {
  some = omega arith;
  writes = record { all = spells.writes.all; value = spells.writes.value };
}
two_spell (d ∷ e ∷ es) n spells =
    let more : 1 < length (d ∷ e ∷ es) = omega arith in
    subst (λ ds. Spells ds n) (sym (two_are (d ∷ e ∷ es) more)) spells

pub decimal_spells : (n : ℕ) → n < 2 ^ 128 → Spells (decimal n) n
decimal_spells n small = record { some = decimal_some n; writes = decimal_writes n small }

-- zeros before digits
zeros_before : (k : ℕ) (ds : List ℕ) → digits_value 10 (replicate k 48 ++ ds) ≡ digits_value 10 ds
zeros_before zero ds = refl
zeros_before (suc k) ds = zeros_before k ds

padded_spells : (width n : ℕ) → n < 2 ^ 128 → Spells (padded width n) n
padded_spells width n small =
    let k = width - length (decimal n) in
    let writes = decimal_writes n small in
    record {
      some = omega (
        arith,
        length-append (replicate {A = ℕ} k 48) (decimal n),
        decimal_some n,
      );
      writes = record {
        all = digits_then (replicate k 48) (decimal n) (zeros k) writes.all;
        value = zeros_before k (decimal n) ∙ writes.value;
      };
    }

-- the value of digits behind others
value_behind : (xs : List ℕ) (a : ℕ)
    → digits_value_after 10 a xs ≡ a * 10 ^ length xs + digits_value 10 xs
value_behind [] a = omega arith
value_behind (x ∷ xs) a =
    let first = digit_value x in
    let here : digits_value_after 10 a (x ∷ xs)
    ≡ (a * 10 + first) * 10 ^ length xs + digits_value 10 xs =
    value_behind xs (a * 10 + first) in
    let there : digits_value 10 (x ∷ xs)
    ≡ (0 * 10 + first) * 10 ^ length xs + digits_value 10 xs =
    value_behind xs (0 * 10 + first) in
    let power : 10 ^ (length xs + 1) ≡ 10 ^ length xs * 10 = pow_more 10 (length xs) in
    let len : length (x ∷ xs) ≡ length xs + 1 = omega arith in
    here ∙ omega (
      arith,
      there,
      ap (λ p. a * p) power,
      ap (λ l. a * 10 ^ l) len,
    )

-- digits without the zeros at their end, behind a first one
cut_value : (d : ℕ) (ds : List ℕ) → all_ascii_digits ds ≡ true
    → digits_value 10 (d ∷ without_trailing_zeros ds) * 10 ^ trailing_zeros ds
    ≡ digits_value 10 (d ∷ ds)
cut_value d ds all =
    let left = without_trailing_zeros ds in
    let z = trailing_zeros ds in
    let a = 0 * 10 + digit_value d in
    let few = suffix_len-le-length (λ b. b == 48) ds in
    let len : length left + z ≡ length ds =
    omega (arith, length-take (length ds - z) ds, few) in
    let whole : digits_value 10 (d ∷ ds) ≡ a * 10 ^ length ds + digits_value 10 ds =
    value_behind ds a in
    let cut : digits_value 10 (d ∷ left) ≡ a * 10 ^ length left + digits_value 10 left =
    value_behind left a in
    let power = factors (length left) z (length ds) len in
    omega (
      arith,
      whole,
      ap (λ v. v * 10 ^ z) cut,
      ap (λ p. a * p) power,
      value_kept ds all,
    )

all_taken : (k : ℕ) (ds : List ℕ) → all_ascii_digits ds ≡ true
    → all_ascii_digits (take k ds) ≡ true
all_taken zero ds all = refl
all_taken (suc k) [] all = refl
all_taken (suc k) (d ∷ ds) all =
    let (first, rest) = tells_all_ascii_digits.parts d ds all in
    tells_all_ascii_digits.more d (take k ds) first (all_taken k ds rest)

-- digits behind a point, or none without a point, and an exponent
module _ (negative : Bool) (whole rest : List ℕ) (power : ℤ) (some_whole : 0 < length whole)
    (all_whole : all_ascii_digits whole ≡ true) (told : power_of (69 ∷ rest) ≡ Some power) where
  pub pointed_read : (digits : List ℕ) → all_ascii_digits digits ≡ true
      → decimal_of (sign_text negative ++ (whole ++ 46 ∷ (digits ++ 69 ∷ rest)))
      ≡ fitting (number_of_digits negative (whole ++ digits) (power -ℤ pos (length digits)))
  pointed_read digits all =
      parts_read negative whole 46 (digits ++ 69 ∷ rest) digits power some_whole all_whole refl
      (point_then digits rest power all told)

  behind_read : (digits : List ℕ) → all_ascii_digits digits ≡ true
      → decimal_of (sign_text negative ++ (whole ++ (behind_point digits ++ 69 ∷ rest)))
      ≡ fitting (number_of_digits negative (whole ++ digits) (power -ℤ pos (length digits)))
  behind_read [] all =
      parts_read negative whole 69 rest [] power some_whole all_whole refl
      (record { digits = refl; told = told })
  behind_read (d ∷ ds) all = pointed_read (d ∷ ds) all

-- a number with one digit before its point and a power is read as its digits times ten to that
pub scientific_read : (negative : Bool) (ds : List ℕ) (n : ℕ) (power : ℤ) → Spells ds n → 0 < n
    → n < 2 ^ 128 → nat_abs (power +ℤ pos (length ds - 1)) < 2 ^ 128
    → decimal_of (sign_text negative ++ with_power ds power)
    ≡ fitting (number_of_digits negative ds power)
scientific_read negative [] n power spells positive small near =
    absurd (omega (arith, spells.some))
scientific_read negative (d ∷ ds) n power spells positive small near =
    let (first, rest) = tells_all_ascii_digits.parts d ds spells.writes.all in
    let front : all_ascii_digits (d ∷ []) ≡ true = tells_all_ascii_digits.more d [] first refl in
    let left = without_trailing_zeros ds in
    let z = trailing_zeros ds in
    let all = all_taken (length ds - z) ds rest in
    let over = power +ℤ pos (length (d ∷ ds) - 1) in
    let exponent = padded_spells 2 (nat_abs over) near in
    let told = exponent_read over (padded 2 (nat_abs over)) exponent.some exponent.writes in
    let c = digits_value 10 (d ∷ left) in
    let value : c * 10 ^ z ≡ n = cut_value d ds rest ∙ spells.writes.value in
    let any : 0 < c = some_factor c (10 ^ z) n value positive in
    let few : c ≤ n =
    omega (arith, value, times c (let h : 1 ≤ 10 ^ z = omega (arith, some z) in h)) in
    let itself : c ≡ c * 10 ^ 0 = omega arith in
    let len : length left + z ≡ length ds =
    omega (
      arith,
      length-take (length ds - z) ds,
      suffix_len-le-length (λ b. b == 48) ds,
    ) in
    behind_read negative (d ∷ []) (exponent_sign over ∷ padded 2 (nat_abs over)) over
    (omega arith) front told left all
    ∙ ap fitting (one_number negative (d ∷ left) (d ∷ ds) (over -ℤ pos (length left)) power c 0 z
    any (omega (arith, few, small))
    (record { all = tells_all_ascii_digits.more d left first all; value = itself })
    (record { all = spells.writes.all; value = spells.writes.value ∙ sym value })
    (omega (arith, ints, len)))
  where
    some_factor : (c k n : ℕ) → c * k ≡ n → 0 < n → 0 < c
    some_factor zero k n same positive = absurd (omega (arith, same, positive))
    some_factor (suc c) k n same positive = omega arith
