-- How long the texts of General are.
use Rattle.shown_text_laws.proofs.Tests.{less_told}
use Rattle.std.proofs.Common.{◌≡◌, ◌∙◌, ◌++◌, ◌+◌, ◌-◌, ◌*◌, ◌/◌, ◌%◌, ◌^◌, ◌<◌, ◌≤◌, ◌==◌, ℕ, zero}
use Rattle.std.proofs.Common.{suc, ℤ, pos, negsuc, ◌+ℤ◌, ◌≤ℤ◌, Bool, true, false, cond, List, []}
use Rattle.std.proofs.Common.{◌∷◌, Option, Some, None, length, take, drop, replicate, refl, ap, sym}
use Rattle.std.proofs.Common.{subst, arith, ◌⊎◌, inl, inr, length-append, length-take, length-drop}
use Rattle.std.specs.Prelude.{nat_lt, nat_abs}
use Rattle.std.specs.Fmt.{decimal, digits, sign_text}
use Rattle.std.specs.Int.{is_negative}
use Rattle.std.proofs.Math.Nat.{pow-le-pow_right, div-lt_iff_lt-mul, add-mul-mod_self_right}
use Rattle.std.proofs.Math.Nat.{mod-eq_of_lt}
use Rattle.std.proofs.lemmas.Bool.{cases_lt}
use Rattle.std.proofs.lemmas.Bool.Decides.{nat_tests}
use Rattle.std.proofs.lemmas.Fmt.{length-decimal-le_wide}
use Rattle.std.proofs.lemmas.Int.{ints}
use Rattle.std.proofs.lemmas.List.{length-replicate}
use Rattle.decimals.specs.Words.{without_trailing_zeros, trailing_zeros, digit_count, nearest}
use Rattle.decimals.proofs.Nearest.{factors, near_up, some, times}
use Rattle.decimals.proofs.RoundedLaws.{has_digits}
use Rattle.excel_dates.proofs.SerialSteps.{by_false}
use Rattle.excel_dates.specs.Words.{padded, nearest_at}
use Rattle.shown_text.proofs.Zeros.{zero_cut}
use Rattle.shown_text_laws.proofs.NearPlaces.{at_most_fifteen}
use Rattle.shown_text_laws.proofs.SixDigits.{six_left}
use Rattle.shown_text.specs.Words.{behind_point, exponent_text, with_power, scientific, with_places}
use Rattle.shown_text.specs.Words.{general_places, text_in_places, general_size, shown_digits}
use Rattle.shown_text.specs.Words.{first_power}
use Rattle.shown_text.specs.GeneralText.{general_text}

cut_len : (ds : List ℕ) → length (without_trailing_zeros ds) ≤ length ds
cut_len ds = omega (arith, length-take (length ds - trailing_zeros ds) ds)

behind_len : (xs : List ℕ) → length (behind_point xs) ≤ 1 + length xs
behind_len [] = omega arith
behind_len (x ∷ xs) = omega arith

padded_len : (width n : ℕ) → length (decimal n) ≤ width → length (padded width n) ≡ width
padded_len width n few =
    omega (
      arith,
      length-append (replicate {A = ℕ} (width - length (decimal n)) 48) (decimal n),
      length-replicate {A = ℕ} (width - length (decimal n)) 48,
      few,
    )

exponent_len : (power : ℤ) → nat_abs power ≤ 99 → length (exponent_text power) ≡ 4
exponent_len power few =
    let two : length (decimal (nat_abs power)) ≤ 2 =
    length-decimal-le_wide 2 (nat_abs power) (omega arith) (omega arith) (omega arith) in
    omega (arith, padded_len 2 (nat_abs power) two)

-- six digits at most
power_len : (ds : List ℕ) (power : ℤ) → length ds ≤ 6
    → nat_abs (power +ℤ pos (length ds - 1)) ≤ 99 → length (with_power ds power) ≤ 11
power_len ds power few near =
    let cut = without_trailing_zeros (drop 1 ds) in
    let exponent = exponent_text (power +ℤ pos (length ds - 1)) in
    omega (
      arith,
      length-append (take 1 ds) (behind_point cut ++ exponent),
      length-append (behind_point cut) exponent,
      length-take 1 ds,
      behind_len cut,
      cut_len (drop 1 ds),
      length-drop 1 ds,
      exponent_len (power +ℤ pos (length ds - 1)) near,
      few,
    )

million : decimal 1000000 ≡ 49 ∷ 48 ∷ 48 ∷ 48 ∷ 48 ∷ 48 ∷ 48 ∷ []
unfolding digits
million = refl

-- a digit more, by rounding
million_len : (n : ℕ) (power : ℤ) → n ≡ 1000000 → nat_abs (power +ℤ pos 6) ≤ 99
    → length (with_power (decimal n) power) ≤ 11
million_len n power is near =
    let seven = 49 ∷ 48 ∷ 48 ∷ 48 ∷ 48 ∷ 48 ∷ 48 ∷ [] in
    let written : decimal n ≡ seven = ap decimal is ∙ million in
    let short : length (with_power seven power) ≤ 11 =
    omega (arith, exponent_len (power +ℤ pos 6) near) in
    subst (λ ds. length (with_power ds power) ≤ 11) (sym written) short

one_more_abs : (z : ℤ) → nat_abs z < 99 → nat_abs (z +ℤ pos 1) ≤ 99
one_more_abs (pos a) few = omega arith
one_more_abs (negsuc zero) few = omega arith
one_more_abs (negsuc (suc a)) few =
    let less : negsuc (suc a) +ℤ pos 1 ≡ negsuc a = omega (arith, ints) in
    let within : nat_abs (negsuc a) ≤ 99 = omega arith in
    subst (λ z. nat_abs z ≤ 99) (sym less) within

-- so many digits write more
longer : (a b : ℕ) → 10 ^ a < 10 ^ b → a < b
longer a b less = elim (cases_lt a b) [
  | inl below ↦ below
  | inr past ↦
      let power : 10 ^ b ≤ 10 ^ a = pow-le-pow_right (omega arith) past in
      absurd (omega (arith, power, less))
]

short_scientific : (n : ℕ) (power : ℤ) → 0 < n → n < 2 ^ 128 → nat_abs (first_power n power) < 99
    → length (scientific n power) ≤ 11
short_scientific n power positive small near =
    let count = digit_count n in
    let has = has_digits n positive small in
    let any : 0 < count = has.positive in
    elim (cases_lt 6 count) [
      | inl more ↦
          let k = count - 6 in
          let kept = nearest k n in
          let left = six_left n positive small more in
          let least : 10 ^ 5 ≤ kept = left.least in
          let most : kept ≤ 10 ^ 6 = left.most in
          let kept_has = has_digits kept (omega (arith, least)) (omega (arith, most)) in
          let length_least : 5 < length (decimal kept) =
          longer 5 (length (decimal kept)) (omega (arith, least, kept_has.below)) in
          let length_most : length (decimal kept) ≤ 7 =
          length-decimal-le_wide 7 kept (omega arith) (omega (arith, most)) (omega (arith, most)) in
          elim (cases_lt 6 (length (decimal kept))) [
            | inl seven ↦
                let length_is : length (decimal kept) - 1 ≡ 6 = omega (arith, seven, length_most) in
                let high : 10 ^ 6 ≤ kept =
                omega (arith, kept_has.least, ap (λ j. 10 ^ j) length_is) in
                let exact : kept ≡ 1000000 = omega (arith, high, most) in
                let moved : (power +ℤ pos k) +ℤ pos 6 ≡ first_power n power +ℤ pos 1 =
                omega (arith, ints, more) in
                million_len kept (power +ℤ pos k) exact
                (subst (λ z. nat_abs z ≤ 99) (sym moved) (one_more_abs (first_power n power) near))
            | inr few ↦
                let moved : (power +ℤ pos k) +ℤ pos (length (decimal kept) - 1)
                ≡ first_power n power =
                omega (arith, ints, more, few, length_least) in
                power_len (decimal kept) (power +ℤ pos k) few
                (subst (λ z. nat_abs z ≤ 99) (sym moved) (omega (arith, near)))
          ]
      | inr few ↦
          let k = count - 6 in
          let none : k ≡ 0 = omega (arith, few) in
          let itself : nearest 0 n ≡ n = omega arith in
          let kept_is : nearest k n ≡ n = ap (λ j. nearest j n) none ∙ itself in
          let same : length (decimal (nearest k n)) ≡ count =
          ap (λ m. length (decimal m)) kept_is in
          let moved : (power +ℤ pos k) +ℤ pos (length (decimal (nearest k n)) - 1)
          ≡ first_power n power =
          omega (arith, ints, none, same) in
          power_len (decimal (nearest k n)) (power +ℤ pos k) (omega (arith, same, few))
          (subst (λ z. nat_abs z ≤ 99) (sym moved) (omega (arith, near)))
    ]

-- nothing is left behind the point
whole_len : (places n : ℕ) → n % 10 ^ places ≡ 0 → n < 10 ^ 11 → length (with_places places n) ≤ 11
whole_len places n none below =
    let rest = behind_point (without_trailing_zeros (padded places (n % 10 ^ places))) in
    let empty : rest ≡ [] = zero_cut places (n % 10 ^ places) none in
    let unit = some places in
    let one : 1 ≤ 10 ^ places = omega (arith, unit) in
    let whole : n / 10 ^ places < 10 ^ 11 =
    (div-lt_iff_lt-mul unit).1 (omega (arith, below, times (10 ^ 11) one)) in
    let few : length (decimal (n / 10 ^ places)) ≤ 11 =
    length-decimal-le_wide 11 (n / 10 ^ places) (omega arith) whole (omega (arith, whole)) in
    omega (arith, length-append (decimal (n / 10 ^ places)) rest, ap length empty, few)

-- some digits behind the point
places_len : (places n : ℕ) → 0 < places → places ≤ 9 → n < 10 ^ 10
    → length (with_places places n) ≤ 11
places_len places n any few below =
    let rest = without_trailing_zeros (padded places (n % 10 ^ places)) in
    let unit = some places in
    let power : 10 ^ (10 - places) * 10 ^ places ≡ 10 ^ 10 =
    factors (10 - places) places 10 (omega (arith, few)) in
    let whole : n / 10 ^ places < 10 ^ (10 - places) =
    (div-lt_iff_lt-mul unit).1 (omega (arith, power, below)) in
    let least : 10 - places ≤ 10 = omega arith in
    let large : 10 ^ (10 - places) ≤ 10 ^ 10 = pow-le-pow_right (omega arith) least in
    let whole_few : length (decimal (n / 10 ^ places)) ≤ 10 - places =
    length-decimal-le_wide (10 - places) (n / 10 ^ places) (omega (arith, few)) whole
    (omega (arith, whole, large)) in
    let fraction : n % 10 ^ places < 10 ^ places = omega (arith, unit) in
    let ten : places ≤ 10 = omega (arith, few) in
    let small : 10 ^ places ≤ 10 ^ 10 = pow-le-pow_right (omega arith) ten in
    let fraction_few : length (decimal (n % 10 ^ places)) ≤ places =
    length-decimal-le_wide places (n % 10 ^ places) any fraction (omega (arith, fraction, small)) in
    omega (
      arith,
      length-append (decimal (n / 10 ^ places)) (behind_point rest),
      behind_len rest,
      cut_len (padded places (n % 10 ^ places)),
      padded_len places (n % 10 ^ places) fraction_few,
      whole_few,
      few,
    )

-- at most ten digits in places
ten_len : (places n : ℕ) → places ≤ 9 → n ≤ 10 ^ 10 → length (with_places places n) ≤ 11
ten_len zero n few most =
    let none : n % 10 ^ 0 ≡ 0 = omega arith in
    whole_len 0 n none (omega (arith, most))
ten_len (suc p) n few most = elim (cases_lt n (10 ^ 10)) [
  | inl below ↦ places_len (suc p) n (omega arith) few below
  | inr past ↦
      let places = suc p in
      let power : 10 ^ (10 - places) * 10 ^ places ≡ 10 ^ 10 =
      factors (10 - places) places 10 (omega (arith, few)) in
      let is : n ≡ 0 + 10 ^ (10 - places) * 10 ^ places = omega (arith, power, past, most) in
      let none : n % 10 ^ places ≡ 0 =
      ap (λ k. k % 10 ^ places) is
      ∙ (add-mul-mod_self_right 0 (10 ^ (10 - places)) (10 ^ places)
      ∙ mod-eq_of_lt (some places)) in
      whole_len places n none (omega (arith, most))
]

-- a size of so many digits before the point
near_bound : (n count : ℕ) (power : ℤ) → n < 10 ^ count → (pos count +ℤ power) ≤ℤ pos 10
    → nearest_at n power ≤ 10 ^ 10
near_bound n count (pos k) below few =
    let sum : count + k ≤ 10 = omega (arith, ints, few) in
    let product : n * 10 ^ k ≤ 10 ^ count * 10 ^ k =
    times (10 ^ k) (let h : n ≤ 10 ^ count = omega (arith, below) in h) in
    let power : 10 ^ (count + k) ≤ 10 ^ 10 = pow-le-pow_right (omega arith) sum in
    omega (arith, product, power, factors count k (count + k) refl)
near_bound n count (negsuc j) below few =
    let sum : count ≤ 10 + (j + 1) = omega (arith, ints, few) in
    let power : 10 ^ count ≤ 10 ^ (10 + (j + 1)) = pow-le-pow_right (omega arith) sum in
    near_up (10 ^ (j + 1)) n (10 ^ 10) (some (j + 1))
    (omega (arith, power, below, factors 10 (j + 1) (10 + (j + 1)) refl))

-- what is known of the places that General has
abbrev FitsPlaces : ℕ → ℤ → Option ℕ → Type 0
FitsPlaces n power None = Unit {0}
FitsPlaces n power (Some places) =
    (places ≤ 9) × ((nearest_at n (power +ℤ pos places) ≤ 10 ^ 10) ⊎ (places ≡ 0))

chosen_fits : (n : ℕ) (power : ℤ) (test : Bool) (first second : Option ℕ)
    → (test ≡ true → FitsPlaces n power first) → (test ≡ false → FitsPlaces n power second)
    → FitsPlaces n power (cond test first second)
chosen_fits n power true first second holds fails = holds refl
chosen_fits n power false first second holds fails = fails refl

up_to_ten : (first : ℕ) → nat_lt 10 first ≡ false → first ≤ 10
up_to_ten first fails = grind (arith, nat_tests)

general_fits : (n : ℕ) (power first : ℤ) → 0 < n → n < 2 ^ 128 → first ≡ first_power n power
    → FitsPlaces n power (general_places n power first)
general_fits n power (pos f) positive small is =
    let has = has_digits n positive small in
    let any : 0 < digit_count n = has.positive in
    chosen_fits n power (nat_lt 10 f) None (Some (9 - f)) (λ holds. tt)
    (λ fails.
    let ten : f ≤ 10 = up_to_ten f fails in
    let nine : 9 - f ≤ 9 = omega arith in (
      nine,
      elim (cases_lt f 10) [
        | inl below ↦
            inl (near_bound n (digit_count n) (power +ℤ pos (9 - f)) has.below
            (omega (arith, ints, is, any, below)))
        | inr past ↦ inr (omega (arith, ten, past))
      ],
    ))
general_fits n power (negsuc g) positive small is =
    let has = has_digits n positive small in
    let any : 0 < digit_count n = has.positive in
    chosen_fits n power _ (Some 9) None
    (λ holds. (
      let h : 9 ≤ 9 = omega arith in h,
      inl (near_bound n (digit_count n) (power +ℤ pos 9) has.below (omega (arith, ints, is, any))),
    ))
    (λ fails. tt)

chosen_len : (test : Bool) (xs ys : List ℕ) → (test ≡ true → length xs ≤ 11) → length ys ≤ 11
    → length (cond test xs ys) ≤ 11
chosen_len true xs ys first second = first refl
chosen_len false xs ys first second = second

in_places_len : (n : ℕ) (power : ℤ) (places : Option ℕ) → FitsPlaces n power places
    → length (scientific n power) ≤ 11 → length (text_in_places n power places) ≤ 11
in_places_len n power None fits short = short
in_places_len n power (Some places) fits short =
    let size = nearest_at n (power +ℤ pos places) in
    chosen_len (nat_lt size (10 ^ (11 + places))) (with_places places size) (scientific n power)
    (λ holds. elim fits.1 [
      | inl most ↦ ten_len places size fits.0 most
      | inr none ↦
          let below : size < 10 ^ (11 + places) = less_told size (10 ^ (11 + places)) holds in
          let unit : 10 ^ (11 + places) ≡ 10 ^ 11 = ap (λ k. 10 ^ (11 + k)) none in
          let nothing : size % 1 ≡ 0 = omega arith in
          let rest : size % 10 ^ places ≡ 0 = ap (λ k. size % 10 ^ k) none ∙ nothing in
          whole_len places size rest (omega (arith, below, unit))
    ]) short

size_len : (n : ℕ) (power : ℤ) → n < 2 ^ 128 → nat_abs (first_power n power) < 99
    → length (general_size n power) ≤ 11
size_len zero power small near = omega arith
size_len (suc n) power small near =
    let positive : 0 < suc n = omega arith in
    let other : (suc n == 0) ≡ false = grind (arith, nat_tests) in
    let text = text_in_places (suc n) power
    (general_places (suc n) power (first_power (suc n) power)) in
    let short : length text ≤ 11 =
    in_places_len (suc n) power (general_places (suc n) power (first_power (suc n) power))
    (general_fits (suc n) power (first_power (suc n) power) positive small refl)
    (short_scientific (suc n) power positive small near) in
    omega (arith, short, ap length (by_false (suc n == 0) (48 ∷ []) text other))

-- eleven bytes and a sign at most
pub general_len : (exact : ℤ × ℤ) → nat_abs exact.0 < 2 ^ 128
    → nat_abs (first_power (nat_abs (shown_digits exact).0) (shown_digits exact).1) < 99
    → length (general_text exact) ≤ 11 + length (sign_text (is_negative exact.0))
unfolding general_text
general_len exact small near =
    let n = nat_abs (shown_digits exact).0 in
    let power = (shown_digits exact).1 in
    let few : n < 2 ^ 128 = omega (arith, at_most_fifteen exact small) in
    omega (
      arith,
      length-append (sign_text (is_negative exact.0)) (general_size n power),
      size_len n power few near,
    )
