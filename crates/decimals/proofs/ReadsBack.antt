-- The text of a decimal writes that decimal, and equal numbers have one form.
use Rattle.std.proofs.Common.{◌≡◌, ℕ, zero, suc, ◌+◌, ◌-◌, ◌*◌, ◌%◌, ◌^◌, ◌<◌, ◌==◌, Bool, true}
use Rattle.std.proofs.Common.{false, cond, ◌&&◌, List, [], ◌∷◌, ◌++◌, length, take, drop, replicate}
use Rattle.std.proofs.Common.{Some, None, Option, ℤ, pos, negsuc, neg_ℤ, ◌+ℤ◌, ◌-ℤ◌, refl, sym, ap}
use Rattle.std.proofs.Common.{add-one, ◌∙◌, arith, length-append, length-take, length-drop}
use Rattle.std.proofs.Common.{append_assoc}
use Rattle.std.specs.Prelude.{nat_lt, nat_le, nat_abs, FitsSigned}
use Rattle.std.specs.Char.{is_ascii_digit}
use Rattle.std.specs.Fmt.{decimal, signed_decimal}
use Rattle.std.specs.Int.{w32, w128}
use Rattle.std.specs.List.{prefix_len}
use Rattle.std.specs.Option.{option_and_then}
use Rattle.std.specs.Str.{all_ascii_digits}
use Rattle.std.specs.Str.Parse.{AllDigits, digits_value, starts_with_minus, without_leading_sign}
use Rattle.std.proofs.Math.Seq.{take-append_seam, drop-append_seam}
use Rattle.std.proofs.lemmas.Bool.Decides.{nat_tests}
use Rattle.std.proofs.lemmas.Fmt.{decimal_digit, decimal_is_IsNumeral_wide}
use Rattle.std.proofs.lemmas.Grind.{pow_more, replicate_next}
use Rattle.std.proofs.lemmas.Int.{ints}
use Rattle.std.proofs.lemmas.Int.Digits.{digits_value_push}
use Rattle.std.proofs.lemmas.List.{append-nil, length-replicate, take-append-drop}
use Rattle.std.proofs.lemmas.Str.Parse.{tells_digits, tells_all_ascii_digits}
use Rattle.decimals.specs.declared.decimal.Decimal.{Decimal}
use Rattle.decimals.specs.declared.significand.Significand.{Significand}
use Rattle.decimals.specs.Decimals.{digits_in_front, behind_digits, fraction_digits}
use Rattle.decimals.specs.Decimals.{behind_fraction, power_of, signed_number, with_sign}
use Rattle.decimals.specs.Decimals.{number_of_digits, has_bits, fitting, unsigned_decimal}
use Rattle.decimals.specs.Decimals.{decimal_of, with_point, with_exponent, printed_digits, printed}
use Rattle.decimals.specs.Decimal.{number_of}
use Rattle.decimals.specs.Significand.{digits_added}
use Rattle.decimals.proofs.Parsed.{number_is}
use Rattle.decimals.proofs.Significands.{Keeps, keeps_added, keeps_none, take_whole}

-- a number in decimal digits
pub record Writes (digits : List ℕ) (n : ℕ) : Type 0 where
  pub all : all_ascii_digits digits ≡ true
  pub value : digits_value 10 digits ≡ n

all_digits : (ds : List ℕ) → AllDigits 10 ds → all_ascii_digits ds ≡ true
all_digits [] digits = refl
all_digits (d ∷ ds) digits =
    let (first, rest) = tells_digits.parts d ds digits in
    tells_all_ascii_digits.more d ds first (all_digits ds rest)

pub decimal_writes : (n : ℕ) → n < 2 ^ 128 → Writes (decimal n) n
decimal_writes n small =
    let numeral = decimal_is_IsNumeral_wide n (omega arith) in
    record { all = all_digits (decimal n) numeral.0.1; value = numeral.1 }

-- zeros behind digits, and before them
zero_digits : (ds es : List ℕ) → all_ascii_digits ds ≡ true → all_ascii_digits es ≡ true →
    all_ascii_digits (ds ++ es) ≡ true
zero_digits [] es all all_es = all_es
zero_digits (d ∷ ds) es all all_es =
    let (first, rest) = tells_all_ascii_digits.parts d ds all in
    tells_all_ascii_digits.more d (ds ++ es) first (zero_digits ds es rest all_es)

all_zeros : (n : ℕ) → all_ascii_digits (replicate n 48) ≡ true
all_zeros zero = refl
all_zeros (suc n) = all_zeros n

zeros_behind_value : (ds : List ℕ) (n : ℕ) →
    digits_value 10 (ds ++ replicate n 48) ≡ digits_value 10 ds * 10 ^ n
zeros_behind_value ds zero = rw append-nil (omega arith)
zeros_behind_value ds (suc n) =
    let next : ds ++ replicate (n + 1) 48 ≡ (ds ++ replicate n 48) ++ 48 ∷ [] =
    rw (replicate_next {X = ℕ} n 48) (sym (append_assoc ds (replicate n 48) (48 ∷ []))) in
    let push = digits_value_push 10 (ds ++ replicate n 48) 48 in
    let known = zeros_behind_value ds n in
    let power = pow_more 10 n in
    let total : digits_value 10 (ds ++ replicate (n + 1) 48) ≡ digits_value 10 ds * 10 ^ (n + 1) =
    rw (next, push, known, power) (omega arith) in
    rw add-one at total

zeros_before_value : (n : ℕ) (ds : List ℕ) →
    digits_value 10 (replicate n 48 ++ ds) ≡ digits_value 10 ds
zeros_before_value zero ds = refl
zeros_before_value (suc n) ds = zeros_before_value n ds

-- one power more
pub times_ten : (n k : ℕ) → n * 10 ^ suc k ≡ n * 10 ^ k * 10
times_ten n k =
    let power : 10 ^ (k + 1) ≡ 10 ^ k * 10 = pow_more 10 k in
    let total : n * 10 ^ (k + 1) ≡ n * 10 ^ k * 10 = rw power (omega arith) in
    rw add-one at total

-- one form: two whole numbers without zeros at their end, each times a power of ten, are equal
-- only where both are the same
pub one_form : (m n i j : ℕ) → (m % 10 ≡ 0 → ⊥) → (n % 10 ≡ 0 → ⊥) → m * 10 ^ i ≡ n * 10 ^ j →
    (m ≡ n) × (i ≡ j)
one_form m n zero zero last_m last_n same = (omega arith, refl)
one_form m n zero (suc j) last_m last_n same =
    let step = times_ten n j in
    absurd (last_m (omega (arith, step, same)))
one_form m n (suc i) zero last_m last_n same =
    let step = times_ten m i in
    absurd (last_n (omega (arith, step, same)))
one_form m n (suc i) (suc j) last_m last_n same =
    let step = times_ten m i in
    let other = times_ten n j in
    let less : m * 10 ^ i ≡ n * 10 ^ j = omega (arith, step, other, same) in
    let (alike, powers) = one_form m n i j last_m last_n less in
    (alike, ap suc powers)

-- only zero is zero times a power
ends_zero : (m i n j : ℕ) → m ≡ 0 → m * 10 ^ i ≡ n * 10 ^ j → n % 10 ≡ 0
ends_zero m i n zero none same = omega (arith, none, same, rw none at same)
ends_zero m i n (suc j) none same =
    let step = times_ten n j in
    let less : m * 10 ^ i ≡ 0 = rw none (omega arith) in
    ends_zero 0 0 n j refl (omega (arith, step, same, less))

-- what is kept of digits that write a number and zeros behind it
kept_form : (digits : List ℕ) (n zeros : ℕ) → Writes digits (n * 10 ^ zeros) → (n % 10 ≡ 0 → ⊥) →
    (s : Significand) × Keeps s digits × (s.number ≡ n) × (s.zeros ≡ zeros)
kept_form digits n zeros writes last =
    let nothing : Significand = record { number = 0; zeros = 0; count = 0 } in
    let s = digits_added nothing digits in
    let keeps : Keeps s digits = keeps_added nothing [] digits writes.all keeps_none in
    let same : s.number * 10 ^ s.zeros ≡ n * 10 ^ zeros = keeps.value ∙ writes.value in
    let some : s.number % 10 ≡ 0 → ⊥ =
    λ ends. last (ends_zero s.number s.zeros n zeros (keeps.trimmed ends) same) in
    let (number, power) = one_form s.number n s.zeros zeros some last same in
    (s, keeps, number, power)

-- the number that those digits write
pub number_form : (negative : Bool) (digits : List ℕ) (n zeros : ℕ) (power : ℤ) →
    Writes digits (n * 10 ^ zeros) → (n % 10 ≡ 0 → ⊥) →
    number_of_digits negative digits power ≡ (with_sign negative n, power +ℤ pos zeros)
number_form negative digits n zeros power writes last =
    let (s, keeps, number, places) = kept_form digits n zeros writes last in
    let some : (s.number == 0) ≡ false =
    no_zero s.number (λ none. last (omega (arith, number, none))) in
    number_is negative digits power s keeps
    ∙ (ap (λ t. cond {A = ℤ × ℤ} t (pos 0, pos 0)
    (with_sign negative s.number, power +ℤ pos s.zeros)) some
    ∙ (ap (λ k. (with_sign negative k, power +ℤ pos s.zeros)) number
    ∙ ap (λ k. (with_sign negative n, power +ℤ pos k)) places))
  where
    no_zero : (k : ℕ) → (k ≡ 0 → ⊥) → (k == 0) ≡ false
    no_zero zero none = absurd (none refl)
    no_zero (suc k) none = grind (arith, nat_tests)

fits_or_not : (test : Bool) (o : Option (ℤ × ℤ)) → test ≡ false → cond test None o ≡ o
fits_or_not true o none = absurd (cc)
fits_or_not false o none = refl

-- the number of a whole part, and of what stands behind it
unsigned_known : (negative : Bool) (whole behind : List ℕ) (n zeros : ℕ) (z power : ℤ) →
    0 < length (whole ++ fraction_digits behind) →
    Writes (whole ++ fraction_digits behind) (n * 10 ^ zeros) → (n % 10 ≡ 0 → ⊥) →
    power_of (behind_fraction behind) ≡ Some z →
    (z -ℤ pos (length (fraction_digits behind))) +ℤ pos zeros ≡ power →
    unsigned_decimal negative whole behind ≡ fitting (with_sign negative n, power)
unsigned_known negative whole behind n zeros z power some writes last known moved =
    let digits : (length (whole ++ fraction_digits behind) == 0) ≡ false =
    grind (arith, nat_tests) in
    let number =
    number_form negative (whole ++ fraction_digits behind) n zeros
    (z -ℤ pos (length (fraction_digits behind))) writes last in
    fits_or_not _ _ digits
    ∙ (ap (option_and_then
    (λ p. fitting
    (number_of_digits negative (whole ++ fraction_digits behind)
    (p -ℤ pos (length (fraction_digits behind)))))) known
    ∙ (ap fitting number ∙ ap (λ p. fitting (with_sign negative n, p)) moved))

-- digits in front, up to a byte that is none or to the end
len_all : (ds : List ℕ) → all_ascii_digits ds ≡ true → prefix_len is_ascii_digit ds ≡ length ds
len_all [] all = refl
len_all (d ∷ ds) all =
    let (first, rest) = tells_all_ascii_digits.parts d ds all in
    let digit : is_ascii_digit d ≡ true = grind (arith, nat_tests, first.0, first.1) in
    ap (λ t. cond t (1 + prefix_len is_ascii_digit ds) 0) digit ∙ omega (arith, len_all ds rest)

len_then : (ds : List ℕ) (b : ℕ) (bs : List ℕ) → all_ascii_digits ds ≡ true →
    is_ascii_digit b ≡ false → prefix_len is_ascii_digit (ds ++ b ∷ bs) ≡ length ds
len_then [] b bs all none = ap (λ t. cond t (1 + prefix_len is_ascii_digit bs) 0) none
len_then (d ∷ ds) b bs all none =
    let (first, rest) = tells_all_ascii_digits.parts d ds all in
    let digit : is_ascii_digit d ≡ true = grind (arith, nat_tests, first.0, first.1) in
    ap (λ t. cond t (1 + prefix_len is_ascii_digit (ds ++ b ∷ bs)) 0) digit
    ∙ omega (arith, len_then ds b bs rest none)

drop_whole : (ds : List ℕ) → drop (length ds) ds ≡ []
drop_whole [] = refl
drop_whole (d ∷ ds) = drop_whole ds

front_all : (ds : List ℕ) → all_ascii_digits ds ≡ true → digits_in_front ds ≡ ds
front_all ds all = ap (λ k. take k ds) (len_all ds all) ∙ take_whole ds

behind_all : (ds : List ℕ) → all_ascii_digits ds ≡ true → behind_digits ds ≡ []
behind_all ds all = ap (λ k. drop k ds) (len_all ds all) ∙ drop_whole ds

front_then : (ds : List ℕ) (b : ℕ) (bs : List ℕ) → all_ascii_digits ds ≡ true →
    is_ascii_digit b ≡ false → digits_in_front (ds ++ b ∷ bs) ≡ ds
front_then ds b bs all none =
    ap (λ k. take k (ds ++ b ∷ bs)) (len_then ds b bs all none) ∙ take-append_seam ds (b ∷ bs)

behind_then : (ds : List ℕ) (b : ℕ) (bs : List ℕ) → all_ascii_digits ds ≡ true →
    is_ascii_digit b ≡ false → behind_digits (ds ++ b ∷ bs) ≡ b ∷ bs
behind_then ds b bs all none =
    ap (λ k. drop k (ds ++ b ∷ bs)) (len_then ds b bs all none) ∙ drop-append_seam ds (b ∷ bs)

-- a text that begins with a digit has no sign
plain_minus : (ds es : List ℕ) → 0 < length ds → all_ascii_digits ds ≡ true →
    starts_with_minus (ds ++ es) ≡ false
plain_minus [] es some all = absurd (omega arith)
plain_minus (d ∷ ds) es some all =
    let (first, rest) = tells_all_ascii_digits.parts d ds all in
    grind (arith, nat_tests, first.0, first.1)

plain_text : (ds es : List ℕ) → 0 < length ds → all_ascii_digits ds ≡ true →
    without_leading_sign (ds ++ es) ≡ ds ++ es
plain_text [] es some all = absurd (omega arith)
plain_text (d ∷ ds) es some all =
    let (first, rest) = tells_all_ascii_digits.parts d ds all in
    let minus : (d == 45) ≡ false = grind (arith, nat_tests, first.0, first.1) in
    let plus : (d == 43) ≡ false = grind (arith, nat_tests, first.0, first.1) in
    ap (λ t. cond t (drop 1 ((d ∷ ds) ++ es)) (drop (cond (d == 43) 1 0) ((d ∷ ds) ++ es))) minus
    ∙ ap (λ t. drop (cond t 1 0) ((d ∷ ds) ++ es)) plus

-- a text writes the number n times a power of ten
record Reads (text : List ℕ) (n : ℕ) (power : ℤ) : Type 0 where
  minus : starts_with_minus text ≡ false
  whole : without_leading_sign text ≡ text
  reads : (negative : Bool) →
      unsigned_decimal negative (digits_in_front text) (behind_digits text) ≡ fitting
      (with_sign negative n, power)

-- digits and zeros behind them
zeros_read : (ds : List ℕ) (n k : ℕ) → 0 < length ds → Writes ds n → (n % 10 ≡ 0 → ⊥) →
    Reads (ds ++ replicate k 48) n (pos k)
zeros_read ds n k some writes last =
    let all : all_ascii_digits (ds ++ replicate k 48) ≡ true =
    zero_digits ds (replicate k 48) writes.all (all_zeros k) in
    let value : digits_value 10 (ds ++ replicate k 48) ≡ n * 10 ^ k =
    rw (← writes.value) (zeros_behind_value ds k) in
    let front = front_all (ds ++ replicate k 48) all in
    let behind = behind_all (ds ++ replicate k 48) all in
    let digits : Writes ((ds ++ replicate k 48) ++ []) (n * 10 ^ k) =
    rw append-nil (record { all = all; value = value }) in
    let enough : 0 < length ((ds ++ replicate k 48) ++ []) =
    rw append-nil (omega (arith, length-append ds (replicate k 48))) in
    record {
      minus = plain_minus ds (replicate k 48) some writes.all;
      whole = plain_text ds (replicate k 48) some writes.all;
      reads = λ negative. rw (front, behind)
          (unsigned_known negative (ds ++ replicate k 48) [] n k (pos 0)
          (pos k) enough digits last refl (omega (arith, ints)));
    }

-- digits with a point between them
all_parts : (xs ys : List ℕ) → all_ascii_digits (xs ++ ys) ≡ true →
    (all_ascii_digits xs ≡ true) × (all_ascii_digits ys ≡ true)
all_parts [] ys all = (refl, all)
all_parts (x ∷ xs) ys all =
    let (first, rest) = tells_all_ascii_digits.parts x (xs ++ ys) all in
    let (front, back) = all_parts xs ys rest in
    (tells_all_ascii_digits.more x xs first front, back)

point_read : (xs ys : List ℕ) (n : ℕ) (power : ℤ) → 0 < length xs → Writes (xs ++ ys) n →
    (n % 10 ≡ 0 → ⊥) → pos 0 -ℤ pos (length ys) ≡ power → Reads (xs ++ 46 ∷ ys) n power
point_read xs ys n power some writes last places =
    let (all_xs, all_ys) = all_parts xs ys writes.all in
    let front = front_then xs 46 ys all_xs refl in
    let behind = behind_then xs 46 ys all_xs refl in
    let fraction : fraction_digits (46 ∷ ys) ≡ ys = front_all ys all_ys in
    let rest : behind_fraction (46 ∷ ys) ≡ [] = behind_all ys all_ys in
    let value : digits_value 10 (xs ++ ys) ≡ n * 10 ^ 0 = writes.value ∙ omega arith in
    let digits : Writes (xs ++ fraction_digits (46 ∷ ys)) (n * 10 ^ 0) =
    rw fraction (record { all = writes.all; value = value }) in
    let enough : 0 < length (xs ++ fraction_digits (46 ∷ ys)) =
    omega (arith, length-append xs (fraction_digits (46 ∷ ys))) in
    let none : power_of (behind_fraction (46 ∷ ys)) ≡ Some (pos 0) = ap power_of rest in
    let moved : (pos 0 -ℤ pos (length (fraction_digits (46 ∷ ys)))) +ℤ pos 0 ≡ power =
    rw fraction (omega (arith, ints, places)) in
    record {
      minus = plain_minus xs (46 ∷ ys) some all_xs;
      whole = plain_text xs (46 ∷ ys) some all_xs;
      reads = λ negative. rw (front, behind)
          (unsigned_known negative xs (46 ∷ ys) n 0 (pos 0) power enough digits last none moved);
    }

-- the number that a sign or none and digits write
signed_from : Bool → List ℕ → Option ℤ
signed_from minus rest =
    cond (nat_lt 0 (length rest) && all_ascii_digits rest)
    (Some (cond minus (neg_ℤ (pos (digits_value 10 rest))) (pos (digits_value 10 rest)))) None

signed_writes : (minus : Bool) (rest : List ℕ) (n : ℕ) → 0 < length rest → Writes rest n →
    signed_from minus rest ≡ Some (cond minus (neg_ℤ (pos n)) (pos n))
unfolding signed_from
signed_writes minus rest n some writes =
    let both : (nat_lt 0 (length rest) && all_ascii_digits rest) ≡ true =
    ap (λ t. nat_lt 0 (length rest) && t) writes.all ∙ grind (arith, nat_tests) in
    ap (λ t. cond {A = Option ℤ} t
    (Some (cond minus (neg_ℤ (pos (digits_value 10 rest))) (pos (digits_value 10 rest)))) None)
    both
    ∙ ap (λ k. Some (cond minus (neg_ℤ (pos k)) (pos k))) writes.value

signed_number_from : (text : List ℕ) →
    signed_number text ≡ signed_from (starts_with_minus text) (without_leading_sign text)
unfolding signed_from
signed_number_from text = refl

decimal_some : (n : ℕ) → n < 2 ^ 128 → 0 < length (decimal n)
decimal_some n small = (decimal_is_IsNumeral_wide n (omega arith)).0.0

plain_number : (ds : List ℕ) (n : ℕ) → 0 < length ds → Writes ds n → signed_number ds ≡ Some (pos n)
plain_number ds n some writes =
    let minus : starts_with_minus ds ≡ false =
    ap starts_with_minus (sym (append-nil ds)) ∙ plain_minus ds [] some writes.all in
    let whole : without_leading_sign ds ≡ ds =
    ap without_leading_sign (sym (append-nil ds))
    ∙ (plain_text ds [] some writes.all ∙ append-nil ds) in
    signed_number_from ds
    ∙ (ap (λ m. signed_from m (without_leading_sign ds)) minus
    ∙ (ap (signed_from false) whole ∙ signed_writes false ds n some writes))

-- the number that a whole number's text writes
signed_back : (power : ℤ) → has_bits 31 power ≡ true →
    power_of (69 ∷ signed_decimal power) ≡ Some power
signed_back (pos n) fits =
    let small : n < 2 ^ 128 = grind (arith, nat_tests) in
    plain_number (decimal n) n (decimal_some n small) (decimal_writes n small)
signed_back (negsuc n) fits =
    let small : suc n < 2 ^ 128 = grind (arith, nat_tests) in
    signed_number_from (45 ∷ decimal (suc n))
    ∙ signed_writes true (decimal (suc n)) (suc n) (decimal_some (suc n) small)
    (decimal_writes (suc n) small)

-- digits with an exponent
exponent_read : (ds : List ℕ) (n : ℕ) (power : ℤ) → 0 < length ds → Writes ds n → (n % 10 ≡ 0 → ⊥) →
    has_bits 31 power ≡ true → Reads (with_exponent ds power) n power
exponent_read ds n power some writes last fits =
    let front = front_then ds 69 (signed_decimal power) writes.all refl in
    let behind = behind_then ds 69 (signed_decimal power) writes.all refl in
    let value : digits_value 10 ds ≡ n * 10 ^ 0 = writes.value ∙ omega arith in
    let digits : Writes (ds ++ []) (n * 10 ^ 0) =
    rw append-nil (record { all = writes.all; value = value }) in
    let enough : 0 < length (ds ++ []) = rw append-nil some in
    let moved : (power -ℤ pos 0) +ℤ pos 0 ≡ power = omega (arith, ints) in
    record {
      minus = plain_minus ds (69 ∷ signed_decimal power) some writes.all;
      whole = plain_text ds (69 ∷ signed_decimal power) some writes.all;
      reads = λ negative. rw (front, behind)
          (unsigned_known negative ds (69 ∷ signed_decimal power) n 0 power power enough digits last
          (signed_back power fits) moved);
    }

pointed_read : (ds : List ℕ) (n k : ℕ) → 0 < length ds → Writes ds n → (n % 10 ≡ 0 → ⊥) →
    Reads (with_point (k + 1) ds) n (negsuc k)
pointed_read ds n k some writes last =
    let zeros = k + 1 + 1 - length ds in
    let padded = replicate zeros 48 ++ ds in
    let all : all_ascii_digits padded ≡ true =
    zero_digits (replicate zeros 48) ds (all_zeros zeros) writes.all in
    let value : digits_value 10 padded ≡ n = zeros_before_value zeros ds ∙ writes.value in
    let len : length padded ≡ zeros + length ds =
    length-append (replicate zeros 48) ds
    ∙ ap (λ l. l + length ds) (length-replicate {A = ℕ} zeros 48) in
    let front = length-take (length padded - (k + 1)) padded in
    let back = length-drop (length padded - (k + 1)) padded in
    let writes_padded : Writes
    (take (length padded - (k + 1)) padded ++ drop (length padded - (k + 1)) padded) n =
    rw take-append-drop (record { all = all; value = value }) in
    point_read (take (length padded - (k + 1)) padded) (drop (length padded - (k + 1)) padded) n
    (negsuc k) (omega (arith, len, front)) writes_padded last (omega (arith, ints, len, back))

either_read : (test : Bool) (one other : List ℕ) (n : ℕ) (power : ℤ) → Reads one n power →
    Reads other n power → Reads (cond test one other) n power
either_read true one other n power reads other_reads = reads
either_read false one other n power reads other_reads = other_reads

digits_read : (ds : List ℕ) (n : ℕ) (power : ℤ) → 0 < length ds → Writes ds n → (n % 10 ≡ 0 → ⊥) →
    has_bits 31 power ≡ true → Reads (printed_digits ds power) n power
digits_read ds n (pos k) some writes last fits =
    either_read (nat_le k 20) _ _ n (pos k) (zeros_read ds n k some writes last)
    (exponent_read ds n (pos k) some writes last fits)
digits_read ds n (negsuc k) some writes last fits =
    either_read (nat_lt k 20) _ _ n (negsuc k) (pointed_read ds n k some writes last)
    (exponent_read ds n (negsuc k) some writes last fits)

number_read : (n : ℕ) (power : ℤ) → n < 2 ^ 128 → (n % 10 ≡ 0 → ⊥) → has_bits 31 power ≡ true →
    Reads (printed_digits (decimal n) power) n power
number_read n power small last fits =
    digits_read (decimal n) n power (decimal_some n small) (decimal_writes n small) last fits

pub it_fits : (number : ℤ × ℤ) → has_bits 127 number.0 ≡ true → has_bits 31 number.1 ≡ true →
    fitting number ≡ Some number
it_fits number fits power_fits =
    ap (λ t. cond {A = Option (ℤ × ℤ)} (t && has_bits 31 number.1) (Some number) None) fits
    ∙ ap (λ t. cond {A = Option (ℤ × ℤ)} t (Some number) None) power_fits

no_zero : (n : ℕ) → pos (suc n) ≡ pos 0 → ⊥
no_zero n same = omega (arith, ints, same)

no_negative : (n : ℕ) → negsuc n ≡ pos 0 → ⊥
no_negative n same = omega (arith, ints, same)

zero_back : decimal_of (printed_digits (48 ∷ []) (pos 0)) ≡ Some (pos 0, pos 0)
unfolding decimal_of
zero_back = refl

-- the text of a number without zeros at its end writes that number
pub printed_back : (mantissa power : ℤ) → has_bits 127 mantissa ≡ true → has_bits 31 power ≡ true →
    (mantissa ≡ pos 0 → power ≡ pos 0) → (nat_abs mantissa % 10 ≡ 0 → mantissa ≡ pos 0) →
    decimal_of (printed (mantissa, power)) ≡ Some (mantissa, power)
unfolding decimal_of printed
printed_back (pos zero) power fits power_fits no_power last =
    ap (λ p. decimal_of (printed_digits (decimal 0) p)) (no_power refl)
    ∙ (ap (λ ds. decimal_of (printed_digits ds (pos 0))) (decimal_digit 0 (omega arith))
    ∙ (zero_back ∙ ap (λ p. Some (pos 0, p)) (sym (no_power refl))))
printed_back (pos (suc n)) power fits power_fits no_power last =
    let some : suc n % 10 ≡ 0 → ⊥ = λ ends. no_zero n (last ends) in
    let reads = number_read (suc n) power (grind (arith, nat_tests)) some power_fits in
    ap (λ m. unsigned_decimal m
    (digits_in_front (without_leading_sign (printed_digits (decimal (suc n)) power)))
    (behind_digits (without_leading_sign (printed_digits (decimal (suc n)) power)))) reads.minus
    ∙ (ap (λ t. unsigned_decimal false (digits_in_front t) (behind_digits t)) reads.whole
    ∙ (reads.reads false ∙ it_fits (pos (suc n), power) fits power_fits))
printed_back (negsuc n) power fits power_fits no_power last =
    let some : suc n % 10 ≡ 0 → ⊥ = λ ends. no_negative n (last ends) in
    let reads = number_read (suc n) power (grind (arith, nat_tests)) some power_fits in
    ap (λ k. decimal_of (45 ∷ printed_digits (decimal k) power)) (add-one n)
    ∙ (reads.reads true ∙ it_fits (negsuc n, power) fits power_fits)

pub mantissa_fits : (z : ℤ) → FitsSigned w128 z → has_bits 127 z ≡ true
mantissa_fits (pos n) fits = grind (arith, nat_tests, fits.sfits)
mantissa_fits (negsuc n) fits = grind (arith, nat_tests, fits.sfits)

pub power_fits : (z : ℤ) → FitsSigned w32 z → has_bits 31 z ≡ true
power_fits (pos n) fits = grind (arith, nat_tests, fits.sfits)
power_fits (negsuc n) fits = grind (arith, nat_tests, fits.sfits)

pub decimal_back : (d : Decimal) → FitsSigned w128 d.mantissa → FitsSigned w32 d.exponent →
    decimal_of (printed (number_of d)) ≡ Some (number_of d)
decimal_back d fits few =
    printed_back d.mantissa d.exponent (mantissa_fits d.mantissa fits)
    (power_fits d.exponent few) d.zero d.trimmed
