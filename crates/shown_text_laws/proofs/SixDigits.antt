-- Numbers of six digits that are read of two texts are one.
use Rattle.std.proofs.Common.{◌≡◌, ◌∙◌, ◌++◌, ◌+◌, ◌-◌, ◌*◌, ◌^◌, ◌<◌, ◌≤◌, ◌==◌, ℕ, zero, suc, ℤ}
use Rattle.std.proofs.Common.{pos, negsuc, ◌+ℤ◌, ◌-ℤ◌, Bool, true, false, List, [], length, refl}
use Rattle.std.proofs.Common.{ap, sym, subst, arith, inl, inr, replicate, cond, length-append}
use Rattle.std.specs.Prelude.{nat_abs, nat_lt, neg_ℤ, ◌/◌}
use Rattle.std.specs.Fmt.{decimal}
use Rattle.std.specs.Int.{is_negative}
use Rattle.std.proofs.lemmas.Bool.{cases_lt}
use Rattle.std.proofs.lemmas.Bool.Decides.{nat_tests}
use Rattle.std.proofs.lemmas.Int.{ints}
use Rattle.std.proofs.lemmas.List.{length-replicate}
use Rattle.std.proofs.lemmas.Nat.{le-div}
use Rattle.decimals.specs.Words.{fitting, number_of_digits, with_sign, digit_count, digits_behind}
use Rattle.decimals.specs.Words.{nearest}
use Rattle.decimals.specs.Decimals.{decimal_from}
use Rattle.decimals.specs.Rounding.{rounded_number}
use Rattle.decimals.proofs.Nearest.{factors, low, nearest_most, some}
use Rattle.decimals.proofs.ReadsBack.{Writes, number_form}
use Rattle.decimals.proofs.Rounded.{count_is, few_digits, not_negative, size_signed}
use Rattle.decimals.proofs.RoundedLaws.{has_digits}
use Rattle.excel_dates.proofs.SerialSteps.{by_false}
use Rattle.shown_text.specs.Words.{digits_above_0, nearest_digits, first_power, power_over}
use Rattle.shown_text.specs.Words.{shown_power, whole_steps}
use Rattle.shown_text_laws.proofs.ManyPlaces.{pointed}
use Rattle.shown_text_laws.proofs.NearPlaces.{cut}
use Rattle.shown_text_laws.proofs.ReadPlaces.{above_0_writes}

in_two : (m zeros k n : ℕ) → m * 10 ^ zeros ≡ n → m * 10 ^ (zeros + k) ≡ n * 10 ^ k
in_two m zeros k n same =
    omega (
      arith,
      ap (λ p. m * p) (factors zeros k (zeros + k) refl),
      ap (λ p. p * 10 ^ k) same,
    )

-- a number that is written by digits in two ways, each over its power of ten
pub one_number : (negative : Bool) (first second : List ℕ) (p q : ℤ) (n i j : ℕ) → 0 < n
    → n < 2 ^ 128 → Writes first (n * 10 ^ i) → Writes second (n * 10 ^ j)
    → (p +ℤ pos i) ≡ (q +ℤ pos j)
    → number_of_digits negative first p ≡ number_of_digits negative second q
one_number negative first second p q n i j positive small writes others same =
    let c = cut n positive small in
    let one : c.left * 10 ^ (c.zeros + i) ≡ n * 10 ^ i = in_two c.left c.zeros i n c.same in
    let other : c.left * 10 ^ (c.zeros + j) ≡ n * 10 ^ j = in_two c.left c.zeros j n c.same in
    let power : (p +ℤ pos (c.zeros + i)) ≡ (q +ℤ pos (c.zeros + j)) = omega (arith, ints, same) in
    number_form negative first c.left (c.zeros + i) p (subst (Writes first) (sym one) writes) c.last
    ∙ ap (λ power. (with_sign negative c.left, power)) power
    ∙ sym (number_form negative second c.left (c.zeros + j) q
    (subst (Writes second) (sym other) others) c.last)

sign_of : (negative : Bool) (n : ℕ) → 0 < n → is_negative (with_sign negative n) ≡ negative
sign_of negative zero positive = absurd (omega arith)
sign_of true (suc n) positive = refl
sign_of false (suc n) positive = not_negative (suc n)

-- six digits of a number above 0
pub six_digits : (negative : Bool) (n : ℕ) (power : ℤ) → 0 < n → 0 < nearest (digits_behind 6 n) n
    → decimal_from (rounded_number 6 (with_sign negative n, power))
    ≡ fitting (number_of_digits negative (decimal (nearest (digits_behind 6 n) n))
    (power +ℤ pos (digits_behind 6 n)))
unfolding decimal_from rounded_number
six_digits negative n power positive some_left =
    let size = size_signed negative n in
    let sign = sign_of negative n positive in
    let m = nearest (digits_behind 6 n) n in
    (λ i. fitting (number_of_digits
    (is_negative (with_sign (sign i) (nearest (digits_behind 6 (size i)) (size i))))
    (decimal (nat_abs (with_sign (sign i) (nearest (digits_behind 6 (size i)) (size i)))))
    (power +ℤ pos (digits_behind 6 (size i)))))
    ∙ (λ i. fitting (number_of_digits (sign_of negative m some_left i)
    (decimal (size_signed negative m i)) (power +ℤ pos (digits_behind 6 n))))

-- the digits over the power that is shown, which write the six digits over another power
pub record SixShown (n : ℕ) (power : ℤ) : Type 0 where
  pub over : ℤ
  pub is : shown_power (pointed 5) n power ≡ over
  pub left : ℕ
  pub positive : 0 < left
  pub small : left < 2 ^ 128
  pub i : ℕ
  pub j : ℕ
  pub digits : Writes (nearest_digits n (power_over (pointed 5) power over)) (left * 10 ^ i)
  pub rounded : nearest (digits_behind 6 n) n ≡ left * 10 ^ j
  pub near : nat_abs over ≤ nat_abs power + 100
  pub same : ((over -ℤ pos 5) +ℤ pos i) ≡ ((power +ℤ pos (digits_behind 6 n)) +ℤ pos j)

one_step : (power : ℤ) → whole_steps 1 power ≡ power
one_step (pos n) = let same : n / 1 * 1 ≡ n = omega arith in ap pos same
one_step (negsuc n) =
    let same : (n / 1 + 1) * 1 ≡ suc n = omega arith in ap (λ k. neg_ℤ (pos k)) same

-- the power of the first digit is shown, and the next one where there is a digit more
power_by : (n : ℕ) (power k : ℤ) (count : ℕ)
    → power_over (pointed 5) power (first_power n power) ≡ k
    → length (nearest_digits n k) ≡ count
    → shown_power (pointed 5) n power
    ≡ cond (nat_lt 6 count) (first_power n power +ℤ pos 1) (first_power n power)
power_by n power k count is len =
    (λ i. cond (nat_lt 6 (length (nearest_digits n (power_over (pointed 5) power
    (one_step (first_power n power) i)))))
    (one_step (first_power n power) i +ℤ pos 1) (one_step (first_power n power) i))
    ∙ ap (λ p. cond (nat_lt 6 (length (nearest_digits n p)))
    (first_power n power +ℤ pos 1) (first_power n power)) is
    ∙ ap (λ l. cond (nat_lt 6 l) (first_power n power +ℤ pos 1) (first_power n power)) len

above_0_len : (n k : ℕ) → 0 < n → length (digits_above_0 n k) ≡ digit_count n + k
above_0_len zero k positive = absurd (omega arith)
above_0_len (suc n) k positive =
    let other : (suc n == 0) ≡ false = grind (arith, nat_tests) in
    ap length (by_false (suc n == 0) [] (decimal (suc n) ++ replicate k 48) other)
    ∙ omega (
      arith,
      length-append (decimal (suc n)) (replicate {A = ℕ} k 48),
      length-replicate {A = ℕ} k 48,
    )

-- a number of six digits at most
short_shown : (n : ℕ) (power : ℤ) → 0 < n → n < 2 ^ 128 → digit_count n ≤ 6 → SixShown n power
short_shown n power positive small few =
    let any = (has_digits n positive small).positive in
    let k = 6 - digit_count n in
    let is : power_over (pointed 5) power (first_power n power) ≡ pos k =
    omega (arith, ints, any, few) in
    let len : length (nearest_digits n (pos k)) ≡ 6 =
    omega (arith, above_0_len n k positive, few) in
    let none : digits_behind 6 n ≡ 0 = omega (arith, few) in
    record {
      over = first_power n power;
      is = power_by n power (pos k) 6 is len;
      left = n;
      positive = positive;
      small = small;
      i = k;
      j = 0;
      digits = subst (λ p. Writes (nearest_digits n p) (n * 10 ^ k)) (sym is)
          (above_0_writes n k small);
      near = omega (arith, ints, few);
      rounded = ap (λ b. nearest b n) none ∙ omega arith;
      same = omega (arith, ints, any, few, none);
    }

-- six digits that are left of more
pub record SixLeft (n : ℕ) : Type 0 where
  pub least : 10 ^ 5 ≤ nearest (digits_behind 6 n) n
  pub most : nearest (digits_behind 6 n) n ≤ 10 ^ 6

pub six_left : (n : ℕ) → 0 < n → n < 2 ^ 128 → 6 < digit_count n → SixLeft n
six_left n positive small more =
    let count = digit_count n in
    let k = digits_behind 6 n in
    let has = has_digits n positive small in
    let six : count - k ≡ 6 = omega (arith, more) in
    let power_least : 10 ^ 5 * 10 ^ k ≡ 10 ^ (count - 1) =
    factors 5 k (count - 1) (omega (arith, more)) in
    record {
      least = le-div (10 ^ 5) (n + 10 ^ k / 2) (10 ^ k) (some k)
          (omega (arith, power_least, has.least));
      most = omega (arith, nearest_most 6 n count has, ap (λ j. 10 ^ j) six);
    }

-- what is left in six digits, or one more
abbrev six : ℕ → ℕ
six n = nearest (digits_behind 6 n) n

-- a number of more than six digits
module _ (n : ℕ) (power : ℤ) (positive : 0 < n) (small : n < 2 ^ 128)
    (more : 6 < digit_count n) where
  left : SixLeft n
  left = six_left n positive small more

  over_first : (q : ℕ) → q + 1 ≡ digits_behind 6 n
      → power_over (pointed 5) power (first_power n power) ≡ negsuc q
  over_first q is = omega (arith, ints, is, more)

  at_first : (q : ℕ) → q + 1 ≡ digits_behind 6 n → (count : ℕ) → digit_count (six n) ≡ count
      → shown_power (pointed 5) n power
      ≡ cond (nat_lt 6 count) (first_power n power +ℤ pos 1) (first_power n power)
  at_first q is count len =
      let some_left : 0 < (six n) = omega (arith, left.least) in
      let same : nearest (q + 1) n ≡ (six n) = ap (λ b. nearest b n) is in
      power_by n power (negsuc q) count (over_first q is)
      (ap (λ m. length (digits_above_0 m 0)) same
      ∙ omega (arith, above_0_len (six n) 0 some_left, len))

  six_kept : (q : ℕ) → q + 1 ≡ digits_behind 6 n → (six n) < 10 ^ 6 → SixShown n power
  six_kept q is below =
      let fits : (six n) < 2 ^ 128 = omega (arith, below) in
      let same : nearest (q + 1) n ≡ (six n) = ap (λ b. nearest b n) is in
      record {
        over = first_power n power;
        is = at_first q is 6 (count_is (six n) 5 fits left.least (omega (arith, below)));
        left = (six n);
        positive = omega (arith, left.least);
        small = fits;
        i = 0;
        j = 0;
        digits = subst (λ p. Writes (nearest_digits n p) ((six n) * 10 ^ 0)) (sym (over_first q is))
            (subst (λ m. Writes (digits_above_0 m 0) ((six n) * 10 ^ 0)) (sym same)
            (above_0_writes (six n) 0 fits));
        near = omega (arith, ints, few_digits n small);
        rounded = omega arith;
        same = omega (arith, ints, more);
      }

  -- a digit more
  five_left : (six n) ≡ 10 ^ 6 → nearest (digits_behind 6 n + 1) n ≡ 10 ^ 5
  five_left all =
      let count = digit_count n in
      let k = digits_behind 6 n in
      let unit = factors k 1 (k + 1) refl in
      let five : count - (count - 5) ≡ 5 = omega (arith, more) in
      let same : count - 5 ≡ k + 1 = omega (arith, more) in
      let known : (six n) * 10 ^ k ≤ n + 10 ^ k / 2 = low (10 ^ k) n in
      let value = ap (λ m. m * 10 ^ k) all in
      let least : 10 ^ 5 ≤ nearest (k + 1) n =
      le-div (10 ^ 5) (n + 10 ^ (k + 1) / 2) (10 ^ (k + 1)) (some (k + 1))
      (omega (arith, known, value, unit)) in
      let most : nearest (k + 1) n ≤ 10 ^ 5 =
      omega (
        arith,
        nearest_most 5 n count (has_digits n positive small),
        ap (λ j. 10 ^ j) five,
        ap (λ b. nearest b n) same,
      ) in
      omega (arith, least, most)

  seven_kept : (q : ℕ) → q + 1 ≡ digits_behind 6 n → (six n) ≡ 10 ^ 6 → SixShown n power
  seven_kept q is all =
      let k = digits_behind 6 n in
      let fits : (six n) < 2 ^ 128 = omega (arith, all) in
      let over = first_power n power +ℤ pos 1 in
      let behind : power_over (pointed 5) power over ≡ negsuc k = omega (arith, ints, more) in
      record {
        over = over;
        is = at_first q is 7 (count_is (six n) 6 fits (omega (arith, all)) (omega (arith, all)));
        left = 10 ^ 5;
        positive = omega arith;
        small = omega arith;
        i = 0;
        j = 1;
        digits = subst (λ p. Writes (nearest_digits n p) (10 ^ 5 * 10 ^ 0)) (sym behind)
            (subst (λ m. Writes (digits_above_0 m 0) (10 ^ 5 * 10 ^ 0)) (sym (five_left all))
            (above_0_writes (10 ^ 5) 0 (omega arith)));
        near = omega (arith, ints, few_digits n small);
        rounded = omega (arith, all);
        same = omega (arith, ints, more);
      }

  many_shown : SixShown n power
  many_shown =
      let q = digits_behind 6 n - 1 in
      let is : q + 1 ≡ digits_behind 6 n = omega (arith, more) in
      elim (cases_lt (six n) (10 ^ 6)) [
        | inl below ↦ six_kept q is below
        | inr past ↦ seven_kept q is (omega (arith, past, left.most))
      ]

pub six_shown : (n : ℕ) (power : ℤ) → 0 < n → n < 2 ^ 128 → SixShown n power
six_shown n power positive small = elim (cases_lt 6 (digit_count n)) [
  | inl more ↦ many_shown n power positive small more
  | inr few ↦ short_shown n power positive small (omega (arith, few))
]
