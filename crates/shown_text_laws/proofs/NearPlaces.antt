-- The number that is read of a text with places behind the point, and how near it is.
use Rattle.std.proofs.Common.{◌≡◌, ◌∙◌, ◌+◌, ◌*◌, ◌%◌, ◌^◌, ◌<◌, ◌≤◌, ◌==◌, ℕ, zero, suc, ℤ, pos}
use Rattle.std.proofs.Common.{negsuc, neg_ℤ, ◌+ℤ◌, ◌-ℤ◌, ◌*ℤ◌, Bool, true, false, List, [], Some}
use Rattle.std.proofs.Common.{refl, ap, sym, subst, arith, inl, inr}
use Rattle.std.specs.Prelude.{nat_abs}
use Rattle.std.specs.Fmt.{decimal}
use Rattle.std.specs.Int.{is_negative}
use Rattle.std.specs.Str.Parse.{digits_value}
use Rattle.std.proofs.lemmas.Bool.{cases_lt}
use Rattle.std.proofs.lemmas.Bool.Decides.{nat_tests}
use Rattle.std.proofs.lemmas.Int.{ints}
use Rattle.std.proofs.lemmas.List.Sums.{suffix_len-le-length}
use Rattle.decimals.specs.Words.{fitting, has_bits, number_of_digits, with_sign, digits_behind}
use Rattle.decimals.specs.Words.{nearest, digits_added}
use Rattle.decimals.specs.Rounding.{rounded_number}
use Rattle.decimals.specs.declared.significand.Significand.{Significand}
use Rattle.decimals.proofs.Nearest.{factors, half_above, half_below, near_up, some, times}
use Rattle.decimals.proofs.ReadsBack.{Writes, decimal_writes, it_fits, number_form}
use Rattle.decimals.proofs.Rounded.{few_digits, size_signed}
use Rattle.decimals.proofs.RoundedLaws.{times_signed}
use Rattle.decimals.proofs.Significands.{Keeps, keeps_added, keeps_none}
use Rattle.excel_dates.proofs.SerialSteps.{by_true}
use Rattle.shown_text.proofs.SizeSteps.{few_kept, size_is}
use Rattle.shown_text.specs.Words.{shown_digits}
use Rattle.shown_text_laws.specs.ReadNumbers.{IsWithinHalfAPlace}

-- a number above 0 without the zeros at its end
pub record Cut (n : ℕ) : Type 0 where
  pub left : ℕ
  pub zeros : ℕ
  pub same : left * 10 ^ zeros ≡ n
  pub last : left % 10 ≡ 0 → ⊥
  pub few : zeros ≤ 39

pub cut : (n : ℕ) → 0 < n → n < 2 ^ 128 → Cut n
cut n positive small =
    let nothing : Significand = record { number = 0; zeros = 0; count = 0 } in
    let s = digits_added nothing (decimal n) in
    let writes = decimal_writes n small in
    let keeps : Keeps s (decimal n) = keeps_added nothing [] (decimal n) writes.all keeps_none in
    let same : s.number * 10 ^ s.zeros ≡ n = keeps.value ∙ writes.value in
    record {
      left = s.number;
      zeros = s.zeros;
      same = same;
      last = λ ends.
          let none : s.number ≡ 0 = keeps.trimmed ends in
          omega (arith, positive, same, ap (λ k. k * 10 ^ s.zeros) none);
      few = omega (
        arith,
        keeps.zeros,
        suffix_len-le-length (λ b. b == 48) (decimal n),
        few_digits n small,
      );
    }

-- digits over ten to so many places are read as a number, which is n times ten to `zeros` of these
pub record IsRead (negative : Bool) (digits : List ℕ) (places v : ℕ) : Type 0 where
  pub written : ℤ × ℤ
  pub is : fitting (number_of_digits negative digits (pos 0 -ℤ pos places)) ≡ Some written
  pub same : (s u : ℕ) → (written.1 -ℤ pos s) ≡ (neg_ℤ (pos places) -ℤ pos u)
      → written.0 *ℤ pos (10 ^ s) ≡ with_sign negative (v * 10 ^ u)

no_sign : (negative : Bool) (n : ℕ) → n ≡ 0 → pos 0 ≡ with_sign negative n
no_sign true n none = omega (arith, ints, none)
no_sign false n none = omega (arith, ints, none)

bits_fit : (negative : Bool) (n : ℕ) → n ≤ 10 ^ 15 → has_bits 127 (with_sign negative n) ≡ true
bits_fit true zero few = refl
bits_fit true (suc n) few = grind (arith, nat_tests)
bits_fit false n few = grind (arith, nat_tests)

power_fits : (places ends : ℕ) → places ≤ 2000 → ends ≤ 2000
    → has_bits 31 ((pos 0 -ℤ pos places) +ℤ pos ends) ≡ true
power_fits places ends few few_ends = fits_by _ _ _ refl few few_ends
  where
    fits_by : (power : ℤ) (places ends : ℕ) → ((pos 0 -ℤ pos places) +ℤ pos ends) ≡ power
        → places ≤ 2000 → ends ≤ 2000 → has_bits 31 power ≡ true
    fits_by (pos n) places ends is few few_ends =
        let small : n < 2 ^ 31 = omega (arith, ints, is) in grind (arith, nat_tests, small)
    fits_by (negsuc n) places ends is few few_ends =
        let small : n < 2 ^ 31 = omega (arith, ints, is) in grind (arith, nat_tests, small)

read_none : (negative : Bool) (digits : List ℕ) (places v : ℕ) → Writes digits v → v ≡ 0
    → IsRead negative digits places v
read_none negative digits places v writes none =
    let test : (digits_value 10 digits == 0) ≡ true =
    ap (λ n. n == 0) (writes.value ∙ none) in
    record {
      written = (pos 0, pos 0);
      is = ap fitting (by_true (digits_value 10 digits == 0) _ _ test);
      same = λ s u is.
          times_signed false 0 (10 ^ s)
          ∙ (let zeros : 0 * 10 ^ s ≡ 0 = omega arith in
          let others : v * 10 ^ u ≡ 0 = omega (arith, ap (λ n. n * 10 ^ u) none) in
          ap pos zeros ∙ no_sign negative (v * 10 ^ u) others);
    }

least_below : (m k n : ℕ) → m * 10 ^ k ≡ n → 0 < 10 ^ k → m ≤ n
least_below m k n same positive =
    omega (arith, same, times m (let h : 1 ≤ 10 ^ k = omega arith in h))

read_some : (negative : Bool) (digits : List ℕ) (places n zeros : ℕ) → 0 < n → n ≤ 10 ^ 15
    → places ≤ 2000 → zeros ≤ 1900 → Writes digits (n * 10 ^ zeros)
    → IsRead negative digits places (n * 10 ^ zeros)
read_some negative digits places n zeros positive few few_places few_zeros writes =
    let c = cut n positive (omega (arith, few)) in
    let all = c.zeros + zeros in
    let more : c.left * 10 ^ all ≡ n * 10 ^ zeros =
    omega (
      arith,
      ap (λ k. c.left * k) (factors c.zeros zeros all refl),
      ap (λ k. k * 10 ^ zeros) c.same,
    ) in
    let left_few : c.left ≤ 10 ^ 15 =
    omega (arith, few, least_below c.left c.zeros n c.same (some c.zeros)) in
    let form = number_form negative digits c.left all (pos 0 -ℤ pos places)
    (subst (Writes digits) (sym more) writes) c.last in
    record {
      written = (with_sign negative c.left, (pos 0 -ℤ pos places) +ℤ pos all);
      is = ap fitting form
          ∙ it_fits (with_sign negative c.left, (pos 0 -ℤ pos places) +ℤ pos all)
          (bits_fit negative c.left left_few)
          (power_fits places all few_places (omega (arith, c.few, few_zeros)));
      same = λ s u is.
          let power : s ≡ all + u = omega (arith, ints, is) in
          let total : c.left * 10 ^ s ≡ n * 10 ^ zeros * 10 ^ u =
          omega (
            arith,
            ap (λ k. c.left * k) (factors all u s (sym power)),
            ap (λ k. k * 10 ^ u) more,
          ) in
          times_signed negative c.left (10 ^ s) ∙ ap (with_sign negative) total;
    }

pub is_read : (negative : Bool) (digits : List ℕ) (places n zeros : ℕ) → n ≤ 10 ^ 15
    → places ≤ 2000 → zeros ≤ 1900 → Writes digits (n * 10 ^ zeros)
    → IsRead negative digits places (n * 10 ^ zeros)
is_read negative digits places n zeros few few_places few_zeros writes = elim (cases_lt 0 n) [
  | inl positive ↦
      read_some negative digits places n zeros positive few few_places few_zeros writes
  | inr none ↦
      let itself : n ≡ 0 = omega (arith, none) in
      read_none negative digits places (n * 10 ^ zeros) writes
      (omega (arith, ap (λ k. k * 10 ^ zeros) itself))
]

-- two numbers of one sign differ as their sizes do
by_sizes : (negative : Bool) (a b c : ℕ) → a * 2 ≤ b * 2 + c → b * 2 ≤ a * 2 + c
    → nat_abs (with_sign negative a -ℤ with_sign negative b) * 2 ≤ c
by_sizes true a b c above below = omega (arith, ints)
by_sizes false a b c above below = omega (arith, ints)

-- what is rounded is no greater
pub nearest_within : (k n : ℕ) → nearest k n ≤ n
nearest_within k n =
    near_up (10 ^ k) n n (some k)
    (omega (arith, times n (let h : 1 ≤ 10 ^ k = omega (arith, some k) in h)))

-- fifteen digits have the sign of their number
pub signed_size : (exact : ℤ × ℤ)
    → (shown_digits exact).0
    ≡ with_sign (is_negative exact.0) (nat_abs (shown_digits exact).0)
unfolding rounded_number
signed_size exact =
    ap (with_sign (is_negative exact.0)) (sym (size_signed (is_negative exact.0)
    (nearest (digits_behind 15 (nat_abs exact.0)) (nat_abs exact.0))))

-- and they are fifteen at most, or ten to the power 15
pub at_most_fifteen : (exact : ℤ × ℤ) → nat_abs exact.0 < 2 ^ 128
    → nat_abs (shown_digits exact).0 ≤ 10 ^ 15
at_most_fifteen exact small =
    let count = digits_behind 15 (nat_abs exact.0) in
    let kept = few_kept (nat_abs exact.0) count small refl in
    omega (arith, kept, size_is exact.0 exact.1 count refl)

-- what is read of the nearest number of so many places is near to the number
module _ (negative : Bool) (n places : ℕ) (power : ℤ) where
  pub at_places : (digits : List ℕ) (v k : ℕ) (read : IsRead negative digits places v)
      → (power +ℤ pos places) ≡ pos k → v ≡ n * 10 ^ k
      → IsWithinHalfAPlace places read.written (with_sign negative n, power)
  at_places digits v k read told is = λ s t u first second.
      let moved : t ≡ k + u = omega (arith, ints, told, second) in
      let same : n * 10 ^ t ≡ v * 10 ^ u =
      omega (
        arith,
        ap (λ j. n * j) (factors k u t (sym moved)),
        ap (λ j. j * 10 ^ u) is,
      ) in
      subst (λ (z : ℤ). nat_abs (z -ℤ (with_sign negative n *ℤ pos (10 ^ t))) * 2 ≤ 10 ^ u)
      (sym (read.same s u first))
      (subst (λ (z : ℤ). nat_abs (with_sign negative (v * 10 ^ u) -ℤ z) * 2 ≤ 10 ^ u)
      (sym (times_signed negative n (10 ^ t)))
      (by_sizes negative (v * 10 ^ u) (n * 10 ^ t) (10 ^ u) (omega (arith, same))
      (omega (arith, same))))

  pub over_places : (digits : List ℕ) (v k : ℕ) (read : IsRead negative digits places v)
      → (power +ℤ pos places) ≡ negsuc k → v ≡ nearest (k + 1) n
      → IsWithinHalfAPlace places read.written (with_sign negative n, power)
  over_places digits v k read told is = λ s t u first second.
      let moved : u ≡ (k + 1) + t = omega (arith, ints, told, second) in
      let unit = factors (k + 1) t u (sym moved) in
      let kept = ap (λ j. j * 10 ^ (k + 1)) is in
      let above : v * 10 ^ (k + 1) * 2 ≤ n * 2 + 10 ^ (k + 1) =
      omega (arith, half_above (k + 1) n, kept) in
      let below : n * 2 ≤ v * 10 ^ (k + 1) * 2 + 10 ^ (k + 1) =
      omega (arith, half_below (k + 1) n, kept) in
      let value : v * 10 ^ u ≡ v * 10 ^ (k + 1) * 10 ^ t =
      omega (arith, ap (λ j. v * j) unit) in
      let more : v * 10 ^ u * 2 ≤ n * 10 ^ t * 2 + 10 ^ u =
      omega (arith, times (10 ^ t) above, unit, value) in
      let less : n * 10 ^ t * 2 ≤ v * 10 ^ u * 2 + 10 ^ u =
      omega (arith, times (10 ^ t) below, unit, value) in
      subst (λ (z : ℤ). nat_abs (z -ℤ (with_sign negative n *ℤ pos (10 ^ t))) * 2 ≤ 10 ^ u)
      (sym (read.same s u first))
      (subst (λ (z : ℤ). nat_abs (with_sign negative (v * 10 ^ u) -ℤ z) * 2 ≤ 10 ^ u)
      (sym (times_signed negative n (10 ^ t)))
      (by_sizes negative (v * 10 ^ u) (n * 10 ^ t) (10 ^ u) more less))
