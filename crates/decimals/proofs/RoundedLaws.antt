-- The laws of rounding to so many significant digits.
use Rattle.std.proofs.Common.{◌≡◌, ℕ, zero, suc, ◌+◌, ◌-◌, ◌*◌, ◌%◌, ◌^◌, ◌<◌, ◌≤◌, ◌==◌, Bool}
use Rattle.std.proofs.Common.{true, false, cond, ◌&&◌, Some, None, ℤ, pos, negsuc, neg_ℤ, ◌+ℤ◌}
use Rattle.std.proofs.Common.{◌-ℤ◌, ◌*ℤ◌, ◌≤ℤ◌, refl, sym, ap, subst, ◌∙◌, arith, inl, inr}
use Rattle.std.specs.Prelude.{nat_abs, FitsSigned}
use Rattle.std.specs.Fmt.{decimal}
use Rattle.std.specs.Int.{is_negative, w128}
use Rattle.std.specs.Str.Parse.{digits_value}
use Rattle.std.proofs.Math.IntN.{pos-*ℤ-pos, negsuc-*ℤ-pos}
use Rattle.std.proofs.Math.Nat.{le_of_mul-le-mul_right, pow-le-pow_right, le-mul_of_pos_right}
use Rattle.std.proofs.lemmas.Bool.{cases_lt}
use Rattle.std.proofs.lemmas.Fmt.{length-decimal-le_wide}
use Rattle.std.proofs.lemmas.Grind.{pow_more}
use Rattle.std.proofs.lemmas.Int.{ints}
use Rattle.decimals.specs.declared.decimal.Decimal.{Decimal}
use Rattle.decimals.specs.Decimal.{number_of}
use Rattle.decimals.specs.Decimals.{with_sign, has_bits, fitting, decimal_from}
use Rattle.decimals.specs.Decimals.{without_trailing_zeros, trailing_zeros, in_one_form}
use Rattle.decimals.specs.Rounding.{digit_count, digits_behind, nearest, rounded_number, IsAtMost}
use Rattle.decimals.specs.Rounding.{IsWithinHalfAUnit}
use Rattle.decimals.proofs.Nearest.{half_above, half_below, in_order, HasDigits, rounded_in}
use Rattle.decimals.proofs.Nearest.{nearest_most, near_up, factors, some, times}
use Rattle.decimals.proofs.OneForm.{value_kept, zeros_gone}
use Rattle.decimals.proofs.Parts.{abs_small}
use Rattle.decimals.proofs.ReadsBack.{decimal_writes}
use Rattle.decimals.proofs.Rounded.{below_its_power, nearest_number, of_digits, not_negative}
use Rattle.decimals.proofs.Rounded.{rounded_itself, form_kept, none_form, size_signed, size_small}

-- the digits of a number above 0
pub has_digits : (n : ℕ) → 0 < n → n < 2 ^ 128 → HasDigits n (digit_count n)
has_digits n positive small = record {
  positive = elim (cases_lt 0 (digit_count n)) [
    | inl any ↦ any
    | inr none ↦ absurd (omega (arith, below_its_power n small, few (digit_count n) none))
  ];
  least = elim (cases_lt n (10 ^ (digit_count n - 1))) [
    | inl below ↦ absurd (too_short (digit_count n - 1) n small positive below refl)
    | inr above ↦ above
  ];
  below = below_its_power n small;
}
  where
    few : (k : ℕ) → k ≤ 0 → 10 ^ k ≤ 1
    few zero within = omega arith
    few (suc k) within = absurd (omega arith)

    too_short : (k n : ℕ) → n < 2 ^ 128 → 0 < n → n < 10 ^ k → k ≡ digit_count n - 1 → ⊥
    too_short zero n small positive below is = omega (arith, below)
    too_short (suc k) n small positive below is =
        omega (arith, length-decimal-le_wide (suc k) n (omega arith) below (omega arith), is)

pub nearest_zero : (places : ℕ) → nearest places 0 ≡ 0
nearest_zero places =
    let none : nearest places 0 ≤ 0 = near_up (10 ^ places) 0 0 (some places) (omega arith) in
    omega (arith, none)

nat_order : (digits m n s t : ℕ) → 0 < digits → m < 2 ^ 128 → n < 2 ^ 128 →
    m * 10 ^ s ≤ n * 10 ^ t →
    rounded_in digits m (digit_count m) s ≤ rounded_in digits n (digit_count n) t
nat_order digits zero n s t any small other within =
    let none = nearest_zero (digit_count 0 - digits) in
    omega (arith, ap (λ k. k * 10 ^ (digit_count 0 - digits + s)) none)
nat_order digits (suc m) zero s t any small other within =
    absurd (omega (arith, within, times (10 ^ s) (let h : 1 ≤ suc m = omega arith in h), some s))
nat_order digits (suc m) (suc n) s t any small other within =
    in_order digits (suc m) (suc n) s t (digit_count (suc m)) (digit_count (suc n)) any
    (has_digits (suc m) (omega arith) small) (has_digits (suc n) (omega arith) other) within

-- a number with its sign, times a number
pub times_signed : (negative : Bool) (n k : ℕ) →
    (with_sign negative n *ℤ pos k) ≡ with_sign negative (n * k)
times_signed true zero k = pos-*ℤ-pos 0 k ∙ none (0 * k) (omega arith)
  where
    none : (j : ℕ) → j ≡ 0 → pos j ≡ neg_ℤ (pos j)
    none zero is = refl
    none (suc j) is = absurd (omega arith)
times_signed true (suc n) k = negsuc-*ℤ-pos n k
times_signed false n k = pos-*ℤ-pos n k

-- what holds of sizes holds of numbers with their signs
by_signs : (negative other : Bool) (x y p q : ℕ) → with_sign negative x ≤ℤ with_sign other y →
    (x ≤ y → p ≤ q) → (y ≤ x → q ≤ p) → (x ≡ 0 → p ≡ 0) → (y ≡ 0 → q ≡ 0) →
    with_sign negative p ≤ℤ with_sign other q
by_signs true true x y p q within up down none other_none = omega (arith, ints)
by_signs true false x y p q within up down none other_none = omega (arith, ints)
by_signs false true x y p q within up down none other_none = omega (arith, ints)
by_signs false false x y p q within up down none other_none = omega (arith, ints)

pub itself_signed : (m : ℤ) (k : ℕ) → m *ℤ pos k ≡ with_sign (is_negative m) (nat_abs m * k)
itself_signed (pos n) k = pos-*ℤ-pos n k ∙ ap (λ s. with_sign s (n * k)) (sym (not_negative n))
itself_signed (negsuc n) k = negsuc-*ℤ-pos n k

none_of : (n k : ℕ) → n * 10 ^ k ≡ 0 → n ≡ 0
none_of zero k is = refl
none_of (suc n) k is =
    absurd (omega (arith, times (10 ^ k) (let h : 1 ≤ suc n = omega arith in h), some k))

-- over a common power, and what both are told in is left out again
common : (x y p q s t : ℕ) → x * 10 ^ (p + (s + q)) ≤ y * 10 ^ (q + (t + p)) →
    x * 10 ^ s ≤ y * 10 ^ t
common x y p q s t within =
    let left = factors s (p + q) (p + (s + q)) (omega arith) in
    let right = factors t (p + q) (q + (t + p)) (omega arith) in
    let scaled : x * 10 ^ s * 10 ^ (p + q) ≤ y * 10 ^ t * 10 ^ (p + q) =
    omega (arith, within, ap (λ k. x * k) left, ap (λ k. y * k) right) in
    le_of_mul-le-mul_right scaled (some (p + q))

zero_kept : (digits n s k : ℕ) → n * 10 ^ s ≡ 0 → nearest (digits_behind digits n) n * 10 ^ k ≡ 0
zero_kept digits n s k is =
    let none : n ≡ 0 = none_of n s is in
    let zero_is : nearest (digits_behind digits n) n ≡ 0 =
    ap (λ j. nearest (digits_behind digits n) j) none ∙ nearest_zero (digits_behind digits n) in
    omega (arith, ap (λ j. j * 10 ^ k) zero_is)

ordered : (digits : ℕ) (a b : ℤ × ℤ) → 0 < digits → nat_abs a.0 < 2 ^ 128 → nat_abs b.0 < 2 ^ 128 →
    IsAtMost a b →
    IsAtMost (nearest_number (digits_behind digits (nat_abs a.0)) a)
    (nearest_number (digits_behind digits (nat_abs b.0)) b)
ordered digits a b any small other at_most = λ s t same.
    let m = nat_abs a.0 in
    let n = nat_abs b.0 in
    let p = digits_behind digits m in
    let q = digits_behind digits n in
    let powers : (a.1 -ℤ pos (s + q)) ≡ (b.1 -ℤ pos (t + p)) = omega (arith, ints, same) in
    let known = at_most (s + q) (t + p) powers in
    let sizes : with_sign (is_negative a.0) (m * 10 ^ (s + q))
    ≤ℤ with_sign (is_negative b.0) (n * 10 ^ (t + p)) =
    subst (λ (z : ℤ). z ≤ℤ with_sign (is_negative b.0) (n * 10 ^ (t + p)))
    (itself_signed a.0 (10 ^ (s + q)))
    (subst (λ (z : ℤ). (a.0 *ℤ pos (10 ^ (s + q))) ≤ℤ z) (itself_signed b.0 (10 ^ (t + p)))
    known) in
    let signed =
    by_signs (is_negative a.0) (is_negative b.0) (m * 10 ^ (s + q)) (n * 10 ^ (t + p))
    (nearest p m * 10 ^ s) (nearest q n * 10 ^ t) sizes
    (λ up. common (nearest p m) (nearest q n) p q s t
    (nat_order digits m n (s + q) (t + p) any small other up))
    (λ down. common (nearest q n) (nearest p m) q p t s
    (nat_order digits n m (t + p) (s + q) any other small down))
    (zero_kept digits m (s + q) s) (zero_kept digits n (t + p) t) in
    subst (λ (z : ℤ). z ≤ℤ (with_sign (is_negative b.0) (nearest q n) *ℤ pos (10 ^ t)))
    (sym (times_signed (is_negative a.0) (nearest p m) (10 ^ s)))
    (subst (λ (z : ℤ). with_sign (is_negative a.0) (nearest p m * 10 ^ s) ≤ℤ z)
    (sym (times_signed (is_negative b.0) (nearest q n) (10 ^ t))) signed)

pub of_none : (n : ℤ × ℤ) → rounded_number 0 n ≡ (pos 0, pos 0)
unfolding rounded_number
of_none n = refl

none_ordered : IsAtMost (pos 0, pos 0) (pos 0, pos 0)
none_ordered s t same =
    omega (arith, ints, pos-*ℤ-pos 0 (10 ^ s), pos-*ℤ-pos 0 (10 ^ t))

both_in_order : (digits : ℕ) (a b : ℤ × ℤ) → nat_abs a.0 < 2 ^ 128 → nat_abs b.0 < 2 ^ 128 →
    IsAtMost a b → IsAtMost (rounded_number digits a) (rounded_number digits b)
both_in_order zero a b small other at_most =
    subst (λ (z : ℤ × ℤ). IsAtMost z (rounded_number 0 b)) (sym (of_none a))
    (subst (λ (z : ℤ × ℤ). IsAtMost (pos 0, pos 0) z) (sym (of_none b)) none_ordered)
both_in_order (suc d) a b small other at_most =
    let any : suc d ≡ 0 → ⊥ = λ none. omega (arith, none) in
    subst (λ (z : ℤ × ℤ). IsAtMost z (rounded_number (suc d) b)) (sym (of_digits (suc d) a any))
    (subst (λ (z : ℤ × ℤ). IsAtMost (nearest_number (digits_behind (suc d) (nat_abs a.0)) a) z)
    (sym (of_digits (suc d) b any))
    (ordered (suc d) a b (omega arith) small other at_most))

pub rounded_in_order : (one other : Decimal) (digits : ℕ) → FitsSigned w128 one.mantissa →
    FitsSigned w128 other.mantissa → IsAtMost (number_of one) (number_of other) →
    IsAtMost (rounded_number digits (number_of one)) (rounded_number digits (number_of other))
rounded_in_order one other digits fits other_fits at_most =
    both_in_order digits (number_of one) (number_of other) (abs_small one.mantissa fits)
    (abs_small other.mantissa other_fits) at_most

-- the difference of a number and what it is rounded to
size_of_difference : (a b u : ℕ) → (a - b) * 2 ≤ u → (b - a) * 2 ≤ u →
    nat_abs (pos a -ℤ pos b) * 2 ≤ u
size_of_difference a b u above below = omega (arith, ints)

size_of_other : (a b u : ℕ) → (a - b) * 2 ≤ u → (b - a) * 2 ≤ u →
    nat_abs (neg_ℤ (pos a) -ℤ neg_ℤ (pos b)) * 2 ≤ u
size_of_other a b u above below = omega (arith, ints)

near_signed : (m : ℤ) (places : ℕ) →
    nat_abs
    (m -ℤ with_sign (is_negative m) (nearest places (nat_abs m)) *ℤ pos (10 ^ places)) * 2
    ≤ 10 ^ places
near_signed (pos n) places =
    let product : with_sign (is_negative (pos n)) (nearest places n) *ℤ pos (10 ^ places)
    ≡ pos (nearest places n * 10 ^ places) =
    ap (λ s. with_sign s (nearest places n) *ℤ pos (10 ^ places)) (not_negative n)
    ∙ pos-*ℤ-pos (nearest places n) (10 ^ places) in
    subst (λ (z : ℤ). nat_abs (pos n -ℤ z) * 2 ≤ 10 ^ places) (sym product)
    (size_of_difference n (nearest places n * 10 ^ places) (10 ^ places)
    (half_below places n) (half_above places n))
near_signed (negsuc n) places =
    subst (λ (z : ℤ). nat_abs (negsuc n -ℤ z) * 2 ≤ 10 ^ places)
    (sym (times_signed true (nearest places (suc n)) (10 ^ places)))
    (size_of_other (suc n) (nearest places (suc n) * 10 ^ places) (10 ^ places)
    (half_below places (suc n)) (half_above places (suc n)))

pub rounded_near : (number : Decimal) (digits : ℕ) → 0 < digits →
    IsWithinHalfAUnit digits (number_of number)
rounded_near number digits any =
    let is = of_digits digits (number_of number) (λ none. omega (arith, none)) in
    let places = digits_behind digits (nat_abs number.mantissa) in
    subst (λ (z : ℤ × ℤ). nat_abs (number.mantissa -ℤ z.0 *ℤ pos (10 ^ places)) * 2 ≤ 10 ^ places)
    (sym is) (near_signed number.mantissa places)

-- what fits is the number
record Fitted (number other : ℤ × ℤ) : Type 0 where
  same : number ≡ other
  fits : has_bits 127 other.0 ≡ true
  power_fits : has_bits 31 other.1 ≡ true

fitted_from : (test power_test : Bool) (number other : ℤ × ℤ) →
    has_bits 127 number.0 ≡ test → has_bits 31 number.1 ≡ power_test →
    cond (test && power_test) (Some number) None ≡ Some other → Fitted number other
fitted_from true true number other fits power_fits is =
    let same : number ≡ other = cc in
    record {
      same = same;
      fits = subst (λ (n : ℤ × ℤ). has_bits 127 n.0 ≡ true) same fits;
      power_fits = subst (λ (n : ℤ × ℤ). has_bits 31 n.1 ≡ true) same power_fits;
    }
fitted_from true false number other fits power_fits is = absurd (cc)
fitted_from false power_test number other fits power_fits is = absurd (cc)

fitted : (number other : ℤ × ℤ) → fitting number ≡ Some other → Fitted number other
fitted number other is =
    fitted_from (has_bits 127 number.0) (has_bits 31 number.1) number other refl refl is

-- a decimal with so few digits is rounded to itself
few_kept : (once : Decimal) (digits : ℕ) → 0 < digits → nat_abs once.mantissa < 10 ^ digits →
    has_bits 127 once.mantissa ≡ true → has_bits 31 once.exponent ≡ true →
    decimal_from (rounded_number digits (number_of once)) ≡ Some (number_of once)
few_kept once digits any few fits power_fits =
    let small : nat_abs once.mantissa < 2 ^ 128 = size_small once.mantissa fits in
    let short =
    length-decimal-le_wide digits (nat_abs once.mantissa) any few (omega (arith, small)) in
    let none : digits_behind digits (nat_abs once.mantissa) ≡ 0 = omega (arith, short) in
    ap decimal_from
    (rounded_itself digits once.mantissa once.exponent (λ zero_is. omega (arith, zero_is, any))
    none)
    ∙ sym (form_kept once fits power_fits)

-- the whole number of a rounded number, in its one form
form_few : (digits r n places : ℕ) → 0 < digits → r ≤ 10 ^ digits → n * 10 ^ places ≡ r →
    (n % 10 ≡ 0 → r ≡ 0) → n < 10 ^ digits
form_few digits r n places any most value trimmed = elim (cases_lt n (10 ^ digits)) [
  | inl below ↦ below
  | inr above ↦
      let grown : n ≤ n * 10 ^ places = le-mul_of_pos_right n (some places) in
      let power : 10 ^ (digits - 1 + 1) ≡ 10 ^ (digits - 1) * 10 = pow_more 10 (digits - 1) in
      let same : digits - 1 + 1 ≡ digits = omega (arith, any) in
      let tens = ap (λ k. 10 ^ k) same in
      let whole : n ≡ 10 ^ (digits - 1) * 10 =
      omega (arith, above, grown, value, most, power, tens) in
      let none : r ≡ 0 = trimmed (omega (arith, whole)) in
      absurd (omega (arith, none, grown, value, above, some digits))
]

size_of_either : (digits : ℕ) (test negative : Bool) (n : ℕ) (power : ℤ) → n < 10 ^ digits →
    nat_abs (cond {A = ℤ × ℤ} test (pos 0, pos 0) (with_sign negative n, power)).0 < 10 ^ digits
size_of_either digits true negative n power below = omega (arith, some digits)
size_of_either digits false negative n power below = omega (arith, size_signed negative n, below)

size_of_form : (digits : ℕ) (x : ℤ × ℤ) → 0 < digits → nat_abs x.0 < 2 ^ 128 →
    nat_abs x.0 ≤ 10 ^ digits → nat_abs (in_one_form x).0 < 10 ^ digits
size_of_form digits x any small most =
    let ds = decimal (nat_abs x.0) in
    let writes = decimal_writes (nat_abs x.0) small in
    let few =
    form_few digits (nat_abs x.0) (digits_value 10 (without_trailing_zeros ds)) (trailing_zeros ds)
    any most (value_kept ds writes.all ∙ writes.value)
    (λ ends. sym writes.value ∙ zeros_gone ds writes.all ends) in
    size_of_either digits (digits_value 10 ds == 0) (is_negative x.0)
    (digits_value 10 (without_trailing_zeros ds)) (x.1 +ℤ pos (trailing_zeros ds)) few

-- no number is rounded past ten to the digits
rounded_most : (digits n : ℕ) → n < 2 ^ 128 → nearest (digits_behind digits n) n ≤ 10 ^ digits
rounded_most digits zero small =
    omega (arith, nearest_zero (digits_behind digits 0), some digits)
rounded_most digits (suc n) small =
    let count = digit_count (suc n) in
    let most = nearest_most digits (suc n) count (has_digits (suc n) (omega arith) small) in
    let within : count - (count - digits) ≤ digits = omega arith in
    let powers : 10 ^ (count - (count - digits)) ≤ 10 ^ digits =
    pow-le-pow_right (omega arith) within in
    omega (arith, most, powers)

rounded_small : (digits n : ℕ) → n < 2 ^ 128 → nearest (digits_behind digits n) n < 2 ^ 128
rounded_small digits n small =
    let unit = some (digits_behind digits n) in
    let most : nearest (digits_behind digits n) n ≤ n =
    near_up (10 ^ digits_behind digits n) n n unit (le-mul_of_pos_right n unit) in
    omega (arith, most, small)

formed : (number : ℤ × ℤ) (once : ℤ × ℤ) → decimal_from number ≡ Some once →
    Fitted (in_one_form number) once
unfolding decimal_from
formed number once is = fitted (in_one_form number) once is

-- a number that is rounded, with the digits that are left
record Rounds (digits : ℕ) (once : Decimal) : Type 0 where
  few : nat_abs once.mantissa < 10 ^ digits
  fits : has_bits 127 once.mantissa ≡ true
  power_fits : has_bits 31 once.exponent ≡ true

rounds : (number : Decimal) (digits : ℕ) → 0 < digits → FitsSigned w128 number.mantissa →
    (once : Decimal) →
    decimal_from (rounded_number digits (number_of number)) ≡ Some (number_of once) →
    Rounds digits once
rounds number digits any fits once is =
    let m = number.mantissa in
    let x = nearest_number (digits_behind digits (nat_abs m)) (number_of number) in
    let from : decimal_from x ≡ Some (number_of once) =
    ap decimal_from (sym (of_digits digits (number_of number) (λ none. omega (arith, none))))
    ∙ is in
    let form = formed x (number_of once) from in
    let size =
    size_signed (is_negative m) (nearest (digits_behind digits (nat_abs m)) (nat_abs m)) in
    let most = rounded_most digits (nat_abs m) (abs_small m fits) in
    let small = rounded_small digits (nat_abs m) (abs_small m fits) in
    let below =
    size_of_form digits x any (omega (arith, size, small)) (omega (arith, size, most)) in
    record {
      few = subst (λ (z : ℤ × ℤ). nat_abs z.0 < 10 ^ digits) form.same below;
      fits = form.fits;
      power_fits = form.power_fits;
    }

zero_form : (once : ℤ × ℤ) → decimal_from (pos 0, pos 0) ≡ Some once → nat_abs once.0 < 10 ^ 0
zero_form once is =
    let same : Some once ≡ Some (pos 0, pos 0) = sym is ∙ none_form in
    let zero_is : once ≡ (pos 0, pos 0) = cc in
    subst (λ (z : ℤ × ℤ). nat_abs z.0 < 10 ^ 0) (sym zero_is) (omega arith)

pub rounded_few : (number : Decimal) (digits : ℕ) → FitsSigned w128 number.mantissa →
    (once : Decimal) →
    decimal_from (rounded_number digits (number_of number)) ≡ Some (number_of once) →
    nat_abs once.mantissa < 10 ^ digits
rounded_few number zero fits once is =
    zero_form (number_of once) (ap decimal_from (sym (of_none (number_of number))) ∙ is)
rounded_few number (suc d) fits once is = (rounds number (suc d) (omega arith) fits once is).few

pub rounded_once : (number : Decimal) (digits : ℕ) → FitsSigned w128 number.mantissa →
    (once : Decimal) →
    decimal_from (rounded_number digits (number_of number)) ≡ Some (number_of once) →
    decimal_from (rounded_number digits (number_of once)) ≡ Some (number_of once)
rounded_once number zero fits once is =
    ap decimal_from (of_none (number_of once) ∙ sym (of_none (number_of number))) ∙ is
rounded_once number (suc d) fits once is =
    let known = rounds number (suc d) (omega arith) fits once is in
    few_kept once (suc d) (omega arith) known.few known.fits known.power_fits
