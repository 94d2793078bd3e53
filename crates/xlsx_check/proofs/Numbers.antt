-- Whole numbers that fit 128 bits, and what numbers come to.
use Rattle.std.proofs.Common.{◌≡◌, ℕ, zero, suc, ◌*◌, ◌^◌, ◌<◌, ◌≤◌, Bool, true, false, cond, ◌&&◌}
use Rattle.std.proofs.Common.{Some, None, Option, ℤ, pos, negsuc, ◌+ℤ◌, ◌-ℤ◌, ◌*ℤ◌, ◌<ℤ◌, neg_ℤ}
use Rattle.std.proofs.Common.{nat_abs, refl, sym, ap, ◌∙◌, subst, arith, lit<, inl, inr, ◌⊎◌}
use Rattle.std.specs.Prelude.{FitsSigned, SomeIff, int_lt}
use Rattle.std.specs.Cmp.{int_cmp_is, int_ranks}
use Rattle.std.specs.Int.{w128}
use Rattle.std.specs.Ordering.{int_cmp, MatchOrdering, ordering_reverse}
use Rattle.std.proofs.lemmas.Cmp.{int_cmp_total}
use Rattle.std.specs.declared.cmp.Ordering.{Ordering}
use Rattle.std.specs.declared.cmp.Ordering.TheVariants.{Less, Equal, Greater}
use Rattle.std.proofs.Math.IntN.{pos-*ℤ-pos, negsuc-*ℤ-pos}
use Rattle.std.proofs.Math.Nat.{pow-le-pow_right, one-le-pow}
use Rattle.std.proofs.lemmas.Bool.{cases_lt}
use Rattle.std.proofs.lemmas.Bool.Decides.{nat_tests}
use Rattle.std.proofs.lemmas.Int.{ints}
use Rattle.decimals.specs.Words.{has_bits, decimal_from}
use Rattle.xlsx_check.specs.Evaluation.{Denoted, a_number, number_past, number_or_past, if_fits}
use Rattle.xlsx_check.specs.Evaluation.{from_whole, is_zero, lower, taken_to, if_both_fit, sum_at}
use Rattle.xlsx_check.specs.Evaluation.{sum_of, difference_at, difference_of, negative_of, gap}

pub fits_bits : (z : ℤ) → FitsSigned w128 z → has_bits 127 z ≡ true
fits_bits (pos n) fits = grind (arith, nat_tests, fits.sfits)
fits_bits (negsuc n) fits = grind (arith, nat_tests, fits.sfits)

bits_fit : (z : ℤ) → has_bits 127 z ≡ true → FitsSigned w128 z
bits_fit (pos n) has = record { sfits = grind (arith, nat_tests, has) }
bits_fit (negsuc n) has = record { sfits = grind (arith, nat_tests, has) }

past_bits : (z : ℤ) → (FitsSigned w128 z → ⊥) → has_bits 127 z ≡ false
past_bits z past = by (has_bits 127 z) refl
  where
    by : (t : Bool) → has_bits 127 z ≡ t → t ≡ false
    by true has = absurd (past (bits_fit z has))
    by false has = refl

if_whole_fits : (o : Option ℤ) (whole power : ℤ) →
    SomeIff o (FitsSigned w128 whole) whole → from_whole o power ≡ if_fits whole (whole, power)
if_whole_fits None whole power past =
    sym (ap (λ (t : Bool). cond t (number_or_past (decimal_from (whole, power))) number_past)
    (past_bits whole past))
if_whole_fits (Some z) whole power fits =
    ap (λ (y : ℤ). number_or_past (decimal_from (y, power))) fits.1
    ∙ sym (ap (λ (t : Bool). cond t (number_or_past (decimal_from (whole, power))) number_past)
    (fits_bits whole fits.0))

pub whole_fits : (o : Option ℤ) (whole power : ℤ) (r : Denoted) →
    SomeIff o (FitsSigned w128 whole) whole → r ≡ from_whole o power →
    r ≡ if_fits whole (whole, power)
whole_fits o whole power r fits is = is ∙ if_whole_fits o whole power fits

pub both_fit : (o : Option ℤ) (power a b whole : ℤ) (r : Denoted) → FitsSigned w128 a →
    FitsSigned w128 b → SomeIff o (FitsSigned w128 whole) whole → r ≡ from_whole o power →
    r ≡ if_both_fit power a b whole
both_fit o power a b whole r first second fits is =
    whole_fits o whole power r fits is
    ∙ sym (ap (λ (t : Bool). cond (t && has_bits 127 b) (if_fits whole (whole, power)) number_past)
    (fits_bits a first)
    ∙ ap (λ (t : Bool). cond t (if_fits whole (whole, power)) number_past) (fits_bits b second))

pub sum_fits : (o : Option ℤ) (power a b x y : ℤ) (r : Denoted) → x ≡ a → y ≡ b →
    FitsSigned w128 a → FitsSigned w128 b → SomeIff o (FitsSigned w128 (x +ℤ y)) (x +ℤ y) →
    r ≡ from_whole o power → r ≡ if_both_fit power a b (a +ℤ b)
sum_fits o power a b x y r first second fits_a fits_b fits is =
    both_fit o power a b (a +ℤ b) r fits_a fits_b
    (subst (λ (z : ℤ). SomeIff o (FitsSigned w128 (z +ℤ b)) (z +ℤ b)) first
    (subst (λ (z : ℤ). SomeIff o (FitsSigned w128 (x +ℤ z)) (x +ℤ z)) second fits)) is

pub difference_fits : (o : Option ℤ) (power a b x y : ℤ) (r : Denoted) → x ≡ a → y ≡ b →
    FitsSigned w128 a → FitsSigned w128 b → SomeIff o (FitsSigned w128 (x -ℤ y)) (x -ℤ y) →
    r ≡ from_whole o power → r ≡ if_both_fit power a b (a -ℤ b)
difference_fits o power a b x y r first second fits_a fits_b fits is =
    both_fit o power a b (a -ℤ b) r fits_a fits_b
    (subst (λ (z : ℤ). SomeIff o (FitsSigned w128 (z -ℤ b)) (z -ℤ b)) first
    (subst (λ (z : ℤ). SomeIff o (FitsSigned w128 (x -ℤ z)) (x -ℤ z)) second fits)) is

pub first_past : (power a b whole : ℤ) → (FitsSigned w128 a → ⊥) →
    number_past ≡ if_both_fit power a b whole
first_past power a b whole past =
    sym (ap (λ (t : Bool). cond (t && has_bits 127 b) (if_fits whole (whole, power)) number_past)
    (past_bits a past))

pub second_past : (power a b whole : ℤ) → (FitsSigned w128 b → ⊥) →
    number_past ≡ if_both_fit power a b whole
second_past power a b whole past =
    by (has_bits 127 a)
  where
    by : (t : Bool) → number_past ≡ cond (t && has_bits 127 b) (if_fits whole (whole, power))
        number_past
    by true =
        sym (ap (λ (t : Bool). cond t (if_fits whole (whole, power)) number_past)
        (past_bits b past))
    by false = refl

-- a power of ten that doesn't fit with a sign is far past the limit
big_tens : (power : ℕ) → (10 ^ power < 2 ^ 127 → ⊥) → 10 ^ 39 ≤ 10 ^ power
big_tens power past = elim (cases_lt power 39) [
  | inl less ↦
      let within : power ≤ 38 = omega arith in
      let most : 10 ^ power ≤ 10 ^ 38 = pow-le-pow_right (omega arith) within in
      let limit : 10 ^ 38 < 2 ^ 127 = lit< tt in
      absurd (past (omega (arith, most, limit)))
  | inr more ↦
      let within : 39 ≤ power = omega arith in
      pow-le-pow_right (omega arith) within
]

size_of_product : (z : ℤ) (n : ℕ) → nat_abs (z *ℤ pos n) ≡ nat_abs z * n
size_of_product (pos m) n = ap nat_abs (pos-*ℤ-pos m n)
size_of_product (negsuc m) n = ap nat_abs (negsuc-*ℤ-pos m n) ∙ size_of_other (suc m * n)
  where
    size_of_other : (k : ℕ) → nat_abs (neg_ℤ (pos k)) ≡ k
    size_of_other zero = refl
    size_of_other (suc k) = refl

fits_size : (z : ℤ) → FitsSigned w128 z → nat_abs z ≤ 2 ^ 127
fits_size (pos n) fits = omega (arith, fits.sfits)
fits_size (negsuc n) fits = omega (arith, fits.sfits)

some_size : (z : ℤ) → (z ≡ pos 0 → ⊥) → 1 ≤ nat_abs z
some_size (pos zero) some = absurd (some refl)
some_size (pos (suc n)) some = omega arith
some_size (negsuc n) some = omega arith

-- a number that isn't zero, times such a power of ten, doesn't fit
pub tens_past : (z : ℤ) (power : ℕ) → (z ≡ pos 0 → ⊥) → (10 ^ power < 2 ^ 127 → ⊥) →
    FitsSigned w128 (z *ℤ pos (10 ^ power)) → ⊥
tens_past z power some past fits =
    let big = big_tens power past in
    let size = fits_size (z *ℤ pos (10 ^ power)) fits in
    let whole = size_of_product z (10 ^ power) in
    let more : 10 ^ power ≤ nat_abs z * 10 ^ power =
    grows (nat_abs z) (10 ^ power) (some_size z some) in
    let limit : 2 ^ 127 < 10 ^ 39 = lit< tt in
    omega (arith, big, size, whole, more, limit)
  where
    grows : (n k : ℕ) → 1 ≤ n → k ≤ n * k
    grows zero k one = absurd (omega arith)
    grows (suc n) k one = omega arith

pub zero_taken : (power : ℤ) (n : ℤ × ℤ) → n.0 ≡ pos 0 → taken_to power n ≡ pos 0
zero_taken power n none =
    ap (λ (z : ℤ). z *ℤ pos (10 ^ nat_abs (n.1 -ℤ power))) none
    ∙ (pos-*ℤ-pos 0 (10 ^ nat_abs (n.1 -ℤ power))
    ∙ ap pos (nothing (10 ^ nat_abs (n.1 -ℤ power))))
  where
    nothing : (k : ℕ) → 0 * k ≡ 0
    nothing k = omega arith

pub zero_fits : FitsSigned w128 (pos 0)
zero_fits = record { sfits = lit< tt }

-- what is taken to a power, by the factor that the code has
pub taken_past : (power : ℤ) (n : ℤ × ℤ) (steps : ℕ) → steps ≡ nat_abs (n.1 -ℤ power) →
    (n.0 ≡ pos 0 → ⊥) → (10 ^ steps < 2 ^ 127 → ⊥) → FitsSigned w128 (taken_to power n) → ⊥
taken_past power n steps is some past =
    subst (λ (k : ℕ). FitsSigned w128 (n.0 *ℤ pos (10 ^ k)) → ⊥) is
    (tens_past n.0 steps some past)

pub taken_is : (power : ℤ) (n : ℤ × ℤ) (steps : ℕ) (factor : ℤ) (o : Option ℤ) →
    steps ≡ nat_abs (n.1 -ℤ power) → factor ≡ pos (10 ^ steps) →
    SomeIff o (FitsSigned w128 (n.0 *ℤ factor)) (n.0 *ℤ factor) →
    SomeIff o (FitsSigned w128 (taken_to power n)) (taken_to power n)
taken_is power n steps factor o is tens known =
    subst (λ (k : ℕ). SomeIff o (FitsSigned w128 (n.0 *ℤ pos (10 ^ k))) (n.0 *ℤ pos (10 ^ k))) is
    (subst (λ (z : ℤ). SomeIff o (FitsSigned w128 (n.0 *ℤ z)) (n.0 *ℤ z)) tens known)

-- ---- comparisons

ordered : (x y : ℤ) (r : Ordering) → r ≡ int_cmp x y → r ≡ int_cmp (x -ℤ y) (pos 0)
ordered x y r is =
    is ∙ int_cmp_is (x -ℤ y) (pos 0) (int_cmp x y) (by (int_cmp x y) (int_ranks x y))
  where
    by : (o : Ordering) → MatchOrdering o (x <ℤ y) (x ≡ y) (y <ℤ x) →
        MatchOrdering o ((x -ℤ y) <ℤ pos 0) (x -ℤ y ≡ pos 0) (pos 0 <ℤ (x -ℤ y))
    by Less less = omega (arith, ints, less)
    by Equal same = omega (arith, ints, same)
    by Greater more = omega (arith, ints, more)

pub both_ordered : (a b x y : ℤ) (r : Ordering) → x ≡ a → y ≡ b → r ≡ int_cmp x y →
    r ≡ int_cmp (a -ℤ b) (pos 0)
both_ordered a b x y r first second is =
    subst (λ (z : ℤ). r ≡ int_cmp (z -ℤ b) (pos 0)) first
    (subst (λ (z : ℤ). r ≡ int_cmp (x -ℤ z) (pos 0)) second (ordered x y r is))

-- a number that is taken to its own power is itself
own_power : (n : ℤ × ℤ) → taken_to n.1 n ≡ n.0
own_power n =
    let none : nat_abs (n.1 -ℤ n.1) ≡ 0 = ap nat_abs (no_gap n.1) in
    ap (λ (k : ℕ). n.0 *ℤ pos (10 ^ k)) none ∙ times_one n.0
  where
    no_gap : (z : ℤ) → z -ℤ z ≡ pos 0
    no_gap z = omega (arith, ints)

    times_one : (z : ℤ) → z *ℤ pos 1 ≡ z
    times_one (pos m) = pos-*ℤ-pos m 1 ∙ ap pos (let e : m * 1 ≡ m = omega arith in e)
    times_one (negsuc m) =
        negsuc-*ℤ-pos m 1 ∙ ap (λ (k : ℕ). neg_ℤ (pos k)) (let e : suc m * 1 ≡ suc m = omega arith
        in e)

-- so of two numbers taken to the lower power one is itself
one_is : (a b : ℤ × ℤ) → (taken_to (lower a.1 b.1) a ≡ a.0) ⊎ (taken_to (lower a.1 b.1) b ≡ b.0)
one_is a b = by (int_lt a.1 b.1)
  where
    by : (t : Bool) → (taken_to (cond t a.1 b.1) a ≡ a.0) ⊎ (taken_to (cond t a.1 b.1) b ≡ b.0)
    by true = inl (own_power a)
    by false = inr (own_power b)

far_below : (k y : ℤ) → (FitsSigned w128 k → ⊥) → k <ℤ pos 0 → FitsSigned w128 y →
    (k -ℤ y) <ℤ pos 0
far_below (pos j) y past below fits = absurd (omega (arith, ints, below))
far_below (negsuc j) (pos n) past below fits = omega (arith, ints)
far_below (negsuc j) (negsuc n) past below fits = elim (cases_lt j (2 ^ 127)) [
  | inl less ↦ absurd (past (record { sfits = less }))
  | inr more ↦ omega (arith, ints, more, fits.sfits)
]

far_above : (k y : ℤ) → (FitsSigned w128 k → ⊥) → pos 0 <ℤ k → FitsSigned w128 y →
    pos 0 <ℤ (k -ℤ y)
far_above (negsuc j) y past above fits = absurd (omega (arith, ints, above))
far_above (pos j) (negsuc n) past above fits = omega (arith, ints)
far_above (pos j) (pos n) past above fits = elim (cases_lt j (2 ^ 127)) [
  | inl less ↦ absurd (past (record { sfits = less }))
  | inr more ↦ omega (arith, ints, more, fits.sfits)
]

below_taken : (z : ℤ) (n : ℕ) → z <ℤ pos 0 → (z *ℤ pos (10 ^ n)) <ℤ pos 0
below_taken (pos m) n below = absurd (omega (arith, ints, below))
below_taken (negsuc m) n below =
    rw negsuc-*ℤ-pos (under (suc m * 10 ^ n) (some (10 ^ n) (one-le-pow n 10 (omega arith))))
  where
    some : (k : ℕ) → 1 ≤ k → 1 ≤ suc m * k
    some k one = omega arith

    under : (k : ℕ) → 1 ≤ k → neg_ℤ (pos k) <ℤ pos 0
    under k one = omega (arith, ints)

above_taken : (z : ℤ) (n : ℕ) → pos 0 <ℤ z → pos 0 <ℤ (z *ℤ pos (10 ^ n))
above_taken (negsuc m) n above = absurd (omega (arith, ints, above))
above_taken (pos zero) n above = absurd (omega (arith, ints, above))
above_taken (pos (suc m)) n above =
    rw pos-*ℤ-pos (over (suc m * 10 ^ n) (some (10 ^ n) (one-le-pow n 10 (omega arith))))
  where
    some : (k : ℕ) → 1 ≤ k → 1 ≤ suc m * k
    some k one = omega arith

    over : (k : ℕ) → 1 ≤ k → pos 0 <ℤ pos k
    over k one = omega (arith, ints)

-- a number that doesn't fit stands to one that fits as what it was taken from stands to zero
past_order : (power : ℤ) (n : ℤ × ℤ) (y : ℤ) → (FitsSigned w128 (taken_to power n) → ⊥) →
    FitsSigned w128 y → int_cmp n.0 (pos 0) ≡ int_cmp (taken_to power n -ℤ y) (pos 0)
past_order power n y past fits =
    int_cmp_is (taken_to power n -ℤ y) (pos 0) (int_cmp n.0 (pos 0))
    (by (int_cmp n.0 (pos 0)) (int_ranks n.0 (pos 0)))
  where
    by : (o : Ordering) → MatchOrdering o (n.0 <ℤ pos 0) (n.0 ≡ pos 0) (pos 0 <ℤ n.0) →
        MatchOrdering o ((taken_to power n -ℤ y) <ℤ pos 0) (taken_to power n -ℤ y ≡ pos 0)
        (pos 0 <ℤ (taken_to power n -ℤ y))
    by Less less =
        far_below (taken_to power n) y past (below_taken n.0 (nat_abs (n.1 -ℤ power)) less) fits
    by Equal same =
        absurd (past (subst (FitsSigned w128) (sym (zero_taken power n same)) zero_fits))
    by Greater more =
        far_above (taken_to power n) y past (above_taken n.0 (nat_abs (n.1 -ℤ power)) more) fits

pub first_order : (a b : ℤ × ℤ) (power : ℤ) (r : Ordering) → power ≡ lower a.1 b.1 →
    FitsSigned w128 a.0 → FitsSigned w128 b.0 → (FitsSigned w128 (taken_to power a) → ⊥) →
    r ≡ int_cmp a.0 (pos 0) → r ≡ int_cmp (gap a b) (pos 0)
first_order a b power r is first second past order =
    order
    ∙ (past_order power a (taken_to power b) past (other (one_is a b))
    ∙ ap (λ (p : ℤ). int_cmp (taken_to p a -ℤ taken_to p b) (pos 0)) is)
  where
    other : (taken_to (lower a.1 b.1) a ≡ a.0) ⊎ (taken_to (lower a.1 b.1) b ≡ b.0) →
        FitsSigned w128 (taken_to power b)
    other (inl own) =
        absurd (past (subst (λ (p : ℤ). FitsSigned w128 (taken_to p a)) (sym is)
        (subst (FitsSigned w128) (sym own) first)))
    other (inr own) =
        subst (λ (p : ℤ). FitsSigned w128 (taken_to p b)) (sym is)
        (subst (FitsSigned w128) (sym own) second)

turned_order : (x y : ℤ) → int_cmp (x -ℤ y) (pos 0) ≡ int_cmp (pos 0) (y -ℤ x)
turned_order x y =
    int_cmp_is (pos 0) (y -ℤ x) (int_cmp (x -ℤ y) (pos 0))
    (by (int_cmp (x -ℤ y) (pos 0)) (int_ranks (x -ℤ y) (pos 0)))
  where
    by : (o : Ordering) →
        MatchOrdering o ((x -ℤ y) <ℤ pos 0) (x -ℤ y ≡ pos 0) (pos 0 <ℤ (x -ℤ y)) →
        MatchOrdering o (pos 0 <ℤ (y -ℤ x)) (pos 0 ≡ y -ℤ x) ((y -ℤ x) <ℤ pos 0)
    by Less less = omega (arith, ints, less)
    by Equal same = omega (arith, ints, same)
    by Greater more = omega (arith, ints, more)

turned_zero : (o : Ordering) (z k : ℤ) → int_cmp z (pos 0) ≡ int_cmp k (pos 0) →
    int_cmp (pos 0) z ≡ int_cmp (pos 0) k
turned_zero o z k same =
    int_cmp_total.antisymm (pos 0) z
    ∙ (ap ordering_reverse same ∙ sym (int_cmp_total.antisymm (pos 0) k))

pub second_order : (a b : ℤ × ℤ) (power : ℤ) (r : Ordering) → power ≡ lower a.1 b.1 →
    FitsSigned w128 (taken_to power a) → (FitsSigned w128 (taken_to power b) → ⊥) →
    r ≡ int_cmp (pos 0) b.0 → r ≡ int_cmp (gap a b) (pos 0)
second_order a b power r is first past order =
    order
    ∙ (turned_zero Less b.0 (taken_to power b -ℤ taken_to power a)
    (past_order power b (taken_to power a) past first)
    ∙ (sym (turned_order (taken_to power a) (taken_to power b))
    ∙ ap (λ (p : ℤ). int_cmp (taken_to p a -ℤ taken_to p b) (pos 0)) is))

-- ---- sums and differences of numbers that aren't zero

not_zero : (n : ℤ × ℤ) → (n.0 ≡ pos 0 → ⊥) → is_zero n ≡ false
not_zero n some =
    let size = some_size n.0 some in
    grind (arith, nat_tests, size)

pub sum_of_some : (a b : ℤ × ℤ) (power : ℤ) (r : Denoted) → (a.0 ≡ pos 0 → ⊥) →
    (b.0 ≡ pos 0 → ⊥) → power ≡ lower a.1 b.1 →
    r ≡ if_both_fit power (taken_to power a) (taken_to power b)
    (taken_to power a +ℤ taken_to power b) → r ≡ sum_of a b
sum_of_some a b power r first second is known =
    known
    ∙ (ap (λ (p : ℤ). if_both_fit p (taken_to p a) (taken_to p b)
    (taken_to p a +ℤ taken_to p b)) is
    ∙ sym (ap (λ (t : Bool). cond t (a_number a) (cond (is_zero a) (a_number b)
    (sum_at (lower a.1 b.1) (taken_to (lower a.1 b.1) a) (taken_to (lower a.1 b.1) b))))
    (not_zero b second)
    ∙ ap (λ (t : Bool). cond t (a_number b)
    (sum_at (lower a.1 b.1) (taken_to (lower a.1 b.1) a) (taken_to (lower a.1 b.1) b)))
    (not_zero a first)))

pub difference_of_some : (a b : ℤ × ℤ) (power : ℤ) (r : Denoted) → (a.0 ≡ pos 0 → ⊥) →
    (b.0 ≡ pos 0 → ⊥) → power ≡ lower a.1 b.1 →
    r ≡ if_both_fit power (taken_to power a) (taken_to power b)
    (taken_to power a -ℤ taken_to power b) → r ≡ difference_of a b
difference_of_some a b power r first second is known =
    known
    ∙ (ap (λ (p : ℤ). if_both_fit p (taken_to p a) (taken_to p b)
    (taken_to p a -ℤ taken_to p b)) is
    ∙ sym (ap (λ (t : Bool). cond t (a_number a) (cond (is_zero a) (negative_of b)
    (difference_at (lower a.1 b.1) (taken_to (lower a.1 b.1) a) (taken_to (lower a.1 b.1) b))))
    (not_zero b second)
    ∙ ap (λ (t : Bool). cond t (negative_of b)
    (difference_at (lower a.1 b.1) (taken_to (lower a.1 b.1) a) (taken_to (lower a.1 b.1) b)))
    (not_zero a first)))
