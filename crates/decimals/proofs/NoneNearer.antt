-- No number of so many digits is nearer to a number than the one that it is rounded to.
use Rattle.std.proofs.Common.{◌≡◌, ℕ, zero, suc, ◌+◌, ◌-◌, ◌*◌, ◌/◌, ◌^◌, ◌<◌, ◌≤◌, Bool, true}
use Rattle.std.proofs.Common.{false, ℤ, pos, negsuc, ◌-ℤ◌, ◌*ℤ◌, refl, sym, ap, subst, ◌∙◌, arith}
use Rattle.std.proofs.Common.{inl, inr}
use Rattle.std.specs.Prelude.{nat_abs, FitsSigned}
use Rattle.std.specs.Int.{is_negative, w128}
use Rattle.std.proofs.Math.IntN.{pos-*ℤ-pos}
use Rattle.std.proofs.Math.Nat.{pow-le-pow_right}
use Rattle.std.proofs.lemmas.Bool.{cases_lt}
use Rattle.std.proofs.lemmas.Int.{ints}
use Rattle.decimals.specs.declared.decimal.Decimal.{Decimal}
use Rattle.decimals.specs.Decimal.{number_of}
use Rattle.decimals.specs.Decimals.{with_sign}
use Rattle.decimals.specs.Rounding.{digit_count, digits_behind, nearest, rounded_number}
use Rattle.decimals.specs.Rounding.{NoneIsNearer}
use Rattle.decimals.proofs.Nearest.{low, high, factors, kept_value, some, times}
use Rattle.decimals.proofs.Parts.{abs_small}
use Rattle.decimals.proofs.Rounded.{nearest_number, of_digits}
use Rattle.decimals.proofs.RoundedLaws.{has_digits, nearest_zero, times_signed, itself_signed}
use Rattle.decimals.proofs.RoundedLaws.{of_none}

-- how far apart two numbers are
abbrev apart : ℕ → ℕ → ℕ
apart x y = (x - y) + (y - x)

-- no multiple of the unit is nearer
no_multiple : (m r w unit : ℕ) → 0 < unit → r * unit ≤ m + unit / 2 →
    m + unit / 2 < r * unit + unit → apart m (r * unit) ≤ apart m (w * unit)
no_multiple m r w unit positive least most = elim (cases_lt w r) [
  | inl below ↦
      let step : (w + 1) * unit ≤ r * unit =
      times unit (let h : w + 1 ≤ r = omega (arith, below) in h) in
      omega (arith, step, least, most)
  | inr at_least ↦ elim (cases_lt r w) [
    | inl above ↦
        let step : (r + 1) * unit ≤ w * unit =
        times unit (let h : r + 1 ≤ w = omega (arith, above) in h) in
        omega (arith, step, least, most)
    | inr at_most ↦
        let same : r ≡ w = omega (arith, at_least, at_most) in
        omega (arith, ap (λ k. apart m (k * unit)) same)
  ]
]

apart_times : (x y k : ℕ) → apart x y * k ≡ apart (x * k) (y * k)
apart_times x y k = elim (cases_lt x y) [
  | inl below ↦
      let product = times k (let h : x ≤ y = omega (arith, below) in h) in
      let one : x - y ≡ 0 = omega (arith, below) in
      let gap : (y - x) + x ≡ y = omega (arith, below) in
      omega (arith, product, ap (λ j. j * k) one, ap (λ j. j * k) gap)
  | inr above ↦
      let product = times k above in
      let one : y - x ≡ 0 = omega (arith, above) in
      let gap : (x - y) + y ≡ x = omega (arith, above) in
      omega (arith, product, ap (λ j. j * k) one, ap (λ j. j * k) gap)
]

-- told over a common power, no multiple of the unit is nearer
no_multiple_over : (m w p s : ℕ) →
    apart (m * 10 ^ s) (nearest p m * 10 ^ (p + s)) ≤ apart (m * 10 ^ s) (w * 10 ^ (p + s))
no_multiple_over m w p s =
    let close =
    no_multiple m (nearest p m) w (10 ^ p) (some p) (low (10 ^ p) m) (high (10 ^ p) m (some p)) in
    let scaled = times (10 ^ s) close in
    let unit = factors p s (p + s) (omega arith) in
    omega (
      arith,
      scaled,
      apart_times m (nearest p m * 10 ^ p) (10 ^ s),
      apart_times m (w * 10 ^ p) (10 ^ s),
      ap (λ k. apart (m * 10 ^ s) (nearest p m * k)) unit,
      ap (λ k. apart (m * 10 ^ s) (w * k)) unit,
    )

-- no number of so many digits is nearer to one above 0
none_nearer_size : (digits m y s t : ℕ) → 0 < digits → 0 < m → m < 2 ^ 128 → y < 10 ^ digits →
    apart (m * 10 ^ s)
    (nearest (digits_behind digits m) m * 10 ^ (digits_behind digits m + s))
    ≤ apart (m * 10 ^ s) (y * 10 ^ t)
none_nearer_size digits m y s t any positive small few =
    elim (cases_lt t (digits_behind digits m + s)) [
      | inr over ↦
          let p = digits_behind digits m in
          let whole = factors (t - (p + s)) (p + s) t (omega arith) in
          omega (
            arith,
            no_multiple_over m (y * 10 ^ (t - (p + s))) p s,
            ap (λ k. apart (m * 10 ^ s) (y * k)) whole,
          )
      | inl below ↦ elim (cases_lt digits (digit_count m)) [
        | inl more ↦
            let has = has_digits m positive small in
            let p = digits_behind digits m in
            let top = factors digits t (digits + t) refl in
            let near_it = factors (digits - 1) (p + s) (digit_count m - 1 + s)
            (omega (arith, any, more)) in
            let least = factors (digit_count m - 1) s (digit_count m - 1 + s) refl in
            let within : digits + t ≤ digit_count m - 1 + s = omega (arith, below, more) in
            let powers : 10 ^ (digits + t) ≤ 10 ^ (digit_count m - 1 + s) =
            pow-le-pow_right (omega arith) within in
            let most : y * 10 ^ t ≤ 10 ^ digits * 10 ^ t =
            times (10 ^ t) (let h : y ≤ 10 ^ digits = omega (arith, few) in h) in
            let size = times (10 ^ s) has.least in
            omega (
              arith,
              no_multiple_over m (10 ^ (digits - 1)) p s,
              top,
              near_it,
              least,
              powers,
              most,
              size,
            )
        | inr kept ↦
            omega (arith, kept_value digits m (digit_count m) s kept)
      ]
    ]

-- a number of the other sign is further away than 0 is
by_sizes : (negative other : Bool) (x r z : ℕ) → apart x r ≤ apart x z → apart x r ≤ x →
    nat_abs (with_sign negative x -ℤ with_sign negative r)
    ≤ nat_abs (with_sign negative x -ℤ with_sign other z)
by_sizes true true x r z near_it least = omega (arith, ints)
by_sizes true false x r z near_it least = omega (arith, ints)
by_sizes false true x r z near_it least = omega (arith, ints)
by_sizes false false x r z near_it least = omega (arith, ints)

-- no number of so many digits is nearer, and neither is 0
record IsNearest (digits m y s t : ℕ) : Type 0 where
  near_it : apart (m * 10 ^ s)
      (nearest (digits_behind digits m) m * 10 ^ (digits_behind digits m + s))
      ≤ apart (m * 10 ^ s) (y * 10 ^ t)
  least : apart (m * 10 ^ s)
      (nearest (digits_behind digits m) m * 10 ^ (digits_behind digits m + s))
      ≤ m * 10 ^ s

is_nearest : (digits m y s t : ℕ) → 0 < digits → m < 2 ^ 128 → y < 10 ^ digits →
    IsNearest digits m y s t
is_nearest digits zero y s t any small few =
    let p = digits_behind digits 0 in
    let none : nearest p 0 * 10 ^ (p + s) ≡ 0 * 10 ^ (p + s) =
    ap (λ k. k * 10 ^ (p + s)) (nearest_zero p) in
    record { near_it = omega (arith, none); least = omega (arith, none) }
is_nearest digits (suc m) y s t any small few =
    let none = none_nearer_size digits (suc m) 0 s 0 any (omega arith) small (some digits) in
    record {
      near_it = none_nearer_size digits (suc m) y s t any (omega arith) small few;
      least = omega (arith, none);
    }

signed_nearest : (digits : ℕ) (n other : ℤ × ℤ) (s t : ℕ) → 0 < digits →
    nat_abs n.0 < 2 ^ 128 → nat_abs other.0 < 10 ^ digits →
    nat_abs
    ((n.0 *ℤ pos (10 ^ s))
    -ℤ ((nearest_number (digits_behind digits (nat_abs n.0)) n).0
    *ℤ pos (10 ^ (digits_behind digits (nat_abs n.0) + s))))
    ≤ nat_abs ((n.0 *ℤ pos (10 ^ s)) -ℤ (other.0 *ℤ pos (10 ^ t)))
signed_nearest digits n other s t any small few =
    let m = nat_abs n.0 in
    let p = digits_behind digits m in
    let known = is_nearest digits m (nat_abs other.0) s t any small few in
    let sizes =
    by_sizes (is_negative n.0) (is_negative other.0) (m * 10 ^ s)
    (nearest p m * 10 ^ (p + s)) (nat_abs other.0 * 10 ^ t) known.near_it known.least in
    rw (
      itself_signed n.0 (10 ^ s),
      times_signed (is_negative n.0) (nearest p m) (10 ^ (p + s)),
      itself_signed other.0 (10 ^ t),
    ) sizes

zero_of : (z : ℤ) → nat_abs z < 10 ^ 0 → z ≡ pos 0
zero_of (pos n) few = ap pos (let h : n ≡ 0 = omega arith in h)
zero_of (negsuc n) few = absurd (omega arith)

zero_times : (k : ℕ) → pos 0 *ℤ pos k ≡ pos 0
zero_times k = pos-*ℤ-pos 0 k ∙ ap pos (let h : 0 * k ≡ 0 = omega arith in h)

of_no_digits : (n : ℤ × ℤ) → NoneIsNearer 0 n
of_no_digits n = λ other s t few same.
    let rounded : (rounded_number 0 n).0 ≡ pos 0 = ap (λ (z : ℤ × ℤ). z.0) (of_none n) in
    let q = digits_behind 0 (nat_abs n.0) + s in
    let one : ((rounded_number 0 n).0 *ℤ pos (10 ^ q)) ≡ pos 0 =
    ap (λ (z : ℤ). z *ℤ pos (10 ^ q)) rounded ∙ zero_times (10 ^ q) in
    let two : (other.0 *ℤ pos (10 ^ t)) ≡ pos 0 =
    ap (λ (z : ℤ). z *ℤ pos (10 ^ t)) (zero_of other.0 few) ∙ zero_times (10 ^ t) in
    let equal : nat_abs ((n.0 *ℤ pos (10 ^ s)) -ℤ ((rounded_number 0 n).0 *ℤ pos (10 ^ q)))
    ≡ nat_abs ((n.0 *ℤ pos (10 ^ s)) -ℤ (other.0 *ℤ pos (10 ^ t))) =
    ap (λ (z : ℤ). nat_abs ((n.0 *ℤ pos (10 ^ s)) -ℤ z)) (one ∙ sym two) in
    omega (arith, equal)

pub none_nearer : (number : Decimal) (digits : ℕ) → FitsSigned w128 number.mantissa →
    NoneIsNearer digits (number_of number)
none_nearer number zero fits = of_no_digits (number_of number)
none_nearer number (suc d) fits = λ other s t few same.
    let n = number_of number in
    let places = digits_behind (suc d) (nat_abs n.0) in
    let is = of_digits (suc d) n (λ none. omega (arith, none)) in
    let known =
    signed_nearest (suc d) n other s t (omega arith) (abs_small number.mantissa fits) few in
    subst (λ (z : ℤ × ℤ). nat_abs ((n.0 *ℤ pos (10 ^ s)) -ℤ (z.0 *ℤ pos (10 ^ (places + s))))
    ≤ nat_abs ((n.0 *ℤ pos (10 ^ s)) -ℤ (other.0 *ℤ pos (10 ^ t)))) (sym is) known
