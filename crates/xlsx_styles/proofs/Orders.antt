-- Tints keep the order of channels, and a tint of zero keeps the channels.
use Rattle.std.proofs.Common.{◌≡◌, ℕ, ◌+◌, ◌-◌, ◌*◌, ◌/◌, ◌^◌, ◌<◌, ◌≤◌, min, refl, ap, subst, sym}
use Rattle.std.proofs.Common.{◌∙◌, inl, inr, false, arith, zero, suc}
use Rattle.std.specs.Prelude.{ℤ, pos, negsuc, nat_abs}
use Rattle.std.proofs.Math.Nat.{mul-le-mul_left, mul-le-mul_right, suc-mul, zero-div, zero-mul}
use Rattle.std.proofs.lemmas.Bool.{cases_lt}
use Rattle.decimals.specs.declared.decimal.Decimal.{Decimal}
use Rattle.cell_styles.specs.declared.color.Color.{Color}
use Rattle.xlsx_styles.specs.Tint.{Fraction, IsNearest, unit, parts_of, tint_size, is_negative}
use Rattle.xlsx_styles.specs.Tint.{channel_sum, room_of, tinted_sum, shade, tint_fraction}

-- a larger fraction has no smaller nearest number
nearest_rises : (m n : ℕ) (a b : Fraction) → a.divisor ≡ b.divisor → a.numerator ≤ b.numerator
    → IsNearest m a → IsNearest n b → m ≤ n
nearest_rises m n a b same rises low high =
    elim (cases_lt n m) [
      | inl above ↦
          let more : (suc n) * (2 * a.divisor) ≤ m * (2 * a.divisor) =
          mul-le-mul_right (2 * a.divisor) (let h : suc n ≤ m = omega arith in h) in
          let split : (suc n) * (2 * a.divisor) ≡ n * (2 * a.divisor) + 2 * a.divisor =
          suc-mul n (2 * a.divisor) in
          let first = low.low in
          let last : 2 * b.numerator + a.divisor < n * (2 * a.divisor) + 2 * a.divisor =
          subst (λ d. 2 * b.numerator + d < n * (2 * d) + 2 * d) (sym same) high.high in
          absurd (omega arith)
      | inr rest ↦ rest
    ]

less_left : (a b c k : ℕ) → b ≤ c → a + b - k ≤ a + c - k
less_left a b c k h = omega arith

shade_rises : (sum tinted room x y : ℕ) → x ≤ y
    → ((shade sum tinted room x).divisor ≡ (shade sum tinted room y).divisor)
    × ((shade sum tinted room x).numerator ≤ (shade sum tinted room y).numerator)
shade_rises sum tinted zero x y h = (refl, omega arith)
shade_rises sum tinted (suc room) x y h =
    let swing : ℕ = min tinted (510 * unit - tinted) in
    let twice : 2 * x ≤ 2 * y = omega arith in
    let more : swing * (2 * x) ≤ swing * (2 * y) = mul-le-mul_left swing twice in
    (refl, less_left (tinted * suc room) (swing * (2 * x)) (swing * (2 * y)) (swing * sum) more)

pub order_kept : (color : Color) (tint : Decimal) (x y m n : ℕ) → x ≤ y
    → IsNearest m (tint_fraction color tint x) → IsNearest n (tint_fraction color tint y) → m ≤ n
order_kept color tint x y m n h low high =
    let sum = channel_sum color in
    let rises = shade_rises sum (tinted_sum (is_negative tint.mantissa) (tint_size tint) sum)
    (room_of sum) x y h in
    nearest_rises m n (tint_fraction color tint x) (tint_fraction color tint y) rises.0 rises.1 low
    high

zero_parts : (power : ℤ) → parts_of 0 power ≡ 0
zero_parts (pos power) = ap (λ n. n * unit) (zero-mul (10 ^ power)) ∙ zero-mul unit
zero_parts (negsuc power) = ap (λ n. n / 10 ^ (power + 1)) (zero-mul unit)
    ∙ zero-div (10 ^ (power + 1))

-- a whole number is nearest to itself
exact : (x d : ℕ) → 0 < d → IsNearest x (record { numerator = x * d; divisor = d })
exact x d some =
    let twice : x * (2 * d) ≡ 2 * (x * d) = grind arith in
    record { low = omega arith; high = omega arith }

only_exact : (n x a d : ℕ) → 0 < d → a ≡ x * d → IsNearest n (record { numerator = a; divisor = d })
    → n ≡ x
only_exact n x a d some is nearest =
    let here : IsNearest x (record { numerator = a; divisor = d }) =
    subst (λ k. IsNearest x (record { numerator = k; divisor = d })) (sym is)
    (exact x d some) in
    let fraction : Fraction = record { numerator = a; divisor = d } in
    let up = nearest_rises n x fraction fraction refl (omega arith) nearest here in
    let down = nearest_rises x n fraction fraction refl (omega arith) here nearest in
    omega arith

half_swing : (sum room x : ℕ) → room ≡ room_of sum → sum ≤ 510
    → sum * unit * room + min (sum * unit) (510 * unit - sum * unit) * (2 * x)
    - min (sum * unit) (510 * unit - sum * unit) * sum ≡ x * (2 * unit * room)
half_swing sum room x is bound =
    let swing : min (sum * unit) (510 * unit - sum * unit) ≡ unit * room = omega arith in
    let first : sum * unit * room ≡ unit * room * sum = grind arith in
    let second : unit * room * (2 * x) ≡ x * (2 * unit * room) = grind arith in
    rw swing (omega (arith, first, second))

shade_of_zero : (sum room x n : ℕ) → room ≡ room_of sum → sum ≤ 510 → sum ≤ 2 * x + room
    → 2 * x ≤ sum + room
    → IsNearest n (shade sum (sum * unit) room x) → n ≡ x
shade_of_zero sum zero x n is bound low high nearest =
    only_exact n x (sum * unit) (2 * unit) (omega arith) (omega arith) nearest
shade_of_zero sum (suc room) x n is bound low high nearest =
    only_exact n x _ (2 * unit * suc room) (omega arith) (half_swing sum (suc room) x is bound)
    nearest

zero_keeps : (color : Color) (tint : Decimal) (x n : ℕ) → tint.mantissa ≡ pos 0
    → channel_sum color ≤ 510 → channel_sum color ≤ 2 * x + room_of (channel_sum color)
    → 2 * x ≤ channel_sum color + room_of (channel_sum color)
    → IsNearest n (tint_fraction color tint x) → n ≡ x
zero_keeps color tint x n none bound low high nearest =
    let sum = channel_sum color in
    let size : tint_size tint ≡ 0 =
    ap (λ m. min (parts_of (nat_abs m) tint.exponent) unit) none
    ∙ (ap (λ k. min k unit) (zero_parts tint.exponent) ∙ omega arith) in
    let after : tinted_sum (is_negative tint.mantissa) (tint_size tint) sum ≡ sum * unit =
    ap (λ m. tinted_sum (is_negative m) (tint_size tint) sum) none
    ∙ (ap (λ k. tinted_sum false k sum) size ∙ omega arith) in
    let fraction : IsNearest n (shade sum (sum * unit) (room_of sum) x) =
    subst (λ t. IsNearest n (shade sum t (room_of sum) x)) after nearest in
    shade_of_zero sum (room_of sum) x n refl bound low high fraction

-- a tint of zero keeps the whole color
pub zero_tint : (color after : Color) (tint : Decimal) → color.red < 256 → color.green < 256
    → color.blue < 256 → tint.mantissa ≡ pos 0 → after.alpha ≡ color.alpha
    → IsNearest after.red (tint_fraction color tint color.red)
    → IsNearest after.green (tint_fraction color tint color.green)
    → IsNearest after.blue (tint_fraction color tint color.blue) → after ≡ color
zero_tint color after tint small_red small_green small_blue none alpha red green blue =
    let bound : channel_sum color ≤ 510 = omega arith in
    let reds = zero_keeps color tint color.red after.red none bound (omega arith)
    (omega arith) red in
    let greens = zero_keeps color tint color.green after.green none bound (omega arith)
    (omega arith) green in
    let blues = zero_keeps color tint color.blue after.blue none bound (omega arith) (omega arith)
    blue in
    λ i. record { alpha = alpha i; red = reds i; green = greens i; blue = blues i }
