-- A later serial has no fewer milliseconds.
use Rattle.std.proofs.Common.{◌≡◌, ℕ, ◌+◌, ◌-◌, ◌*◌, ◌/◌, ◌^◌, ◌<◌, ◌≤◌, sym, ap, ◌∙◌, arith, ℤ}
use Rattle.std.proofs.Common.{pos, negsuc, ◌-ℤ◌, ◌≤ℤ◌}
use Rattle.std.proofs.Math.IntN.{pos-*ℤ-pos}
use Rattle.std.proofs.Math.Nat.{mul-le-mul_left, mul-div-mul_left, add-mul-div_left, div-eq_of_lt}
use Rattle.std.proofs.Math.Nat.{div-lt_iff_lt-mul}
use Rattle.std.proofs.lemmas.Int.{ints}
use Rattle.std.proofs.lemmas.Nat.{pow-add}
use Rattle.decimals.specs.Words.{nearest, IsAtMost}
use Rattle.decimals.proofs.Rounded.{unit_some}
use Rattle.excel_dates.specs.Serials.{day_length, nearest_at, milliseconds_of}
use Rattle.excel_dates.proofs.SerialSteps.{even_power, halved}

-- whole units over a unit
whole_units : (n unit : ℕ) → 0 < unit → (n * unit + unit / 2) / unit ≡ n
whole_units n unit positive =
    let sum : n * unit + unit / 2 ≡ unit / 2 + unit * n = omega arith in
    let none : unit / 2 / unit ≡ 0 = div-eq_of_lt (omega arith) in
    ap (λ k. k / unit) sum
    ∙ (add-mul-div_left (unit / 2) n positive ∙ omega (arith, none))

-- told in smaller units, the nearest number stays
finer : (size places s : ℕ) → 0 < places →
    nearest (places + s) (size * 10 ^ s) ≡ nearest places size
finer size places s positive =
    let half = 10 ^ (places - 1) * 5 in
    let unit : half * 2 ≡ 10 ^ places = even_power places positive in
    let whole : 10 ^ s * (half * 2) ≡ 10 ^ (places + s) =
    ap (λ u. 10 ^ s * u) unit
    ∙ (let swap : 10 ^ s * 10 ^ places ≡ 10 ^ places * 10 ^ s = omega arith in swap
    ∙ sym (pow-add 10 places s)) in
    let half_whole : 10 ^ (places + s) / 2 ≡ half * 10 ^ s =
    halved (half * 10 ^ s) (10 ^ (places + s)) (omega (arith, whole)) in
    let half_unit : 10 ^ places / 2 ≡ half = halved half (10 ^ places) (omega (arith, unit)) in
    let top : size * 10 ^ s + 10 ^ (places + s) / 2 ≡ 10 ^ s * (size + half) =
    omega (arith, half_whole) in
    (λ i. top i / sym whole i)
    ∙ (mul-div-mul_left (size + half) (half * 2) (unit_some s)
    ∙ λ i. (size + sym half_unit i) / unit i)

-- a serial's milliseconds over a common power
over_power : (size s k : ℕ) (e : ℤ) → 0 < k → e ≡ pos s -ℤ pos k →
    nearest_at size e ≡ nearest k (size * 10 ^ s)
over_power size s k (pos p) positive is =
    let sum : s ≡ p + k = omega (arith, ints, is) in
    sym (whole_units (size * 10 ^ p) (10 ^ k) (unit_some k))
    ∙ ap (λ n. (n + 10 ^ k / 2) / 10 ^ k)
    (let power : 10 ^ s ≡ 10 ^ p * 10 ^ k = ap (λ j. 10 ^ j) sum ∙ pow-add 10 p k in
    let product : size * 10 ^ p * 10 ^ k ≡ size * 10 ^ s =
    omega (arith, ap (λ u. size * u) power) in
    product)
over_power size s k (negsuc q) positive is =
    let sum : q + 1 + s ≡ k = omega (arith, ints, is) in
    sym (finer size (q + 1) s (omega arith)) ∙ ap (λ j. nearest j (size * 10 ^ s)) sum

nearest_order : (k m n : ℕ) → m ≤ n → nearest k m ≤ nearest k n
nearest_order k m n within =
    let unit = unit_some k in
    let less : (m + 10 ^ k / 2) / 10 ^ k < (n + 10 ^ k / 2) / 10 ^ k + 1 =
    (div-lt_iff_lt-mul unit).1 (below (10 ^ k) (m + 10 ^ k / 2) (n + 10 ^ k / 2) unit
    (omega (arith, within))) in
    omega (arith, less)
  where
    below : (unit a b : ℕ) → 0 < unit → a ≤ b → a < (b / unit + 1) * unit
    below unit a b positive within = omega arith

sized : (x y : ℕ) (e f : ℤ) → IsAtMost (pos x, e) (pos y, f) → (s t k : ℕ) → 0 < k →
    e ≡ pos s -ℤ pos k → f ≡ pos t -ℤ pos k →
    nearest_at (x * day_length) e ≤ nearest_at (y * day_length) f
sized x y e f at_most s t k positive e_is f_is =
    let powers : (e -ℤ pos s) ≡ (f -ℤ pos t) = omega (arith, ints, e_is, f_is) in
    let known = at_most s t powers in
    let sizes : x * 10 ^ s ≤ y * 10 ^ t =
    omega (arith, ints, known, pos-*ℤ-pos x (10 ^ s), pos-*ℤ-pos y (10 ^ t)) in
    let scaled : x * day_length * 10 ^ s ≤ y * day_length * 10 ^ t =
    omega (arith, mul-le-mul_left day_length sizes) in
    omega (
      arith,
      over_power (x * day_length) s k e positive e_is,
      over_power (y * day_length) t k f positive f_is,
      nearest_order k (x * day_length * 10 ^ s) (y * day_length * 10 ^ t) scaled,
    )

-- a power that is below both, and how far
behind : (e f : ℤ) → (s : ℕ) × (t : ℕ) × (k : ℕ) × (0 < k)
    × (e ≡ pos s -ℤ pos k) × (f ≡ pos t -ℤ pos k)
behind (pos p) (pos q) =
    (p + 1, q + 1, 1, omega arith, omega (arith, ints), omega (arith, ints))
behind (pos p) (negsuc q) =
    (p + q + 1, 0, q + 1, omega arith, omega (arith, ints), omega (arith, ints))
behind (negsuc p) (pos q) =
    (0, q + p + 1, p + 1, omega arith, omega (arith, ints), omega (arith, ints))
behind (negsuc p) (negsuc q) =
    (q, p, p + q + 1, omega arith, omega (arith, ints), omega (arith, ints))

pub in_order : (one other : ℤ × ℤ) → pos 0 ≤ℤ one.0 → pos 0 ≤ℤ other.0 → IsAtMost one other →
    milliseconds_of one ≤ milliseconds_of other
unfolding milliseconds_of
in_order (pos x, e) (pos y, f) low other_low at_most =
    let (s, t, k, positive, e_is, f_is) = behind e f in
    sized x y e f at_most s t k positive e_is f_is
in_order (pos x, e) (negsuc y, f) low other_low at_most = absurd (omega (arith, ints, other_low))
in_order (negsuc x, e) (pos y, f) low other_low at_most = absurd (omega (arith, ints, low))
in_order (negsuc x, e) (negsuc y, f) low other_low at_most = absurd (omega (arith, ints, low))
