-- What is nearest to a whole number keeps the order, and is near.
use Rattle.std.proofs.Common.{◌≡◌, ℕ, ◌+◌, ◌-◌, ◌*◌, ◌/◌, ◌^◌, ◌<◌, ◌≤◌, sym, ap, ◌∙◌, arith, inl}
use Rattle.std.proofs.Common.{inr}
use Rattle.std.proofs.Math.Nat.{pow-le-pow_right, one-le-pow, mul-le-mul_left, div-lt_iff_lt-mul}
use Rattle.std.proofs.Math.Nat.{div-mul-le_self, lt-div-mul-add, le_of_mul-le-mul_right}
use Rattle.std.proofs.lemmas.Bool.{cases_lt}
use Rattle.std.proofs.lemmas.Grind.{pow_more}
use Rattle.std.proofs.lemmas.Nat.{le-div, pow-add}
use Rattle.decimals.specs.Rounding.{nearest}

pub some : (k : ℕ) → 0 < 10 ^ k
some k = omega (arith, one-le-pow k 10 (omega arith))

-- the nearest multiple of a unit
abbrev near : ℕ → ℕ → ℕ
near unit n = (n + unit / 2) / unit

-- no multiple of the unit above a number is passed, and none below it
pub near_up : (unit n y : ℕ) → 0 < unit → n ≤ y * unit → near unit n ≤ y
near_up unit n y positive within =
    let below : n + unit / 2 < (y + 1) * unit = omega arith in
    let less : near unit n < y + 1 = (div-lt_iff_lt-mul positive).1 below in
    omega (arith, less)

near_down : (unit n y : ℕ) → 0 < unit → y * unit ≤ n → y ≤ near unit n
near_down unit n y positive within = le-div y (n + unit / 2) unit positive (omega arith)

pub low : (unit n : ℕ) → near unit n * unit ≤ n + unit / 2
low unit n = div-mul-le_self (n + unit / 2) unit

pub high : (unit n : ℕ) → 0 < unit → n + unit / 2 < near unit n * unit + unit
high unit n positive = lt-div-mul-add positive

-- the difference is at most half a unit
pub half_above : (places n : ℕ) → (nearest places n * 10 ^ places - n) * 2 ≤ 10 ^ places
half_above places n = omega (arith, low (10 ^ places) n)

pub half_below : (places n : ℕ) → (n - nearest places n * 10 ^ places) * 2 ≤ 10 ^ places
half_below places n = omega (arith, high (10 ^ places) n (some places), some places)

halved : (k n : ℕ) → n ≡ k * 2 → n / 2 ≡ k
halved k n double = omega arith

pub times : {m n : ℕ} (k : ℕ) → m ≤ n → m * k ≤ n * k
times k within = omega (arith, mul-le-mul_left k within)

product_some : (m n : ℕ) → 0 < m → 0 < n → 0 < m * n
product_some m n positive other = omega (arith, times n (let h : 1 ≤ m = omega arith in h))

-- over one unit the order is kept, where either number is told in smaller steps
near_same : (half d m n : ℕ) → 0 < half → 0 < d → m ≤ n * d →
    near (half * 2 * d) m ≤ near (half * 2) n
near_same half d m n positive some_d within =
    let halves : half * 2 * d / 2 ≡ half * d = halved (half * d) (half * 2 * d) (omega arith) in
    let above = high (half * 2) n (omega arith) in
    let half_is : half * 2 / 2 ≡ half = halved half (half * 2) (omega arith) in
    let next : n + half + 1 ≤ (near (half * 2) n + 1) * (half * 2) =
    omega (arith, above, half_is) in
    let product : d * (n + half + 1) ≤ d * ((near (half * 2) n + 1) * (half * 2)) =
    mul-le-mul_left d next in
    let unit : 0 < half * 2 * d = product_some (half * 2) d (omega arith) some_d in
    let below : m + half * 2 * d / 2 < (near (half * 2) n + 1) * (half * 2 * d) =
    omega (arith, product, halves, within, some_d) in
    let less : near (half * 2 * d) m < near (half * 2) n + 1 = (div-lt_iff_lt-mul unit).1 below in
    omega (arith, less)

near_finer : (half d m n : ℕ) → 0 < half → 0 < d → m * d ≤ n →
    near (half * 2) m ≤ near (half * 2 * d) n
near_finer half d m n positive some_d within =
    let halves : half * 2 * d / 2 ≡ half * d = halved (half * d) (half * 2 * d) (omega arith) in
    let half_is : half * 2 / 2 ≡ half = halved half (half * 2) (omega arith) in
    let least : near (half * 2) m * (half * 2) ≤ m + half =
    omega (arith, low (half * 2) m, half_is) in
    let product : d * (near (half * 2) m * (half * 2)) ≤ d * (m + half) =
    mul-le-mul_left d least in
    let unit : 0 < half * 2 * d = product_some (half * 2) d (omega arith) some_d in
    le-div (near (half * 2) m) (n + half * 2 * d / 2) (half * 2 * d) unit
    (omega (arith, product, halves, within))

-- a power of ten in two factors
pub factors : (a b c : ℕ) → a + b ≡ c → 10 ^ a * 10 ^ b ≡ 10 ^ c
factors a b c sum = sym (pow-add 10 a b) ∙ ap (λ k. 10 ^ k) sum

-- half of a power of ten
even : (k : ℕ) → 0 < k → 10 ^ (k - 1) * 5 * 2 ≡ 10 ^ k
even k positive =
    let power : 10 ^ (k - 1 + 1) ≡ 10 ^ (k - 1) * 10 = pow_more 10 (k - 1) in
    let same : k - 1 + 1 ≡ k = omega arith in
    omega (arith, power, ap (λ j. 10 ^ j) same)

-- a number above 0 with so many digits
pub record HasDigits (n count : ℕ) : Type 0 where
  pub positive : 0 < count
  pub least : 10 ^ (count - 1) ≤ n
  pub below : n < 10 ^ count

pub nearest_most : (digits n count : ℕ) → HasDigits n count →
    nearest (count - digits) n ≤ 10 ^ (count - (count - digits))
nearest_most digits n count has =
    let power : 10 ^ (count - (count - digits)) * 10 ^ (count - digits) ≡ 10 ^ count =
    factors (count - (count - digits)) (count - digits) count (omega arith) in
    near_up (10 ^ (count - digits)) n (10 ^ (count - (count - digits))) (some (count - digits))
    (omega (arith, power, has.below))

nearest_least : (digits n count : ℕ) → 0 < digits → HasDigits n count →
    10 ^ (count - 1 - (count - digits)) ≤ nearest (count - digits) n
nearest_least digits n count any has =
    let power : 10 ^ (count - 1 - (count - digits)) * 10 ^ (count - digits) ≡ 10 ^ (count - 1) =
    factors (count - 1 - (count - digits)) (count - digits) (count - 1)
    (omega (arith, any, has.positive)) in
    near_down (10 ^ (count - digits)) n (10 ^ (count - 1 - (count - digits)))
    (some (count - digits)) (omega (arith, power, has.least))

-- what a number is rounded to, in units that are told by their power
abbrev pub rounded_in : ℕ → ℕ → ℕ → ℕ → ℕ
rounded_in digits n count s = nearest (count - digits) n * 10 ^ (count - digits + s)

-- a number that is longer is no less, whatever both are rounded to
by_length : (digits m n s t dm dn : ℕ) → 0 < digits → HasDigits m dm → HasDigits n dn →
    dm + s < dn + t → rounded_in digits m dm s ≤ rounded_in digits n dn t
by_length digits m n s t dm dn any has_m has_n shorter =
    let upper : nearest (dm - digits) m * 10 ^ (dm - digits + s)
    ≤ 10 ^ (dm - (dm - digits)) * 10 ^ (dm - digits + s) =
    times (10 ^ (dm - digits + s)) (nearest_most digits m dm has_m) in
    let lower : 10 ^ (dn - 1 - (dn - digits)) * 10 ^ (dn - digits + t)
    ≤ nearest (dn - digits) n * 10 ^ (dn - digits + t) =
    times (10 ^ (dn - digits + t)) (nearest_least digits n dn any has_n) in
    let top = factors (dm - (dm - digits)) (dm - digits + s) (dm + s) (omega arith) in
    let bottom =
    factors (dn - 1 - (dn - digits)) (dn - digits + t) (dn - 1 + t)
    (omega (arith, any, has_n.positive)) in
    let within : dm + s ≤ dn - 1 + t = omega (arith, shorter, has_n.positive) in
    let powers : 10 ^ (dm + s) ≤ 10 ^ (dn - 1 + t) = pow-le-pow_right (omega arith) within in
    omega (arith, upper, lower, top, bottom, powers)

not_longer : (m n s t dm dn : ℕ) → HasDigits m dm → HasDigits n dn → m * 10 ^ s ≤ n * 10 ^ t →
    dm + s ≤ dn + t
not_longer m n s t dm dn has_m has_n within = elim (cases_lt (dn + t) (dm + s)) [
  | inl longer ↦
      let above : (n + 1) * 10 ^ t ≤ 10 ^ dn * 10 ^ t =
      times (10 ^ t) (let h : n + 1 ≤ 10 ^ dn = omega (arith, has_n.below) in h) in
      let below : 10 ^ (dm - 1) * 10 ^ s ≤ m * 10 ^ s = times (10 ^ s) has_m.least in
      let top = factors dn t (dn + t) (omega arith) in
      let bottom = factors (dm - 1) s (dm - 1 + s) (omega arith) in
      let least : dn + t ≤ dm - 1 + s = omega (arith, longer, has_m.positive) in
      let powers : 10 ^ (dn + t) ≤ 10 ^ (dm - 1 + s) = pow-le-pow_right (omega arith) least in
      absurd (omega (arith, above, below, top, bottom, powers, within, some t))
  | inr within_it ↦ omega arith
]

-- no digits more than are kept, and a number stays
pub kept_value : (digits n count s : ℕ) → count ≤ digits → rounded_in digits n count s ≡ n * 10 ^ s
kept_value digits n count s kept =
    let none : count - digits ≡ 0 = omega arith in
    let itself : nearest 0 n ≡ n = omega arith in
    let plain : 0 + s ≡ s = omega arith in
    ap (λ k. nearest k n * 10 ^ (k + s)) none ∙ λ i. itself i * 10 ^ plain i

-- numbers of one length, of which one has no digits more than are kept
left_kept : (digits m n s t dm dn : ℕ) → dm ≤ digits → digits < dn → dm + s ≡ dn + t →
    m * 10 ^ s ≤ n * 10 ^ t → rounded_in digits m dm s ≤ rounded_in digits n dn t
left_kept digits m n s t dm dn kept more same within =
    let p = dn - digits in
    let x = m * 10 ^ (s - (p + t)) in
    let whole = factors (s - (p + t)) (p + t) s (omega arith) in
    let unit = factors p t (p + t) (omega arith) in
    let scaled : x * 10 ^ p * 10 ^ t ≤ n * 10 ^ t =
    omega (arith, within, ap (λ k. m * k) whole, ap (λ k. x * k) unit) in
    let least : x * 10 ^ p ≤ n = le_of_mul-le-mul_right scaled (some t) in
    let near_it : x ≤ nearest p n = near_down (10 ^ p) n x (some p) least in
    omega (
      arith,
      times (10 ^ (p + t)) near_it,
      ap (λ k. m * k) whole,
      kept_value digits m dm s kept,
    )

right_kept : (digits m n s t dm dn : ℕ) → digits < dm → dn ≤ digits → dm + s ≡ dn + t →
    m * 10 ^ s ≤ n * 10 ^ t → rounded_in digits m dm s ≤ rounded_in digits n dn t
right_kept digits m n s t dm dn more kept same within =
    let p = dm - digits in
    let y = n * 10 ^ (t - (p + s)) in
    let whole = factors (t - (p + s)) (p + s) t (omega arith) in
    let unit = factors p s (p + s) (omega arith) in
    let scaled : m * 10 ^ s ≤ y * 10 ^ p * 10 ^ s =
    omega (arith, within, ap (λ k. n * k) whole, ap (λ k. y * k) unit) in
    let most : m ≤ y * 10 ^ p = le_of_mul-le-mul_right scaled (some s) in
    let near_it : nearest p m ≤ y = near_up (10 ^ p) m y (some p) most in
    omega (
      arith,
      times (10 ^ (p + s)) near_it,
      ap (λ k. n * k) whole,
      kept_value digits n dn t kept,
    )

both_kept : (digits m n s t dm dn : ℕ) → dm ≤ digits → dn ≤ digits →
    m * 10 ^ s ≤ n * 10 ^ t → rounded_in digits m dm s ≤ rounded_in digits n dn t
both_kept digits m n s t dm dn kept other within =
    omega (arith, within, kept_value digits m dm s kept, kept_value digits n dn t other)

-- numbers of one length with more digits are rounded in one unit
finer : (m n p q s t d : ℕ) → 0 < p → q ≡ p + d → s ≡ t + d → m * 10 ^ s ≤ n * 10 ^ t →
    nearest p m ≤ nearest q n
finer m n p q s t d positive places shifts within =
    let half = 10 ^ (p - 1) * 5 in
    let unit : half * 2 ≡ 10 ^ p = even p positive in
    let other : half * 2 * 10 ^ d ≡ 10 ^ q =
    ap (λ k. k * 10 ^ d) unit ∙ factors p d q (sym places) in
    let parts = factors d t s (omega (arith, shifts)) in
    let scaled : m * 10 ^ d * 10 ^ t ≤ n * 10 ^ t = omega (arith, within, ap (λ k. m * k) parts) in
    let least : m * 10 ^ d ≤ n = le_of_mul-le-mul_right scaled (some t) in
    let half_some : 0 < half = omega (arith, some (p - 1)) in
    let known = near_finer half (10 ^ d) m n half_some (some d) least in
    omega (arith, known, ap (λ u. near u m) unit, ap (λ u. near u n) other)

coarser : (m n p q s t d : ℕ) → 0 < q → p ≡ q + d → t ≡ s + d → m * 10 ^ s ≤ n * 10 ^ t →
    nearest p m ≤ nearest q n
coarser m n p q s t d positive places shifts within =
    let half = 10 ^ (q - 1) * 5 in
    let unit : half * 2 ≡ 10 ^ q = even q positive in
    let other : half * 2 * 10 ^ d ≡ 10 ^ p =
    ap (λ k. k * 10 ^ d) unit ∙ factors q d p (sym places) in
    let parts = factors d s t (omega (arith, shifts)) in
    let scaled : m * 10 ^ s ≤ n * 10 ^ d * 10 ^ s = omega (arith, within, ap (λ k. n * k) parts) in
    let most : m ≤ n * 10 ^ d = le_of_mul-le-mul_right scaled (some s) in
    let half_some : 0 < half = omega (arith, some (q - 1)) in
    let known = near_same half (10 ^ d) m n half_some (some d) most in
    omega (arith, known, ap (λ u. near u m) other, ap (λ u. near u n) unit)

none_kept : (digits m n s t dm dn : ℕ) → digits < dm → digits < dn → dm + s ≡ dn + t →
    m * 10 ^ s ≤ n * 10 ^ t → rounded_in digits m dm s ≤ rounded_in digits n dn t
none_kept digits m n s t dm dn more other same within =
    let power : dm - digits + s ≡ dn - digits + t = omega arith in
    let close : nearest (dm - digits) m ≤ nearest (dn - digits) n = elim (cases_lt t s) [
      | inl above ↦
          finer m n (dm - digits) (dn - digits) s t (s - t) (omega arith) (omega arith)
          (omega arith) within
      | inr at_most ↦
          coarser m n (dm - digits) (dn - digits) s t (t - s) (omega arith) (omega arith)
          (omega arith) within
    ] in
    omega (
      arith,
      times (10 ^ (dm - digits + s)) close,
      ap (λ k. nearest (dn - digits) n * 10 ^ k) power,
    )

-- rounding keeps the order of numbers above 0
pub in_order : (digits m n s t dm dn : ℕ) → 0 < digits → HasDigits m dm → HasDigits n dn →
    m * 10 ^ s ≤ n * 10 ^ t → rounded_in digits m dm s ≤ rounded_in digits n dn t
in_order digits m n s t dm dn any has_m has_n within = elim (cases_lt (dm + s) (dn + t)) [
  | inl shorter ↦ by_length digits m n s t dm dn any has_m has_n shorter
  | inr above ↦
      let same : dm + s ≡ dn + t =
      omega (arith, above, not_longer m n s t dm dn has_m has_n within) in
      elim (cases_lt digits dm) [
        | inl more_m ↦ elim (cases_lt digits dn) [
          | inl more_n ↦ none_kept digits m n s t dm dn more_m more_n same within
          | inr kept_n ↦ right_kept digits m n s t dm dn more_m kept_n same within
        ]
        | inr kept_m ↦ elim (cases_lt digits dn) [
          | inl more_n ↦ left_kept digits m n s t dm dn kept_m more_n same within
          | inr kept_n ↦ both_kept digits m n s t dm dn kept_m kept_n within
        ]
      ]
]
