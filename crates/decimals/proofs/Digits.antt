-- What is kept of digits while they are read.
use Rattle.std.proofs.Common.{◌≡◌, ℕ, zero, suc, ◌+◌, ◌-◌, ◌*◌, ◌^◌, ◌<◌, ◌≤◌, true, false, List}
use Rattle.std.proofs.Common.{[], ◌∷◌, length, take, drop, get_or, sym, ap, ◌∙◌, arith}
use Rattle.std.specs.Char.{is_ascii_digit}
use Rattle.std.specs.List.{prefix_len}
use borrow.Author.Count.{below_more}
use Rattle.std.proofs.Math.Nat.{one-le-pow, pow-le-pow_right, mul-le-mul_left, le-mul_of_pos_right}
use Rattle.std.proofs.lemmas.Bool.Decides.{nat_tests}
use Rattle.std.proofs.lemmas.Grind.{pow_more}
use Rattle.std.proofs.lemmas.List.Sums.{fold_more, prefix_len_is}
use Rattle.decimals.specs.declared.significand.Significand.{Significand}
use Rattle.decimals.specs.Decimals.{digits_in_front, behind_digits}
use Rattle.decimals.specs.Significand.{digit_added, digits_added}

-- a number grows with the power
pub scaled_over : (limit n i j : ℕ) → i < j → limit ≤ (n * 10 ^ i) * 10 → limit ≤ n * 10 ^ j
scaled_over limit n i j below over =
    let within : i + 1 ≤ j = omega arith in
    let more : 10 ^ (i + 1) ≤ 10 ^ j = pow-le-pow_right (omega arith) within in
    let step : 10 ^ (i + 1) ≡ 10 ^ i * 10 = pow_more 10 i in
    let product : n * (10 ^ i * 10) ≤ n * 10 ^ j = mul-le-mul_left n (rw step at more) in
    omega (arith, product)

-- a digit more leaves a number at least as large
digit_grows : (before : Significand) (digit : ℕ) → before.number ≤ (digit_added before digit).number
digit_grows before digit =
    let product : before.number ≤ before.number * 10 ^ (before.zeros + 1) =
    le-mul_of_pos_right before.number (one-le-pow (before.zeros + 1) 10 (omega arith)) in
    grind (arith, nat_tests, product)

pub digits_grow : (before : Significand) (digits : List ℕ) →
    before.number ≤ (digits_added before digits).number
digits_grow before [] = omega arith
digits_grow before (b ∷ bs) =
    omega (arith, digit_grows before (b - 48), digits_grow (digit_added before (b - 48)) bs)

pub front_grows : (before : Significand) (digits : List ℕ) (i j : ℕ) → i ≤ j →
    (digits_added before (take i digits)).number ≤ (digits_added before (take j digits)).number
front_grows before digits zero j within = digits_grow before (take j digits)
front_grows before digits (suc i) zero within = absurd (omega arith)
front_grows before [] (suc i) (suc j) within = omega arith
front_grows before (b ∷ bs) (suc i) (suc j) within =
    front_grows (digit_added before (b - 48)) bs i j (omega arith)

-- digits up to a place stand in front
pub digits_within : (text : List ℕ) (i : ℕ) → i ≤ length text →
    ((k : ℕ) → k < i → is_ascii_digit (get_or text k 0) ≡ true) → i ≤ prefix_len is_ascii_digit text
digits_within [] i within digits = omega arith
digits_within (b ∷ bs) zero within digits = omega arith
digits_within (b ∷ bs) (suc i) within digits =
    let first : is_ascii_digit b ≡ true = digits 0 (omega arith) in
    let rest : i ≤ prefix_len is_ascii_digit bs =
    digits_within bs i (omega arith) (λ k below. digits (suc k) (omega arith)) in
    simp first (omega (arith, rest))

-- one digit more
pub digit_more : (before : Significand) (text : List ℕ) (i : ℕ) → i < length text →
    digits_added before (take (i + 1) text) ≡ digit_added (digits_added before (take i text))
    (get_or text i 0 - 48)
digit_more before text i within = fold_more (λ s b. digit_added s (b - 48)) before text i 0 within

pub scaled_more : (n i p q : ℕ) → p ≡ n * 10 ^ i → q ≡ p * 10 → q ≡ n * 10 ^ (i + 1)
scaled_more n i p q known next =
    let step : 10 ^ (i + 1) ≡ 10 ^ i * 10 = pow_more 10 i in
    rw (step, next, known) (omega arith)

-- what the number is at the end of the digits in front
pub front_is : (text : List ℕ) (i : ℕ) → i ≤ length text →
    ((k : ℕ) → k < i → is_ascii_digit (get_or text k 0) ≡ true) →
    (i < length text → is_ascii_digit (get_or text i 0) ≡ false) →
    prefix_len is_ascii_digit text ≡ i
front_is text i within digits stops = prefix_len_is is_ascii_digit text i 0 within digits stops

-- a number that is too large stays so to the end of the digits in front
pub front_over : (limit : ℕ) (before : Significand) (text : List ℕ) (i : ℕ) → i < length text →
    ((k : ℕ) → k < i → is_ascii_digit (get_or text k 0) ≡ true) →
    is_ascii_digit (get_or text i 0) ≡ true →
    limit ≤ (digit_added (digits_added before (take i text)) (get_or text i 0 - 48)).number →
    limit ≤ (digits_added before (digits_in_front text)).number
front_over limit before text i within digits digit over =
    let enough : i + 1 ≤ prefix_len is_ascii_digit text =
    digits_within text (i + 1) (omega arith)
    (λ k below. below_more
    (λ k. is_ascii_digit (get_or text k 0) ≡ true) i digits digit k below) in
    let more : digits_added before (take (i + 1) text) ≡ digit_added
    (digits_added before (take i text)) (get_or text i 0 - 48) =
    digit_more before text i within in
    let grows = front_grows before text (i + 1) (prefix_len is_ascii_digit text) enough in
    omega (arith, grows, ap (λ (s : Significand). s.number) more)

-- what was read of the digits in front, and what stands behind them
pub front_read : (before s : Significand) (text behind : List ℕ) (i : ℕ) →
    prefix_len is_ascii_digit text ≡ i → s ≡ digits_added before (take i text) →
    behind ≡ drop i text →
    (s ≡ digits_added before (digits_in_front text)) × (behind ≡ behind_digits text)
front_read before s text behind i len read rest = (
  read ∙ ap (λ k. digits_added before (take k text)) (sym len),
  rest
      ∙ ap (λ k. drop k text) (sym len),
)

pub at_least : (limit n : ℕ) → (n < limit → ⊥) → limit ≤ n
at_least limit n not_below = omega arith
