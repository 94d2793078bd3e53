-- Numbers that digits spell, cut at the least number above every character's.
use Rattle.std.proofs.Common.{◌≡◌, ℕ, ◌+◌, ◌*◌, ◌<◌, ◌≤◌, min, ◌&&◌, List, length, take, drop}
use Rattle.std.proofs.Common.{get_or, sym, ap, ◌∙◌, arith, ⊎_elim}
use Rattle.std.specs.Prelude.{nat_lt}
use Rattle.std.specs.Char.{digit_value}
use Rattle.std.specs.Str.Parse.{digits_value}
use Rattle.std.proofs.Math.Nat.{mul-le-mul_left}
use Rattle.std.proofs.lemmas.Bool.{cases_lt}
use Rattle.std.proofs.lemmas.Int.Digits.{digits_value_more}
use Rattle.std.proofs.lemmas.List.{at_drop_more}
use Rattle.attr_text.specs.Text.{all_digits}

-- the number, or 0x11_0000 where it is larger
abbrev pub capped : ℕ → ℕ
capped n = min n 0x11_0000

capped-times : (v b d : ℕ) → 1 ≤ b → capped (capped v * b + d) ≡ capped (v * b + d)
capped-times v b d positive =
    ⊎_elim
    (λ less. let same : capped v ≡ v = omega arith in ap (λ n. capped (n * b + d)) same)
    (λ more.
    let most : capped v ≡ 0x11_0000 = omega arith in
    let product = mul-le-mul_left b more in
    ap (λ n. capped (n * b + d)) most ∙ omega (arith, product))
    (cases_lt v 0x11_0000)

-- one more digit
pub capped-more : (base : ℕ) (digits : List ℕ) (i number digit : ℕ) → 1 ≤ base → i < length digits →
    number ≡ capped (digits_value base (take i digits))
    → digit ≡ digit_value (get_or digits i 0) →
    capped (number * base + digit) ≡ capped (digits_value base (take (i + 1) digits))
capped-more base digits i number digit positive within so_far next =
    ap (λ n. capped (n * base + digit)) so_far
    ∙ capped-times (digits_value base (take i digits)) base digit positive
    ∙ ap (λ d. capped (digits_value base (take i digits) * base + d)) next
    ∙ ap capped (sym (digits_value_more base digits i within))

-- the digits from i on: the one at i, and the others
pub all_digits-more : (base : ℕ) (digits : List ℕ) (i : ℕ) → i < length digits
    → all_digits base (drop i digits)
    ≡ (nat_lt (digit_value (get_or digits i 0)) base && all_digits base (drop (i + 1) digits))
all_digits-more base digits i within = at_drop_more (all_digits base) digits i 0 within
