-- The nearest fraction, denominator by denominator.
use Rattle.std.proofs.Common.{◌≡◌, ℕ, suc, ◌+◌, ◌-◌, ◌^◌, ◌<◌, ◌≤◌, ap, sym, ◌∙◌, arith, ℤ, pos}
use Rattle.std.proofs.Common.{negsuc, ◌<ℤ◌, ◌≤ℤ◌}
use Rattle.std.specs.Prelude.{nat_abs, nat_lt}
use Rattle.std.proofs.Math.Nat.{pow-le-pow_right}
use Rattle.std.proofs.lemmas.Int.{ints}
use Rattle.decimals.proofs.Rounded.{unit_some}
use Rattle.excel_dates.proofs.SerialSteps.{by_true, by_false, is_less, not_less}
use Rattle.std.specs.List.{fold, range_with_len}
use Rattle.shown_text.specs.declared.fractions.Fraction.{Fraction}
use Rattle.shown_text.specs.FractionTexts.{fraction_over, nearer, FractionParts, parts_text}
use Rattle.shown_text.specs.FractionTexts.{unit_parts, unparted}

-- what the search from a denominator on makes of a fraction
abbrev pub best_from : ℕ → ℕ → ℕ → Fraction → ℕ → Fraction
best_from n unit most f under =
    fold (λ g d. nearer n unit g (fraction_over n unit d)) f
    (range_with_len under (most + 1 - under))

-- one denominator more
pub best_step : (n unit most under : ℕ) (f : Fraction) → under ≤ most →
    best_from n unit most f under
    ≡ best_from n unit most (nearer n unit f (fraction_over n unit under)) (under + 1)
best_step n unit most under f within =
    let next = nearer n unit f (fraction_over n unit under) in
    let more : most + 1 - under ≡ suc (most - under) = omega (arith, within) in
    let left : most - under ≡ most + 1 - (under + 1) = omega (arith, within) in
    ap (λ k. fold (λ g d. nearer n unit g (fraction_over n unit d)) f (range_with_len under k)) more
    ∙ ap
    (λ k. fold (λ g d. nearer n unit g (fraction_over n unit d)) next
    (range_with_len (under + 1) k))
    left

-- a unit of thirty places at most
pub unit_fits : (places : ℕ) → places ≤ 30 → 10 ^ places ≤ 10 ^ 30
unit_fits places few = pow-le-pow_right (omega arith) few

-- a size by the sign of its power
pub whole_size : (parts : FractionParts) (n count : ℕ) (power : ℤ) → pos 0 ≤ℤ power →
    count ≡ nat_abs power → unparted parts n count ≡ parts_text parts n power
whole_size parts n count (pos p) above is = ap (unparted parts n) is
whole_size parts n count (negsuc p) above is = absurd (omega (arith, ints))

pub parted_size : (parts : FractionParts) (n unit places : ℕ) (power : ℤ) → power <ℤ pos 0 →
    places ≡ nat_abs power → places ≤ 30 → unit ≡ 10 ^ places →
    unit_parts parts n unit ≡ parts_text parts n power
parted_size parts n unit places (pos p) below is few unit_is = absurd (omega (arith, ints))
parted_size parts n unit places (negsuc p) below is few unit_is =
    let same : places ≡ p + 1 = omega (arith, is) in
    ap (unit_parts parts n) (unit_is ∙ ap (λ k. 10 ^ k) same)
    ∙ sym (by_true (nat_lt p 30) (unit_parts parts n (10 ^ (p + 1))) (unparted parts 0 0)
    (is_less p 30 (omega (arith, same, few))))

pub tiny_size : (parts : FractionParts) (n places : ℕ) (power : ℤ) → power <ℤ pos 0 →
    places ≡ nat_abs power → 30 < places → unparted parts 0 0 ≡ parts_text parts n power
tiny_size parts n places (pos p) below is many = absurd (omega (arith, ints))
tiny_size parts n places (negsuc p) below is many =
    sym (by_false (nat_lt p 30) (unit_parts parts n (10 ^ (p + 1))) (unparted parts 0 0)
    (not_less p 30 (omega (arith, is, many))))

pub ruleset size_steps = (unit_some, unit_fits, whole_size, tiny_size)
