-- No fraction is nearer than the one that is found.
use Rattle.std.proofs.Common.{◌≡◌, ◌+◌, ◌-◌, ◌*◌, ◌<◌, ◌≤◌, ℕ, zero, suc, Bool, true, false, cond}
use Rattle.std.proofs.Common.{refl, ap, sym, subst, arith, inl, inr}
use Rattle.std.specs.Prelude.{nat_lt}
use Rattle.std.specs.List.{fold, range_with_len}
use Rattle.std.proofs.Math.Nat.{div-mul-le_self, lt-div-mul-add, le_of_mul-le-mul_right}
use Rattle.std.proofs.Math.Nat.{mul-le-mul_right}
use Rattle.std.proofs.lemmas.Bool.{cases_lt}
use Rattle.std.proofs.lemmas.Bool.Decides.{nat_tests}
use Rattle.shown_text.specs.Words.{distance, nearest_over, fraction_over, nearer, nearest_fraction}
use Rattle.shown_text.specs.declared.fractions.Fraction.{Fraction}
use Rattle.shown_text_laws.specs.NearFractions.{HasNoneNearer}

-- no multiple of a unit is nearer than the nearest one
multiple : (x u q a : ℕ) → q * (2 * u) ≤ 2 * x + u → 2 * x + u < q * (2 * u) + 2 * u
    → (x - q * u) + (q * u - x) ≤ (x - a * u) + (a * u - x)
multiple x u q a low high = elim (cases_lt a q) [
  | inl below ↦
      let step : (a + 1) * u ≤ q * u = mul-le-mul_right u (let h : a + 1 ≤ q = omega arith in h) in
      omega (arith, step, low, high)
  | inr more ↦ elim (cases_lt q a) [
    | inl above ↦
        let next : q + 1 ≤ a = omega arith in
        let step : (q + 1) * u ≤ a * u = mul-le-mul_right u next in
        omega (arith, step, low, high)
    | inr most ↦
        let same : a ≡ q = omega (arith, more, most) in
        let product : a * u ≡ q * u = ap (λ k. k * u) same in
        omega (arith, product)
  ]
]

-- of one denominator
numerator : (n unit under over : ℕ) → 0 < unit
    → distance n unit (nearest_over n unit under) under ≤ distance n unit over under
numerator n unit under over positive =
    let t = 2 * n * under + unit in
    let some : 0 < 2 * unit = omega (arith, positive) in
    let low : nearest_over n unit under * (2 * unit) ≤ t = div-mul-le_self t (2 * unit) in
    let high : t < nearest_over n unit under * (2 * unit) + 2 * unit = lt-div-mul-add some in
    let same : 2 * n * under ≡ 2 * (n * under) = omega arith in
    multiple (n * under) unit (nearest_over n unit under) over (omega (arith, low, same))
    (omega (arith, high, same))

-- what is known of the best fraction of the denominators so far
record IsBest (n unit count : ℕ) (f : Fraction) : Type 0 where
  positive : 0 < f.under
  within : f.under ≤ count
  best : (under : ℕ) → 0 < under → under ≤ count
      → distance n unit f.over f.under * under
      ≤ distance n unit (nearest_over n unit under) under * f.under

chained : (dg df dd fu gu d : ℕ) → 0 < fu → dg * fu ≤ df * gu → df * d ≤ dd * fu
    → dg * d ≤ dd * gu
chained dg df dd fu gu d some first second =
    let one : dg * fu * d ≤ df * gu * d = mul-le-mul_right d first in
    let two : df * d * gu ≤ dd * fu * gu = mul-le-mul_right gu second in
    let three : dg * d * fu ≤ dd * gu * fu = omega (arith, one, two) in
    le_of_mul-le-mul_right three some

-- the next denominator is the best one, or the one before stays it
chosen_best : (n unit count : ℕ) (test : Bool) (f : Fraction) → IsBest n unit count f
    → (test ≡ true
    → distance n unit (nearest_over n unit (count + 1)) (count + 1) * f.under
    ≤ distance n unit f.over f.under * (count + 1))
    → (test ≡ false
    → distance n unit f.over f.under * (count + 1)
    ≤ distance n unit (nearest_over n unit (count + 1)) (count + 1) * f.under)
    → IsBest n unit (count + 1) (cond test (fraction_over n unit (count + 1)) f)
chosen_best n unit count true f so_far less more =
    let next = distance n unit (nearest_over n unit (count + 1)) (count + 1) in
    record {
      positive = omega arith;
      within = omega arith;
      best = λ under some few. elim (cases_lt count under) [
        | inl last ↦
            let same : under ≡ count + 1 = omega (arith, last, few) in
            let itself : next * (count + 1) ≤ next * (count + 1) = omega arith in
            subst (λ d. next * d ≤ distance n unit (nearest_over n unit d) d * (count + 1))
            (sym same) itself
        | inr earlier ↦
            chained next (distance n unit f.over f.under)
            (distance n unit (nearest_over n unit under) under) f.under (count + 1) under
            so_far.positive (less refl) (so_far.best under some earlier)
      ];
    }
chosen_best n unit count false f so_far less more =
    record {
      positive = so_far.positive;
      within = omega (arith, so_far.within);
      best = λ under some few. elim (cases_lt count under) [
        | inl last ↦
            let same : under ≡ count + 1 = omega (arith, last, few) in
            subst (λ d. distance n unit f.over f.under * d
            ≤ distance n unit (nearest_over n unit d) d * f.under) (sym same) (more refl)
        | inr earlier ↦ so_far.best under some earlier
      ];
    }

at_most_told : (a b : ℕ) → nat_lt a b ≡ true → a ≤ b
at_most_told a b holds = grind (arith, nat_tests)

more_told : (a b : ℕ) → nat_lt a b ≡ false → b ≤ a
more_told a b fails = grind (arith, nat_tests)

next_best : (n unit count : ℕ) (f : Fraction) → IsBest n unit count f
    → IsBest n unit (count + 1) (nearer n unit f (fraction_over n unit (count + 1)))
next_best n unit count f so_far =
    chosen_best n unit count _ f so_far (at_most_told _ _) (more_told _ _)

-- all denominators from there on
all_best : (n unit left count : ℕ) (f : Fraction) → IsBest n unit count f
    → IsBest n unit (count + left)
    (fold (λ g under. nearer n unit g (fraction_over n unit under)) f
    (range_with_len (count + 1) left))
all_best n unit zero count f so_far =
    let same : count + 0 ≡ count = omega arith in
    subst (λ k. IsBest n unit k f) (sym same) so_far
all_best n unit (suc left) count f so_far =
    let next = nearer n unit f (fraction_over n unit (count + 1)) in
    let same : count + suc left ≡ count + 1 + left = omega arith in
    subst (λ k. IsBest n unit k
    (fold (λ g under. nearer n unit g (fraction_over n unit under)) next
    (range_with_len (count + 1 + 1) left))) (sym same)
    (all_best n unit left (count + 1) next (next_best n unit count f so_far))

first_best : (n unit : ℕ) → IsBest n unit 1 (fraction_over n unit 1)
first_best n unit = record {
  positive = omega arith;
  within = omega arith;
  best = λ under some few.
      let same : under ≡ 1 = omega (arith, some, few) in
      let first = distance n unit (nearest_over n unit 1) 1 in
      let itself : first * 1 ≤ first * 1 = omega arith in
      subst (λ d. first * d ≤ distance n unit (nearest_over n unit d) d * 1) (sym same) itself;
}

pub none_nearer : (n unit most : ℕ) → 0 < unit → 0 < most
    → HasNoneNearer n unit most (nearest_fraction n unit most)
none_nearer n unit most positive some =
    let f = nearest_fraction n unit most in
    let same : 1 + (most - 1) ≡ most = omega (arith, some) in
    let found : IsBest n unit most f =
    subst (λ k. IsBest n unit k f) same
    (all_best n unit (most - 1) 1 (fraction_over n unit 1) (first_best n unit)) in
    record {
      positive = found.positive;
      within = found.within;
      none_nearer = λ over under any few.
          let best = found.best under any few in
          let nearest : distance n unit (nearest_over n unit under) under * f.under
          ≤ distance n unit over under * f.under =
          mul-le-mul_right f.under (numerator n unit under over positive) in
          omega (arith, best, nearest);
    }
