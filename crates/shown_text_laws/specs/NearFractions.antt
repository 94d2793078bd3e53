-- Fractions that are near to a number.
use Rattle.std.specs.Prelude.{ℕ, ◌≡◌, ◌+◌, ◌*◌, ◌<◌, ◌≤◌, List, ◌∷◌, ◌++◌}
use Rattle.std.specs.Fmt.{decimal}
use Rattle.shown_text.specs.Words.{distance}
use Rattle.shown_text.specs.declared.fractions.Fraction.{Fraction}

-- A fraction has a denominator up to `most`, and none of such a denominator is nearer to n / unit.
-- What two fractions differ by from it is told over the product of their denominators.
pub record HasNoneNearer (n unit most : ℕ) (f : Fraction) : Type 0 where
  pub positive : 0 < f.under
  pub within : f.under ≤ most
  pub none_nearer : (over under : ℕ) → 0 < under → under ≤ most
      → distance n unit f.over f.under * under ≤ distance n unit over under * f.under

-- a text as `3 1/4` is a whole number and a fraction, which together are a number to which no
-- fraction with a denominator up to 9 is nearer
pub record IsNearestMixed (n unit : ℕ) (text : List ℕ) : Type 0 where
  pub whole : ℕ
  pub over : ℕ
  pub under : ℕ
  pub written : text
      ≡ decimal whole ++ 32 ∷ (decimal over ++ 47 ∷ decimal under)
  pub nearest : HasNoneNearer n unit 9 (record { over = whole * under + over; under = under })
