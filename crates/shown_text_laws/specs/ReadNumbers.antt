-- Numbers that are read of the texts that show them.
use Rattle.std.specs.Prelude.{ℕ, ◌≡◌, ◌*◌, ◌^◌, ◌<◌, ◌≤◌, Bool, List, Some, ℤ, pos, neg_ℤ, ◌-ℤ◌}
use Rattle.std.specs.Prelude.{◌*ℤ◌, nat_abs}
use Rattle.cell_data.specs.Words.{number}
use Rattle.decimals.specs.Words.{decimal_from, decimal_of, rounded_number}
use Rattle.shown_text.specs.Words.{shown_digits, shown_text}
use Rattle.shown_text_laws.specs.NumberCodes.{IsShownBySection}

-- Two numbers differ by half a unit of so many places behind the point at most. They are told over
-- one power of ten, in which that unit is 10 ^ u.
abbrev pub IsWithinHalfAPlace : ℕ → ℤ × ℤ → ℤ × ℤ → Type 0
IsWithinHalfAPlace places a b =
    (s t u : ℕ) → (a.1 -ℤ pos s) ≡ (neg_ℤ (pos places) -ℤ pos u) →
    (b.1 -ℤ pos t) ≡ (neg_ℤ (pos places) -ℤ pos u) →
    nat_abs ((a.0 *ℤ pos (10 ^ s)) -ℤ (b.0 *ℤ pos (10 ^ t))) * 2 ≤ 10 ^ u

-- a text writes a number that differs from another one by half a unit of so many places at most
pub record WritesNear (text : List ℕ) (places : ℕ) (other : ℤ × ℤ) : Type 0 where
  pub written : ℤ × ℤ
  pub read : decimal_of text ≡ Some written
  pub near : IsWithinHalfAPlace places written other

-- What is shown of a number under a code is read as a number that differs from its fifteen digits
-- by half a unit of so many places at most. The whole number has no more bits than decimals have:
-- more than fifteen digits are kept of one with more than 64, and of 2 ^ 127 * 10 ^ 49 more than a
-- decimal holds. General shows what the section doesn't: 1E+407 of 1000001 times ten to 401.
abbrev pub IsReadBackNear : List ℕ → ℕ → ℤ × ℤ → Type 0
IsReadBackNear code places exact =
    (is_1904 : Bool) → nat_abs exact.0 < 2 ^ 128 → IsShownBySection exact →
    WritesNear (shown_text is_1904 code (number exact)) places (shown_digits exact)

-- What is shown of a number under a code is read as the nearest number of so many digits to its
-- fifteen, or as none where its power of ten fits no decimal. Whole numbers are told by 64 digits
-- at most: seven are kept of 1000001 * 10 ^ 107, and zeros alone are shown of the power 10 ^ 64.
abbrev pub IsReadInDigits : List ℕ → ℕ → ℤ × ℤ → Type 0
IsReadInDigits code digits exact =
    (is_1904 : Bool) → nat_abs exact.0 < 2 ^ 128 → nat_abs exact.1 < 2 ^ 127 →
    decimal_of (shown_text is_1904 code (number exact))
    ≡ decimal_from (rounded_number digits (shown_digits exact))
