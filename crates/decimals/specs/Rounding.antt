-- The nearest decimal of so many significant digits. A number is a pair: a whole number, and the
-- power of ten that it is taken times.
use Rattle.std.specs.Prelude.{ℕ, ◌≡◌, ◌+◌, ◌-◌, ◌*◌, ◌/◌, ◌^◌, ◌<◌, ◌≤◌, ◌==◌, if◌then◌else◌}
use Rattle.std.specs.Prelude.{length, ℤ, pos, ◌+ℤ◌, ◌-ℤ◌, ◌*ℤ◌, ◌≤ℤ◌, nat_abs}
use Rattle.std.specs.Fmt.{decimal}
use Rattle.std.specs.Int.{is_negative}
use Rattle.decimals.specs.Decimals.{with_sign}

-- how many decimal digits write a whole number; one writes 0
abbrev pub digit_count : ℕ → ℕ
digit_count n = length (decimal n)

-- how many digits of a whole number stand behind the first of them
abbrev pub digits_behind : ℕ → ℕ → ℕ
digits_behind digits n = digit_count n - digits

-- the whole number that is nearest to n over 10 ^ places, and the greater of two that are as near
abbrev pub nearest : ℕ → ℕ → ℕ
nearest places n = (n + 10 ^ places / 2) / 10 ^ places

-- the nearest number of so many significant digits, and of two that are as near the one that is
-- further from 0; of no digits there is 0 alone
unfoldable pub rounded_number : ℕ → ℤ × ℤ → ℤ × ℤ
rounded_number digits n =
    if digits == 0 then (pos 0, pos 0)
    else (
      with_sign (is_negative n.0)
          (nearest (digits_behind digits (nat_abs n.0)) (nat_abs n.0)),
      n.1 +ℤ pos (digits_behind digits (nat_abs n.0)),
    )

-- a number is no greater than another: where both are told over one power of ten, its whole number
-- is no greater
abbrev pub IsAtMost : ℤ × ℤ → ℤ × ℤ → Type 0
IsAtMost a b =
    (s t : ℕ) → (a.1 -ℤ pos s) ≡ (b.1 -ℤ pos t) →
    (a.0 *ℤ pos (10 ^ s)) ≤ℤ (b.0 *ℤ pos (10 ^ t))

-- a number and the one that it is rounded to differ by at most half a unit of the last digit
abbrev pub IsWithinHalfAUnit : ℕ → ℤ × ℤ → Type 0
IsWithinHalfAUnit digits n =
    nat_abs
    (n.0 -ℤ ((rounded_number digits n).0 *ℤ pos (10 ^ digits_behind digits (nat_abs n.0)))) * 2
    ≤ 10 ^ digits_behind digits (nat_abs n.0)

-- no number of so many digits is nearer to a number than the one that it is rounded to: told over
-- one power of ten, that one's difference is no greater
abbrev pub NoneIsNearer : ℕ → ℤ × ℤ → Type 0
NoneIsNearer digits n =
    (other : ℤ × ℤ) (s t : ℕ) → nat_abs other.0 < 10 ^ digits →
    (n.1 -ℤ pos s) ≡ (other.1 -ℤ pos t) →
    nat_abs
    ((n.0 *ℤ pos (10 ^ s))
    -ℤ ((rounded_number digits n).0 *ℤ pos (10 ^ (digits_behind digits (nat_abs n.0) + s))))
    ≤ nat_abs ((n.0 *ℤ pos (10 ^ s)) -ℤ (other.0 *ℤ pos (10 ^ t)))
