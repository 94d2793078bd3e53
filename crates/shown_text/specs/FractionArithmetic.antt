-- How near fractions are to a number over a unit, and the denominators that a section has.
use Rattle.std.specs.Prelude.{ℕ, ◌+◌, ◌-◌, ◌*◌, ◌/◌, ◌^◌, List, length, take, min}
use Rattle.std.specs.List.{fold}
use Rattle.format_codes.specs.declared.piece.CodePiece.{CodePiece}
use Rattle.format_codes.specs.declared.piece.CodePiece.TheVariants as piece

-- the numerator of the fraction of this denominator that is nearest to n / unit, the greater of two
-- that are as near
abbrev pub nearest_over : ℕ → ℕ → ℕ → ℕ
nearest_over n unit under = (2 * n * under + unit) / (2 * unit)

-- how far over / under is from n / unit, over its denominator and the unit
abbrev pub distance : ℕ → ℕ → ℕ → ℕ → ℕ
distance n unit over under = (n * under - over * unit) + (over * unit - n * under)

-- the value of a digit of a denominator that is given
abbrev pub figure_value : CodePiece → ℕ
figure_value (piece.Figure c) = c - 48
figure_value other = 0

-- the number that is given as the denominator, by its four digits at most
abbrev pub fixed_denominator : List CodePiece → ℕ
fixed_denominator under = fold (λ n p. n * 10 + figure_value p) 0 (take 4 under)

-- the greatest denominator that has so many places, four at most
abbrev pub most_denominator : List CodePiece → ℕ
most_denominator under = 10 ^ min 4 (length under) - 1
