-- The conditions of sections, and which numbers meet them. A number is a pair: a whole number, and
-- the power of ten that it is taken times.
use Rattle.std.specs.Prelude.{ℕ, ◌^◌, not, Bool, true, false, List, [], ◌∷◌, Option, Some, None, ℤ}
use Rattle.std.specs.Prelude.{pos, negsuc, ◌-ℤ◌, ◌*ℤ◌}
use Rattle.std.specs.Int.{is_negative, is_positive}
use Rattle.std.specs.declared.cmp.Ordering.{Ordering}
use Rattle.std.specs.Ordering.{int_cmp, is_eq, is_ge, is_gt, is_le, is_lt, is_ne, ordering_reverse}
use Rattle.std.specs.declared.cmp.Ordering.TheVariants.{Less, Greater}
use Rattle.format_codes.specs.declared.piece.CodePiece.{CodePiece}
use Rattle.format_codes.specs.declared.piece.Comparison.{Comparison}
use Rattle.format_codes.specs.declared.piece.Comparison.TheVariants as compares
use Rattle.format_codes.specs.declared.piece.Condition.{Condition}
use Rattle.format_codes.specs.Pieces.{as_condition}

-- the first of two conditions
abbrev pub first_condition : Option Condition → Option Condition → Option Condition
first_condition None other = other
first_condition (Some found) other = Some found

-- the condition of a section: its first one
abbrev pub condition_in : List CodePiece → Option Condition
condition_in [] = None
condition_in (first ∷ others) = first_condition (as_condition first) (condition_in others)

-- a whole number, and 0 in place of one below 0
abbrev pub positive_part : ℤ → ℕ
positive_part (pos n) = n
positive_part (negsuc n) = 0

-- a number over the lesser of two powers of ten
abbrev pub over_lesser : ℤ × ℤ → ℤ × ℤ → ℤ
over_lesser number other = number.0 *ℤ pos (10 ^ positive_part (number.1 -ℤ other.1))

-- how a number stands to another, both over the lesser of their powers of ten
abbrev pub number_cmp : ℤ × ℤ → ℤ × ℤ → Ordering
number_cmp number other = int_cmp (over_lesser number other) (over_lesser other number)

-- how two numbers stand, by which of them are below 0 and how their sizes stand
abbrev pub signed_cmp : Bool → Bool → Ordering → Ordering
signed_cmp true true by_size = ordering_reverse by_size
signed_cmp true false by_size = Less
signed_cmp false true by_size = Greater
signed_cmp false false by_size = by_size

-- a comparison holds of two numbers, by how the first stands to the second
abbrev pub condition_holds : Comparison → Ordering → Bool
condition_holds compares.Below order = is_lt order
condition_holds compares.UpTo order = is_le order
condition_holds compares.Above order = is_gt order
condition_holds compares.From order = is_ge order
condition_holds compares.Equal order = is_eq order
condition_holds compares.Unequal order = is_ne order

-- a number meets the condition of a section: its comparison with the condition's number holds
abbrev pub meets_condition : ℤ × ℤ → Condition → Bool
meets_condition number condition = condition_holds condition.comparison
    (number_cmp number condition.number)

-- a section takes a number: by its condition, or else as its place says
abbrev pub takes : ℤ × ℤ → Bool → Option Condition → Bool
takes number else_takes None = else_takes
takes number else_takes (Some condition) = meets_condition number condition

-- a comparison with a number holds of numbers below 0 alone
abbrev pub holds_below_0 : Comparison → ℤ → Bool
holds_below_0 compares.Below n = not (is_positive n)
holds_below_0 compares.UpTo n = is_negative n
holds_below_0 compares.Above n = false
holds_below_0 compares.From n = false
holds_below_0 compares.Equal n = is_negative n
holds_below_0 compares.Unequal n = false

-- A section leaves the sign out: its condition holds of numbers below 0 alone, or its place says
-- so.
abbrev pub leaves_sign_out : Bool → Option Condition → Bool
leaves_sign_out else_out None = else_out
leaves_sign_out else_out (Some condition) =
    holds_below_0 condition.comparison condition.number.0
