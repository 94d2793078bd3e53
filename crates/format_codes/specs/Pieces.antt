-- The pieces of a number format code (ECMA-376 part 1, sections 18.8.30 and 18.8.31), and which of
-- them are what.
use Rattle.std.specs.Prelude.{ℕ, Bool, true, false, List, [], ◌∷◌, Option, Some, None, encode_utf8}
use Rattle.std.specs.List.{list_any}
use Rattle.format_codes.specs.declared.piece.CodePiece.{CodePiece}
use Rattle.format_codes.specs.declared.piece.CodePiece.TheVariants as piece
use Rattle.format_codes.specs.declared.piece.Condition.{Condition}
use Rattle.format_codes.specs.declared.piece.Filler.TheVariants.{Zero}
use Rattle.format_codes.specs.declared.piece.TimeUnit.{TimeUnit}

-- a piece is a digit from 1 to 9
abbrev pub is_figure : CodePiece → Bool
is_figure (piece.Figure c) = true
is_figure other = false

-- a piece is the place of a digit: `0`, `#` or `?`
abbrev pub is_digit : CodePiece → Bool
is_digit (piece.Digit filler) = true
is_digit other = false

-- a piece is the place of a digit that is `0`
abbrev pub is_zero_place : CodePiece → Bool
is_zero_place (piece.Digit Zero) = true
is_zero_place other = false

-- a piece is a point
abbrev pub is_point_piece : CodePiece → Bool
is_point_piece piece.Point = true
is_point_piece other = false

-- a piece is a comma
abbrev pub is_comma : CodePiece → Bool
is_comma piece.Comma = true
is_comma other = false

-- a piece is `%`
abbrev pub is_percent : CodePiece → Bool
is_percent piece.Percent = true
is_percent other = false

-- a piece is `/`
abbrev pub is_slash_piece : CodePiece → Bool
is_slash_piece piece.Slash = true
is_slash_piece other = false

-- a piece is `@`, the place of a text
abbrev pub is_text_place : CodePiece → Bool
is_text_place piece.TextPlace = true
is_text_place other = false

-- a piece is the word General
abbrev pub is_general : CodePiece → Bool
is_general piece.General = true
is_general other = false

-- a piece is `E+` or `E-`, the exponent of a power of ten
abbrev pub is_exponent : CodePiece → Bool
is_exponent (piece.Exponent letter plus) = true
is_exponent other = false

-- a piece is a part of a date in brackets: a time that has passed
abbrev pub is_passed : CodePiece → Bool
is_passed (piece.Passed unit count) = true
is_passed other = false

-- a piece is the digits of a second behind a point
abbrev pub is_second_digits : CodePiece → Bool
is_second_digits (piece.SecondDigits count) = true
is_second_digits other = false

-- a piece is a half of a day, such as `AM/PM`
abbrev pub is_half_day : CodePiece → Bool
is_half_day (piece.HalfDay half) = true
is_half_day other = false

-- a piece is a part of a date, in brackets or not, or a half of a day
abbrev pub is_time : CodePiece → Bool
is_time (piece.TimePart unit count) = true
is_time (piece.Passed unit count) = true
is_time (piece.HalfDay half) = true
is_time other = false

-- a piece is a condition in brackets, such as `[>=100]`
abbrev pub is_condition : CodePiece → Bool
is_condition (piece.Condition condition) = true
is_condition other = false

-- a piece is a language that isn't English
abbrev pub is_foreign_language : CodePiece → Bool
is_foreign_language piece.Foreign = true
is_foreign_language other = false

-- a piece is `;`, which divides sections
abbrev pub is_divider : CodePiece → Bool
is_divider piece.Divider = true
is_divider other = false

-- a piece is what isn't supported
abbrev pub is_unsupported_piece : CodePiece → Bool
is_unsupported_piece piece.Unknown = true
is_unsupported_piece other = false

-- one of these pieces passes a test
abbrev pub has : (CodePiece → Bool) → List CodePiece → Bool
has test pieces = list_any test pieces

-- the unit of a part of a date, in brackets or not
abbrev pub unit_of : CodePiece → Option TimeUnit
unit_of (piece.TimePart unit count) = Some unit
unit_of (piece.Passed unit count) = Some unit
unit_of other = None

-- the condition that a piece is
abbrev pub as_condition : CodePiece → Option Condition
as_condition (piece.Condition condition) = Some condition
as_condition other = None

-- the text of a piece that shows itself
abbrev pub own_text : CodePiece → List ℕ
own_text (piece.Literal c) = encode_utf8 c
own_text (piece.Figure c) = encode_utf8 c
own_text piece.Point = 46 ∷ []
own_text piece.Comma = 44 ∷ []
own_text piece.Percent = 37 ∷ []
own_text piece.Slash = 47 ∷ []
own_text other = []
