-- What the sections of a number format code are.
use Rattle.std.specs.Prelude.{◌==◌, ◌&&◌, ◌||◌, nat_lt, nat_le, not, Bool, true, false}
use Rattle.std.specs.Prelude.{if◌then◌else◌, List, [], ◌∷◌, length, drop, Option, Some, None}
use Rattle.std.specs.Prelude.{count_by}
use Rattle.std.specs.List.{list_all, before_first, after_first, prefix_len, take_while}
use Rattle.format_codes.specs.declared.kind.SectionKind.{SectionKind}
use Rattle.format_codes.specs.declared.kind.SectionKind.TheVariants as kind
use Rattle.format_codes.specs.declared.piece.CodePiece.{CodePiece}
use Rattle.format_codes.specs.declared.piece.CodePiece.TheVariants as piece
use Rattle.format_codes.specs.declared.piece.TimeUnit.TheVariants.{Year}
use Rattle.format_codes.specs.Pieces.{has, is_digit, is_exponent, is_figure, is_foreign_language}
use Rattle.format_codes.specs.Pieces.{is_general, is_percent, is_point_piece, is_second_digits}
use Rattle.format_codes.specs.Pieces.{is_slash_piece, is_text_place, is_time, is_unsupported_piece}
use Rattle.format_codes.specs.Pieces.{is_zero_place}
use Rattle.format_codes.specs.TimedPieces.{second_places, timed_pieces}

-- a kind, where a section is sound
abbrev pub kind_if : Bool → SectionKind → Option SectionKind
kind_if sound found = if sound then Some found else None

-- a piece is a place of a digit or a power of ten
abbrev pub is_digit_or_exponent : CodePiece → Bool
is_digit_or_exponent p = is_digit p || is_exponent p

-- what no section of General has: a place of a digit, a power, `%`, or a part of a date
abbrev pub is_not_general : CodePiece → Bool
is_not_general p = is_digit_or_exponent p || (is_percent p || is_time p)

-- General once, and nothing else that shows a number
abbrev pub is_general_sound : List CodePiece → Bool
is_general_sound section = (count_by is_general section == 1) && not (has is_not_general section)

-- a piece shows a name of a month or of a day, or a half of a day
abbrev pub shows_name : CodePiece → Bool
shows_name (piece.TimePart Year count) = false
shows_name (piece.TimePart unit count) = nat_lt 2 count
shows_name (piece.HalfDay half) = true
shows_name other = false

-- pieces with their minutes: no places of digits but those of seconds, three in one place, and no
-- name in another language
abbrev pub is_date_sound : List CodePiece → Bool
is_date_sound timed =
    not (has is_digit_or_exponent timed)
    && (not (has is_foreign_language timed && has shows_name timed)
    && (nat_lt (count_by is_second_digits timed) 2 && nat_lt (second_places timed) 4))

-- places of digits on both sides of one `E`, and no point behind it
abbrev pub is_power_sound : List CodePiece → Bool
is_power_sound section =
    (count_by is_exponent section == 1)
    && (has is_digit (before_first is_exponent section)
    && (has is_digit (after_first is_exponent section)
    && not (has is_point_piece (after_first is_exponent section))))

-- a piece is a place of a digit, or a digit
abbrev pub is_denominator : CodePiece → Bool
is_denominator p = is_digit p || is_figure p

-- what stands behind the slash of a fraction, from the denominator on
abbrev pub from_denominator : List CodePiece → List CodePiece
from_denominator behind = drop (prefix_len (λ p. not (is_denominator p)) behind) behind

-- the denominator of a section of fractions
abbrev pub denominator_in : List CodePiece → List CodePiece
denominator_in section =
    take_while is_denominator (from_denominator (after_first is_slash_piece section))

-- a denominator is given: a digit from 1 to 9 begins it
abbrev pub is_fixed : List CodePiece → Bool
is_fixed [] = false
is_fixed (first ∷ others) = is_figure first

-- a denominator that is given has digits alone, one that is found places alone, four at most
abbrev pub is_denominator_sound : List CodePiece → Bool
is_denominator_sound under =
    nat_lt 0 (length under) && (nat_le (length under) 4
    && (if is_fixed under then list_all (λ p. is_figure p || is_zero_place p) under
    else list_all is_digit under))

-- a piece is a point or `%`
abbrev pub is_point_or_percent : CodePiece → Bool
is_point_or_percent p = is_point_piece p || is_percent p

-- one `/`, neither a point nor `%`, and a denominator
abbrev pub is_fraction_sound : List CodePiece → Bool
is_fraction_sound section =
    (count_by is_slash_piece section == 1)
    && (not (has is_point_or_percent section)
    && is_denominator_sound (denominator_in section))

-- a place of a digit stands before a `/`, and one or a digit from 1 to 9 behind it
abbrev pub is_fraction : List CodePiece → Bool
is_fraction section =
    has is_digit (before_first is_slash_piece section)
    && has is_denominator (after_first is_slash_piece section)

-- what isn't supported, or `@`, which no number is shown in
abbrev pub is_no_number : CodePiece → Bool
is_no_number p = is_unsupported_piece p || is_text_place p

-- what a section is without a part of a date: a power, a fraction, or a number
abbrev pub undated_kind : List CodePiece → Option SectionKind
undated_kind section =
    if has is_exponent section then kind_if (is_power_sound section) kind.Power
    else (if is_fraction section then kind_if (is_fraction_sound section) kind.Fraction
    else Some kind.Number)

-- what a section is that shows a number, if it is supported
unfoldable pub section_kind : List CodePiece → Option SectionKind
section_kind section =
    if has is_no_number section then None
    else (if has is_general section then kind_if (is_general_sound section) kind.General
    else (if has is_time section
    then kind_if (is_date_sound (timed_pieces section)) kind.Date
    else undated_kind section))
