-- The pieces of a section of dates: which of them are minutes, and which are digits of a second.
use Rattle.std.specs.Prelude.{ℕ, zero, suc, ◌+◌, ◌&&◌, ◌||◌, nat_lt, Bool, true, false}
use Rattle.std.specs.Prelude.{if◌then◌else◌, List, [], ◌∷◌, Option, Some, None}
use Rattle.std.specs.List.{prefix_len}
use Rattle.format_codes.specs.declared.piece.CodePiece.{CodePiece}
use Rattle.format_codes.specs.declared.piece.CodePiece.TheVariants as piece
use Rattle.format_codes.specs.declared.piece.TimeUnit.{TimeUnit}
use Rattle.format_codes.specs.declared.piece.TimeUnit.TheVariants.{Month, Hour, Minute, Second}
use Rattle.format_codes.specs.declared.timing.TimePlace.{TimePlace}
use Rattle.format_codes.specs.Pieces.{has, is_passed, is_point_piece, is_zero_place, unit_of}

-- a unit is that of hours
abbrev pub is_hour : Option TimeUnit → Bool
is_hour (Some Hour) = true
is_hour other = false

-- a unit is that of seconds
abbrev pub is_second : Option TimeUnit → Bool
is_second (Some Second) = true
is_second other = false

-- how many zeros stand in front
abbrev pub zeros_in_front : List CodePiece → ℕ
zeros_in_front pieces = prefix_len is_zero_place pieces

-- the first of two units
abbrev pub first_unit : Option TimeUnit → Option TimeUnit → Option TimeUnit
first_unit (Some unit) other = Some unit
first_unit None other = other

-- the unit of the next part of a date
abbrev pub next_unit : List CodePiece → Option TimeUnit
next_unit [] = None
next_unit (first ∷ others) = first_unit (unit_of first) (next_unit others)

-- `m` and `mm` are minutes behind hours, before seconds, and where a time that has passed is shown
abbrev pub is_minutes : Bool → Option TimeUnit → List CodePiece → Bool
is_minutes passes last behind = passes || (is_hour last || is_second (next_unit behind))

-- a month of one or two letters is minutes, where this holds
abbrev pub minutes_if : Bool → CodePiece → CodePiece
minutes_if holds (piece.TimePart Month count) =
    if holds && nat_lt count 3 then piece.TimePart Minute count else piece.TimePart Month count
minutes_if holds other = other

-- the place behind a piece
abbrev pub place_after_piece : TimePlace → CodePiece → TimePlace
place_after_piece place p = record {
  passes = place.passes;
  last = first_unit (unit_of p) place.last;
  behind_seconds = is_second (unit_of p);
}

-- how many digits of a second are told here: the zeros behind a point that stands behind seconds
abbrev pub digits_told : TimePlace → CodePiece → List CodePiece → ℕ
digits_told place p behind =
    if place.behind_seconds && is_point_piece p then zeros_in_front behind else 0

-- a piece where so many digits of a second are told: these, or the piece with its minutes
abbrev pub told_piece : TimePlace → ℕ → CodePiece → List CodePiece → CodePiece
told_piece place digits p behind =
    if nat_lt 0 digits then piece.SecondDigits digits
    else minutes_if (is_minutes place.passes place.last behind) p

-- The pieces from a place on, with their minutes and their digits of seconds; `skip` pieces in
-- front are passed over.
abbrev pub timed_from : TimePlace → ℕ → List CodePiece → List CodePiece
timed_from place skip [] = []
timed_from place (suc skip) (first ∷ others) = timed_from place skip others
timed_from place zero (first ∷ others) =
    let digits = digits_told place first others in
    told_piece place digits first others ∷ timed_from (place_after_piece place first) digits others

-- the place in front of a section
abbrev pub section_start : List CodePiece → TimePlace
section_start section =
    record { passes = has is_passed section; last = None; behind_seconds = false }

-- a section with its minutes and its digits of seconds
unfoldable pub timed_pieces : List CodePiece → List CodePiece
timed_pieces section = timed_from (section_start section) zero section

-- how many digits of a second a piece shows
abbrev pub second_digits : CodePiece → ℕ
second_digits (piece.SecondDigits count) = count
second_digits other = 0

-- how many digits of a second pieces show
abbrev pub second_places : List CodePiece → ℕ
second_places [] = 0
second_places (first ∷ others) = second_digits first + second_places others
