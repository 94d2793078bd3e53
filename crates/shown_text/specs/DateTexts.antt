-- Sections of dates, times of day and times that have passed. A time is told in milliseconds since
-- day 0.
use Rattle.std.specs.Prelude.{ℕ, ◌+◌, ◌-◌, ◌*◌, ◌/◌, ◌%◌, ◌^◌, ◌==◌, ◌&&◌, ◌||◌, nat_lt, nat_le}
use Rattle.std.specs.Prelude.{not, min, Bool, true, false, if◌then◌else◌, List, [], ◌∷◌, ◌++◌, take}
use Rattle.std.specs.Prelude.{codes, slice_get, encode_utf8, Option, Some, None, unwrap_or, ℤ}
use Rattle.std.specs.Fmt.{sign_text}
use Rattle.std.specs.List.{flat_map}
use Rattle.decimals.specs.Words.{nearest}
use Rattle.excel_dates.specs.Words.{date_of_day, last_day, padded, day_length, milliseconds_of}
use Rattle.excel_dates.specs.Words.{is_below}
use Rattle.format_codes.specs.declared.piece.CodePiece.{CodePiece}
use Rattle.format_codes.specs.declared.piece.CodePiece.TheVariants as piece
use Rattle.format_codes.specs.declared.piece.HalfDay.{HalfDay}
use Rattle.format_codes.specs.declared.piece.HalfDay.TheVariants.{Words, Letters}
use Rattle.format_codes.specs.declared.piece.TimeUnit.{TimeUnit}
use Rattle.format_codes.specs.declared.piece.TimeUnit.TheVariants.{Year, Month, Day, Hour, Minute}
use Rattle.format_codes.specs.declared.piece.TimeUnit.TheVariants.{Second}
use Rattle.format_codes.specs.Words.{has, is_half_day, is_passed, own_text, unit_of, second_places}
use Rattle.shown_text.specs.GeneralText.{general_text}
use Rattle.shown_text.specs.declared.date_texts.ShownTime.{ShownTime}

-- a unit is that of a time of day
abbrev pub is_clock_unit : Option TimeUnit → Bool
is_clock_unit (Some Hour) = true
is_clock_unit (Some Minute) = true
is_clock_unit (Some Second) = true
is_clock_unit other = false

-- a unit is that of a date
abbrev pub is_date_unit : Option TimeUnit → Bool
is_date_unit (Some Year) = true
is_date_unit (Some Month) = true
is_date_unit (Some Day) = true
is_date_unit other = false

-- a piece is an hour, minutes, seconds, a half of a day or a time that has passed
abbrev pub is_clock : CodePiece → Bool
is_clock p = is_passed p || (is_half_day p || is_clock_unit (unit_of p))

-- a piece is a part of a date
abbrev pub is_date_part : CodePiece → Bool
is_date_part p = is_date_unit (unit_of p)

-- how many places of a second are rounded away: of a clock all that aren't shown, of a date none
abbrev pub dropped_places : List CodePiece → ℕ
dropped_places pieces = if has is_clock pieces then 3 - second_places pieces else 0

-- the milliseconds that are shown: the nearest ones, halves upward
abbrev pub shown_milliseconds : List CodePiece → ℕ → ℕ
shown_milliseconds pieces time =
    nearest (dropped_places pieces) time * 10 ^ dropped_places pieces

-- the longest time that is shown
abbrev pub longest_time : ℕ
longest_time = 2 ^ 127

-- the milliseconds that are shown of so many days, if they aren't too many
abbrev pub told_milliseconds : List CodePiece → ℤ × ℤ → Option ℕ
told_milliseconds pieces days =
    if nat_le (milliseconds_of days) longest_time
    then Some (shown_milliseconds pieces (milliseconds_of days)) else None

-- the date of a day up to the end of 9999, as programs show it: day 0 is January 0 of 1900, and day
-- 60 February 29
abbrev pub shown_date : Bool → ℕ → Option (ℕ × ℕ × ℕ)
shown_date is_1904 day =
    if nat_lt (last_day is_1904) day then None
    else (if not is_1904 && (day == 0) then Some (1900, 1, 0) else Some (date_of_day is_1904 day))

-- the months by their numbers, from 1
abbrev pub month_names : List (List ℕ)
month_names =
    codes "January" ∷ codes "February" ∷ codes "March" ∷ codes "April" ∷ codes "May"
    ∷ codes "June" ∷ codes "July" ∷ codes "August" ∷ codes "September" ∷ codes "October"
    ∷ codes "November" ∷ codes "December" ∷ []

-- the days of the week, that of day 0 of the calendar from 1900 first
abbrev pub day_names : List (List ℕ)
day_names =
    codes "Saturday" ∷ codes "Sunday" ∷ codes "Monday" ∷ codes "Tuesday" ∷ codes "Wednesday"
    ∷ codes "Thursday" ∷ codes "Friday" ∷ []

-- the name at a place of a list of names, empty where there is none
abbrev pub name_shown : List (List ℕ) → ℕ → List ℕ
name_shown names place = unwrap_or (slice_get names place) []

-- the name of a month by its number, counted from 1
abbrev pub month_name : ℕ → List ℕ
month_name month = name_shown month_names (month - 1)

-- the name of the day of the week
abbrev pub day_name : Bool → ℕ → List ℕ
day_name is_1904 day = name_shown day_names ((day + (if is_1904 then 1462 else 0)) % 7)

-- a year in two digits or in four
abbrev pub year_text : ℕ → ℕ → List ℕ
year_text count year = if nat_lt count 3 then padded 2 (year % 100) else padded 4 year

-- a month as a number, as three letters, as its name, as a letter
abbrev pub month_text : ℕ → ℕ → List ℕ
month_text count month =
    if nat_lt count 3 then padded count month
    else (if count == 3 then take 3 (month_name month)
    else (if count == 5 then take 1 (month_name month) else month_name month))

-- a day of the week as three letters or as its name
abbrev pub weekday_text : ℕ → List ℕ → List ℕ
weekday_text count name = if count == 3 then take 3 name else name

-- the text of a part of a date: its year, its month, or its day
abbrev pub date_part_text : Option (ℕ × ℕ × ℕ) → TimeUnit → ℕ → List ℕ
date_part_text None unit count = []
date_part_text (Some date) Year count = year_text count date.0
date_part_text (Some date) Month count = month_text count date.1
date_part_text (Some date) unit count = padded count date.2

-- the hour of a day, of twelve or of 24
abbrev pub shown_hour : Bool → ℕ → ℕ
shown_hour twelve hour = if twelve then (hour + 11) % 12 + 1 else hour

-- two units of time are one
abbrev pub is_unit : TimeUnit → TimeUnit → Bool
is_unit Year Year = true
is_unit Month Month = true
is_unit Day Day = true
is_unit Hour Hour = true
is_unit Minute Minute = true
is_unit Second Second = true
is_unit unit other = false

-- a piece is a time that has passed, in this unit
abbrev pub is_passed_in : TimeUnit → CodePiece → Bool
is_passed_in unit (piece.Passed other count) = is_unit other unit
is_passed_in unit other = false

-- What pieces are shown at: a time, and whether hours count to twelve. Hours, minutes or seconds
-- are all that have passed where a bracket of that unit stands among the pieces.
abbrev pub shown_time : Bool → List CodePiece → ℕ → ShownTime
shown_time is_1904 pieces time = record {
  is_1904 = is_1904;
  milliseconds = time;
  is_in_halves = has is_half_day pieces;
  has_passed_hours = has (is_passed_in Hour) pieces;
  has_passed_minutes = has (is_passed_in Minute) pieces;
  has_passed_seconds = has (is_passed_in Second) pieces;
}

-- how many hours, minutes or seconds of a day, of an hour, or of a minute, or all of them
abbrev pub clock_number : ShownTime → TimeUnit → ℕ
clock_number at Hour =
    if at.has_passed_hours then at.milliseconds / 3600000
    else shown_hour at.is_in_halves (at.milliseconds % day_length / 3600000)
clock_number at Minute =
    if at.has_passed_minutes then at.milliseconds / 60000 else at.milliseconds / 60000 % 60
clock_number at unit =
    if at.has_passed_seconds then at.milliseconds / 1000 else at.milliseconds / 1000 % 60

-- the day of a time
abbrev pub day_at : ShownTime → ℕ
day_at at = at.milliseconds / day_length

-- the text of a part of a date or of a time of day
abbrev pub part_shown : ShownTime → TimeUnit → ℕ → List ℕ
part_shown at Hour count = padded (min count 2) (clock_number at Hour)
part_shown at Minute count = padded (min count 2) (clock_number at Minute)
part_shown at Second count = padded (min count 2) (clock_number at Second)
part_shown at Day count =
    if nat_lt 2 count then weekday_text count (day_name at.is_1904 (day_at at))
    else date_part_text (shown_date at.is_1904 (day_at at)) Day count
part_shown at unit count = date_part_text (shown_date at.is_1904 (day_at at)) unit count

-- a point, and so many digits of a second behind it, three at most
abbrev pub second_digits_text : ℕ → ℕ → List ℕ
second_digits_text count milliseconds =
    46 ∷ padded (min count 3) (milliseconds / 10 ^ (3 - min count 3))

-- the text of a half of a day
abbrev pub half_text : HalfDay → Bool → List ℕ
half_text Words is_morning = if is_morning then codes "AM" else codes "PM"
half_text (Letters morning evening) is_morning =
    if is_morning then encode_utf8 morning else encode_utf8 evening

-- the text of a piece at a time
abbrev pub piece_shown : ShownTime → CodePiece → List ℕ
piece_shown at (piece.TimePart unit count) = part_shown at unit count
piece_shown at (piece.Passed unit count) = padded count (clock_number at unit)
piece_shown at (piece.SecondDigits count) = second_digits_text count (at.milliseconds % 1000)
piece_shown at (piece.HalfDay half) = half_text half (nat_lt (at.milliseconds % day_length)
    43200000)
piece_shown at other = own_text other

-- the text of pieces at a time, one behind the other
abbrev pub pieces_at : ShownTime → List CodePiece → List ℕ
pieces_at at pieces = flat_map (piece_shown at) pieces

-- Pieces show a time: one that has passed, or one up to the end of 9999, before day 0 only in the
-- calendar from 1904.
abbrev pub has_time : Bool → List CodePiece → Bool → ℕ → Bool
has_time is_1904 pieces below time =
    (has is_passed pieces && not (has is_date_part pieces))
    || ((is_1904 || (has is_passed pieces || not below))
    && nat_le (time / day_length) (last_day is_1904))

-- pieces at a time with its sign; General of the days where they don't show it
abbrev pub shown_with_sign : Bool → List CodePiece → Bool → ℤ × ℤ → ℕ → List ℕ
shown_with_sign is_1904 pieces below days time =
    if has_time is_1904 pieces below time
    then sign_text below ++ pieces_at (shown_time is_1904 pieces time) pieces
    else general_text days

-- the text of so many days at the milliseconds that are shown of them; General where these are too
-- many
abbrev pub text_if_told : Bool → List CodePiece → Bool → ℤ × ℤ → Option ℕ → List ℕ
text_if_told is_1904 pieces below days None = general_text days
text_if_told is_1904 pieces below days (Some time) = shown_with_sign is_1904 pieces below days time

-- the text of so many days in the pieces of a section of dates; `unsigned` leaves the sign out
unfoldable pub date_shown : Bool → List CodePiece → Bool → ℤ × ℤ → List ℕ
date_shown is_1904 pieces unsigned days =
    text_if_told is_1904 pieces (is_below days && not unsigned) days
    (told_milliseconds pieces days)
