-- What a serial stands for: a date with a time of day, a time of day alone, a time that has passed,
-- or nothing that has a date.
use Rattle.std.specs.Prelude.{ℕ, ◌^◌, ◌/◌, ◌%◌, ◌<◌, nat_lt, ◌==◌, Bool, true, false, not, ◌&&◌}
use Rattle.std.specs.Prelude.{if◌then◌else◌, Option, Some, None, ℤ}
use Rattle.cell_data.specs.declared.value.ExcelDateTimeType.{ExcelDateTimeType}
use Rattle.cell_data.specs.declared.value.ExcelDateTimeType.TheVariants.{DateTime, TimeDelta}
use Rattle.excel_dates.specs.CalendarDates.{date_of_day, last_day}
use Rattle.excel_dates.specs.Serials.{day_length, milliseconds_of, is_below}
use Rattle.excel_dates.specs.declared.moment.Moment.{Moment}
use Rattle.excel_dates.specs.declared.moment.Moment.TheVariants as moment

-- The moment of so many milliseconds since day 0. In the calendar from 1900 day 0 has no date, and
-- is a time of day alone.
abbrev pub moment_at : Bool → ℕ → Moment
moment_at is_1904 milliseconds =
    if nat_lt (last_day is_1904) (milliseconds / day_length) then moment.Untold
    else (
    if not is_1904 && (milliseconds / day_length == 0)
    then moment.TimeOfDay (milliseconds % day_length)
    else moment.Dated (date_of_day is_1904 (milliseconds / day_length))
    (milliseconds % day_length)
    )

-- what a serial stands for, by what it counts and by its calendar
unfoldable pub moment_of : ℤ × ℤ → ExcelDateTimeType → Bool → Moment
moment_of days DateTime is_1904 =
    if is_below days then moment.Untold else moment_at is_1904 (milliseconds_of days)
moment_of days TimeDelta is_1904 =
    if nat_lt (milliseconds_of days) (2 ^ 128)
    then moment.Passed (is_below days) (milliseconds_of days) else moment.Untold

-- a serial stands for a moment: a date, a time of day or a time that has passed
abbrev pub has_moment : Moment → Bool
has_moment (moment.Dated date time) = true
has_moment (moment.TimeOfDay time) = true
has_moment (moment.Passed is_below time) = true
has_moment moment.Untold = false

-- the year, month, day, hour, minute, second and millisecond of a moment that has a date
abbrev pub moment_parts : Moment → Option (ℕ × ℕ × ℕ × ℕ × ℕ × ℕ × ℕ)
moment_parts (moment.Dated date time) =
    Some (
      date.0,
      date.1,
      date.2,
      time / 3600000,
      time / 60000 % 60,
      time / 1000 % 60,
      time % 1000,
    )
moment_parts (moment.TimeOfDay time) = None
moment_parts (moment.Passed is_below time) = None
moment_parts moment.Untold = None

-- a time of day is less than a day
abbrev pub IsOfDay : Moment → Type 0
IsOfDay (moment.Dated date time) = time < day_length
IsOfDay (moment.TimeOfDay time) = time < day_length
IsOfDay (moment.Passed is_below time) = Unit {0}
IsOfDay moment.Untold = Unit {0}
