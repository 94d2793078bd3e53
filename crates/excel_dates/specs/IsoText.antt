-- The text of a serial: a date as ISO 8601 has it, a time of day, or a time that has passed.
use Rattle.std.specs.Prelude.{ℕ, ◌-◌, ◌/◌, ◌%◌, ◌==◌, Bool, if◌then◌else◌, List, [], ◌∷◌, ◌++◌}
use Rattle.std.specs.Prelude.{length, replicate, ℤ}
use Rattle.std.specs.Fmt.{decimal, sign_text}
use Rattle.decimals.specs.Words.{printed}
use Rattle.cell_data.specs.declared.value.ExcelDateTimeType.{ExcelDateTimeType}
use Rattle.excel_dates.specs.Moments.{moment_of}
use Rattle.excel_dates.specs.declared.moment.Moment.{Moment}
use Rattle.excel_dates.specs.declared.moment.Moment.TheVariants as moment

-- the digits of a number, with zeros in front of them up to so many
abbrev pub padded : ℕ → ℕ → List ℕ
padded width n = replicate (width - length (decimal n)) 48 ++ decimal n

-- the text of a date, as `2024-01-01`
abbrev pub date_text : ℕ × ℕ × ℕ → List ℕ
date_text date =
    padded 4 date.0 ++ 45 ∷ (padded 2 date.1 ++ 45 ∷ padded 2 date.2)

-- the milliseconds of a second as `.250`, and nothing where there are none
abbrev pub fraction_text : ℕ → List ℕ
fraction_text milliseconds = if milliseconds == 0 then [] else 46 ∷ padded 3 milliseconds

-- minutes or seconds as `:30`
abbrev pub part_text : ℕ → List ℕ
part_text n = 58 ∷ padded 2 n

-- what stands behind the hours, as `:30:00`
abbrev pub minutes_text : ℕ → List ℕ
minutes_text time =
    part_text (time / 60000 % 60) ++
    (part_text (time / 1000 % 60) ++ fraction_text (time % 1000))

-- a time of day as `13:30:00`
abbrev pub clock_text : ℕ → List ℕ
clock_text time = padded 2 (time / 3600000) ++ minutes_text time

-- a time that has passed as `-36:30:00`: hours as many as there are, without zeros in front
abbrev pub passed_text : Bool → ℕ → List ℕ
passed_text is_below time =
    sign_text is_below ++ (decimal (time / 3600000) ++ minutes_text time)

-- the time of day behind a date, and nothing at midnight
abbrev pub time_text : ℕ → List ℕ
time_text time = if time == 0 then [] else 84 ∷ clock_text time

-- the text of a moment, and of a serial that has none its number
abbrev pub moment_text : ℤ × ℤ → Moment → List ℕ
moment_text days (moment.Dated date time) = date_text date ++ time_text time
moment_text days (moment.TimeOfDay time) = clock_text time
moment_text days (moment.Passed is_below time) = passed_text is_below time
moment_text days moment.Untold = printed days

-- the text of so many days, by what they count and by their calendar
unfoldable pub iso_text : ℤ × ℤ → ExcelDateTimeType → Bool → List ℕ
iso_text days kind is_1904 = moment_text days (moment_of days kind is_1904)
