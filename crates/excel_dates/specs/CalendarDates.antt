-- The date of a day, by counting, in both calendars of workbooks (ECMA-376 part 1, 18.17.4.1).
use Rattle.std.specs.Prelude.{◌≡◌, ℕ, zero, suc, ◌+◌, ◌-◌, ◌<◌, ◌≤◌, ◌==◌, nat_lt, Bool, true}
use Rattle.std.specs.Prelude.{false, ◌&&◌, ◌⊎◌, if◌then◌else◌, pos}
use Rattle.jiff_core.specs.Calendar.{days_in_month, days_in_year, day_count, IsCivilDate}

-- the date that comes so many days behind the first of a month, by going on month by month
unfoldable pub month_from : ℕ → ℕ → ℕ → ℕ → ℕ × ℕ × ℕ
month_from zero year month days = (year, month, days + 1)
month_from (suc months) year month days =
    if nat_lt days (days_in_month (pos year) month) then (year, month, days + 1)
    else month_from months year (month + 1) (days - days_in_month (pos year) month)

-- the date that comes so many days behind the first of January, by going on year by year
unfoldable pub date_from : ℕ → ℕ → ℕ → ℕ × ℕ × ℕ
date_from zero year days = month_from 11 year 1 days
date_from (suc years) year days =
    if nat_lt days (days_in_year (pos year)) then month_from 11 year 1 days
    else date_from years (year + 1) (days - days_in_year (pos year))

-- the date that comes so many days behind the first of January of a year, up to the year 9999
unfoldable pub date_behind : ℕ → ℕ → ℕ × ℕ × ℕ
date_behind year days = date_from (9999 - year) year days

-- The date of a day. From 1904 day 0 is 1904-01-01. From 1900 day 1 is 1900-01-01, and day 60 is
-- 1900-02-29, which no calendar has, so that day 61 is 1900-03-01.
unfoldable pub date_of_day : Bool → ℕ → ℕ × ℕ × ℕ
date_of_day true day = date_behind 1904 day
date_of_day false day =
    if day == 60 then (1900, 2, 29)
    else (if nat_lt day 60 then date_behind 1900 (day - 1) else date_behind 1900 (day - 2))

-- the last day that has a date: 9999-12-31
abbrev pub last_day : Bool → ℕ
last_day true = 2957003
last_day false = 2958465

-- the first day that has a date
abbrev pub first_day : Bool → ℕ
first_day true = 0
first_day false = 1

-- how many days lie between the first of January of a year and a date
abbrev pub days_between : ℕ → ℕ × ℕ × ℕ → ℕ
days_between year date = day_count (pos date.0) date.1 date.2 - day_count (pos year) 1 1

-- a date is 1900-02-29, which the calendar from 1900 alone has
abbrev pub is_leap_day : ℕ × ℕ × ℕ → Bool
is_leap_day date = (date.0 == 1900) && ((date.1 == 2) && (date.2 == 29))

-- the day of a date, by the days before it
unfoldable pub day_of_date : Bool → ℕ × ℕ × ℕ → ℕ
day_of_date true date = days_between 1904 date
day_of_date false date =
    if is_leap_day date then 60
    else (
    if nat_lt (days_between 1900 date) 59 then days_between 1900 date + 1
    else days_between 1900 date + 2
    )

-- the calendar has this date, from its first year to 9999; that from 1900 has 1900-02-29 more
abbrev pub IsDateOf : Bool → ℕ × ℕ × ℕ → Type 0
IsDateOf true date = (1904 ≤ date.0) × IsCivilDate (pos date.0) date.1 date.2
IsDateOf false date =
    (is_leap_day date ≡ true)
    ⊎ ((1900 ≤ date.0) × IsCivilDate (pos date.0) date.1 date.2)

-- a date is no later than another
abbrev pub IsNoLater : ℕ × ℕ × ℕ → ℕ × ℕ × ℕ → Type 0
IsNoLater one other =
    (one.0 < other.0)
    ⊎ ((one.0 ≡ other.0)
    × ((one.1 < other.1) ⊎ ((one.1 ≡ other.1) × (one.2 ≤ other.2))))
