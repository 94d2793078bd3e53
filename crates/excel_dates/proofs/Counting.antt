-- The date of a day, by counting, is the one that the kit's calendar has.
use Rattle.std.proofs.Common.{◌≡◌, ℕ, zero, suc, ◌+◌, ◌-◌, ◌<◌, ◌≤◌, ◌==◌, Bool, true, false, Some}
use Rattle.std.proofs.Common.{refl, sym, ap, subst, ◌∙◌, arith, inl, inr, ℤ, pos, negsuc, ◌+ℤ◌}
use Rattle.std.proofs.Common.{unsigned_abs}
use Rattle.std.specs.Prelude.{nat_lt}
use Rattle.std.proofs.lemmas.Bool.{cases_lt}
use Rattle.std.proofs.lemmas.Bool.Decides.{nat_tests}
use Rattle.jiff_core.specs.declared.civil.date.Date.{Date}
use Rattle.jiff_core.specs.Date.{epoch_day}
use Rattle.jiff_core.specs.Calendar.{days_in_month, days_in_year, days_of_months, day_count}
use Rattle.jiff_core.specs.Calendar.{days_from_civil, IsCivilDate}
use Rattle.jiff_core.proofs.CalendarLemmas.{days_from_civil-day_count, days_of_months_mono}
use Rattle.jiff_core.proofs.CalendarLemmas.{day_count-day_of_year, day_count-day}
use Rattle.jiff_core.proofs.CalendarLemmas.{day_count-next_month, day_count-next_year}
use Rattle.jiff_core.proofs.CalendarLemmas.{day_count-later_year, day_count-lt_year}
use Rattle.jiff_core.proofs.CalendarLemmas.{day_of_year_bound, days_in_year_bounds}
use Rattle.jiff_core.proofs.DateLemmas.{civil}
use Rattle.jiff_core.proofs.MarchLemmas.{day_count-early}
use Rattle.jiff_core.proofs.SignedLemmas.{signed_arith}
use Rattle.excel_dates.proofs.SerialSteps.{by_true, by_false, is_less, not_less}
use Rattle.excel_dates.specs.CalendarDates.{month_from, date_from, date_behind, date_of_day}

-- how far a day of a month lies behind the first of it, and of an earlier month
in_month : (y : ℤ) (m d : ℕ) → 1 ≤ d → day_count y m d - day_count y m 1 ≡ d - 1
in_month y m d first = omega (arith, day_count-day y m d 1 first (omega arith))

past_month : (y : ℤ) (month m d : ℕ) → 1 ≤ month → month < m → 1 ≤ d →
    day_count y (month + 1) 1 ≤ day_count y m d
past_month y month m d positive later first =
    let back : month + 1 - 1 ≡ month = omega arith in
    omega (
      arith,
      day_count-day_of_year y m d first,
      day_count-day_of_year y (month + 1) 1 (omega arith),
      days_of_months_mono y month (m - 1) (omega arith),
      ap (days_of_months y) back,
    )

-- the month of a date is found
month_is : (months year month m d : ℕ) → 1 ≤ month → month ≤ m → m ≤ month + months → 1 ≤ d →
    d ≤ days_in_month (pos year) m →
    month_from months year month (day_count (pos year) m d - day_count (pos year) month 1)
    ≡ (year, m, d)
unfolding month_from
month_is zero year month m d positive from to first last =
    let same : month ≡ m = omega arith in
    let days : day_count (pos year) m d - day_count (pos year) month 1 + 1 ≡ d =
    omega (arith, in_month (pos year) m d first, ap (λ k. day_count (pos year) k 1) same) in
    λ i. (year, same i, days i)
month_is (suc months) year month m d positive from to first last = elim (cases_lt month m) [
  | inl later ↦
      let next = day_count-next_month (pos year) month positive in
      let past = past_month (pos year) month m d positive later first in
      let behind : days_in_month (pos year) month
      ≤ day_count (pos year) m d - day_count (pos year) month 1 = omega (arith, next, past) in
      let left : day_count (pos year) m d - day_count (pos year) month 1
      - days_in_month (pos year) month
      ≡ day_count (pos year) m d - day_count (pos year) (month + 1) 1 =
      omega (arith, next, past) in
      by_false _ _ _ (not_less _ _ behind)
      ∙ (ap (month_from months year (month + 1)) left
      ∙ month_is months year (month + 1) m d (omega arith) (omega (arith, later))
      (omega (arith, to)) first last)
  | inr here ↦
      let same : month ≡ m = omega (arith, here, from) in
      let days : day_count (pos year) m d - day_count (pos year) month 1 + 1 ≡ d =
      omega (arith, in_month (pos year) m d first, ap (λ k. day_count (pos year) k 1) same) in
      let within : day_count (pos year) m d - day_count (pos year) month 1
      < days_in_month (pos year) month =
      omega (arith, days, last, ap (days_in_month (pos year)) same) in
      by_true _ _ _ (is_less _ _ within) ∙ λ i. (year, same i, days i)
]

in_year : (y m d : ℕ) → IsCivilDate (pos y) m d →
    day_count (pos y) m d < day_count (pos y) 1 1 + days_in_year (pos y)
in_year y m d civil_date =
    omega (
      arith,
      day_count-day_of_year (pos y) m d civil_date.2.0,
      day_of_year_bound (pos y) m d civil_date,
    )

year_found : (year y m d : ℕ) → year ≡ y → IsCivilDate (pos y) m d →
    month_from 11 year 1 (day_count (pos y) m d - day_count (pos year) 1 1) ≡ (y, m, d)
year_found year y m d same civil_date =
    subst (λ k. month_from 11 k 1 (day_count (pos y) m d - day_count (pos k) 1 1) ≡ (y, m, d))
    (sym same)
    (month_is 11 y 1 m d (omega arith) civil_date.1.0 (omega (arith, civil_date.1.1))
    civil_date.2.0 civil_date.2.1)

-- the year of a date is found
year_is : (years year y m d : ℕ) → year ≤ y → y ≤ year + years → IsCivilDate (pos y) m d →
    date_from years year (day_count (pos y) m d - day_count (pos year) 1 1) ≡ (y, m, d)
unfolding date_from
year_is zero year y m d from to civil_date = year_found year y m d (omega arith) civil_date
year_is (suc years) year y m d from to civil_date = elim (cases_lt year y) [
  | inl later ↦
      let next =
      day_count-next_year (pos year) (pos (year + 1)) (omega (arith, signed_arith))
      (omega (arith, signed_arith)) in
      let past =
      day_count-later_year (pos year) (pos y) (omega (arith, signed_arith))
      (omega (arith, signed_arith, later)) in
      let inside = day_count-day_of_year (pos y) m d civil_date.2.0 in
      let behind : days_in_year (pos year)
      ≤ day_count (pos y) m d - day_count (pos year) 1 1 =
      omega (arith, past, inside, civil_date.2.0) in
      let left : day_count (pos y) m d - day_count (pos year) 1 1 - days_in_year (pos year)
      ≡ day_count (pos y) m d - day_count (pos (year + 1)) 1 1 = omega (arith, next) in
      by_false _ _ _ (not_less _ _ behind)
      ∙ (ap (date_from years (year + 1)) left
      ∙ year_is years (year + 1) y m d (omega (arith, later)) (omega (arith, to)) civil_date)
  | inr here ↦
      let same : year ≡ y = omega (arith, here, from) in
      let within : day_count (pos y) m d - day_count (pos year) 1 1 < days_in_year (pos year) =
      omega (
        arith,
        in_year y m d civil_date,
        ap (λ k. day_count (pos k) 1 1) same,
        ap (λ k. days_in_year (pos k)) same,
        year_some year,
      ) in
      by_true _ _ _ (is_less _ _ within) ∙ year_found year y m d same civil_date
]
  where
    year_some : (year : ℕ) → 0 < days_in_year (pos year)
    year_some year = omega (arith, days_in_year_bounds (pos year))

-- the date that comes so many days behind a first of January
pub behind_is : (year days y m d : ℕ) → year ≤ y → y ≤ 9999 → IsCivilDate (pos y) m d →
    day_count (pos year) 1 1 + days ≡ day_count (pos y) m d → date_behind year days ≡ (y, m, d)
unfolding date_behind
behind_is year days y m d from to civil_date is =
    let same : days ≡ day_count (pos y) m d - day_count (pos year) 1 1 = omega (arith, is) in
    ap (date_from (9999 - year) year) same
    ∙ year_is (9999 - year) year y m d from (omega arith) civil_date

-- a date of the kit whose year is written without a sign
told_of : (date : Date) (year days : ℕ) (y : ℤ) → date.year ≡ y →
    epoch_day date ≡ days_from_civil (pos year) 1 1 +ℤ pos days →
    date_behind year days ≡ (unsigned_abs y, date.month, date.day)
told_of date year days (pos y) is day =
    let civil_date : IsCivilDate (pos y) date.month date.day =
    subst (λ (z : ℤ). IsCivilDate z date.month date.day) is (civil date) in
    let date_day : days_from_civil (pos y) date.month date.day
    ≡ days_from_civil (pos year) 1 1 +ℤ pos days =
    ap (λ (z : ℤ). days_from_civil z date.month date.day) (sym is) ∙ day in
    let count : day_count (pos year) 1 1 + days ≡ day_count (pos y) date.month date.day =
    omega (
      arith,
      signed_arith,
      date_day,
      days_from_civil-day_count (pos y) date.month date.day,
      days_from_civil-day_count (pos year) 1 1,
    ) in
    let from : year ≤ y = elim (cases_lt y year) [
      | inl before ↦
          absurd (omega (
            arith,
            count,
            day_count-lt_year (pos y) date.month date.day (pos year) 1 1 civil_date (omega arith)
                (omega (arith, signed_arith, before)),
          ))
      | inr at_least ↦ at_least
    ] in
    behind_is year days y date.month date.day from
    (omega (arith, signed_arith, civil_date.0)) civil_date count
told_of date year days (negsuc y) is day =
    let civil_date : IsCivilDate (negsuc y) date.month date.day =
    subst (λ (z : ℤ). IsCivilDate z date.month date.day) is (civil date) in
    let date_day : days_from_civil (negsuc y) date.month date.day
    ≡ days_from_civil (pos year) 1 1 +ℤ pos days =
    ap (λ (z : ℤ). days_from_civil z date.month date.day) (sym is) ∙ day in
    absurd (omega (
      arith,
      signed_arith,
      date_day,
      days_from_civil-day_count (negsuc y) date.month date.day,
      days_from_civil-day_count (pos year) 1 1,
      day_count-lt_year (negsuc y) date.month date.day (pos year) 1 1 civil_date (omega arith)
          (omega (arith, signed_arith)),
    ))

pub date_told : (date : Date) (year days written : ℕ) (first : ℤ) →
    first ≡ days_from_civil (pos year) 1 1 → written ≡ unsigned_abs date.year →
    epoch_day date ≡ first +ℤ pos days →
    Some (written, date.month, date.day) ≡ Some (date_behind year days)
date_told date year days written first is year_is day =
    ap (λ y. Some (y, date.month, date.day)) year_is
    ∙ ap Some (sym (told_of date year days date.year refl (day ∙ ap (λ (z : ℤ). z +ℤ pos days) is)))

pub first_of_1900 : negsuc 25566 ≡ days_from_civil (pos 1900) 1 1
first_of_1900 =
    omega (
      arith,
      signed_arith,
      days_from_civil-day_count (pos 1900) 1 1,
      day_count-early (pos 1900) 11899 1 1 refl (omega arith) (omega arith) (omega arith),
    )

pub first_of_1904 : negsuc 24106 ≡ days_from_civil (pos 1904) 1 1
first_of_1904 =
    omega (
      arith,
      signed_arith,
      days_from_civil-day_count (pos 1904) 1 1,
      day_count-early (pos 1904) 11903 1 1 refl (omega arith) (omega arith) (omega arith),
    )

pub of_1904 : (is_1904 : Bool) (day : ℕ) → is_1904 ≡ true →
    Some (date_behind 1904 day) ≡ Some (date_of_day is_1904 day)
unfolding date_of_day
of_1904 true day is = refl
of_1904 false day is = absurd (cc)

pub of_leap_day : (is_1904 : Bool) (day : ℕ) → is_1904 ≡ false → day ≡ 60 →
    Some (1900, 2, 29) ≡ Some (date_of_day is_1904 day)
unfolding date_of_day
of_leap_day true day is day_is = absurd (cc)
of_leap_day false day is day_is = ap (λ d. Some (date_of_day false d)) (sym day_is)

pub before_leap : (day : ℕ) → day < 60 → date_behind 1900 (day - 1) ≡ date_of_day false day
unfolding date_of_day
before_leap day before =
    sym (by_false (day == 60) (1900, 2, 29) _ (grind (arith, nat_tests))
    ∙ by_true (nat_lt day 60) (date_behind 1900 (day - 1)) (date_behind 1900 (day - 2))
    (is_less day 60 before))

pub behind_leap : (day : ℕ) → 60 < day → date_behind 1900 (day - 2) ≡ date_of_day false day
unfolding date_of_day
behind_leap day behind =
    sym (by_false (day == 60) (1900, 2, 29) _ (grind (arith, nat_tests))
    ∙ by_false (nat_lt day 60) (date_behind 1900 (day - 1)) (date_behind 1900 (day - 2))
    (not_less day 60 (omega (arith, behind))))

pub of_early : (is_1904 : Bool) (day : ℕ) → is_1904 ≡ false → day < 60 →
    Some (date_behind 1900 (day - 1)) ≡ Some (date_of_day is_1904 day)
of_early true day is before = absurd (cc)
of_early false day is before = ap Some (before_leap day before)

pub of_late : (is_1904 : Bool) (day : ℕ) → is_1904 ≡ false → (day ≡ 60 → ⊥) → 60 ≤ day →
    Some (date_behind 1900 (day - 2)) ≡ Some (date_of_day is_1904 day)
of_late true day is other behind = absurd (cc)
of_late false day is other behind =
    ap Some (behind_leap day (let h : 60 < day = omega (arith, other, behind) in h))
