-- Days and dates, in both calendars.
use Rattle.std.proofs.Common.{◌≡◌, ℕ, ◌+◌, ◌-◌, ◌<◌, ◌≤◌, ◌==◌, ◌&&◌, Bool, true, false, refl, sym}
use Rattle.std.proofs.Common.{ap, subst, ◌∙◌, arith, inl, inr, pos}
use Rattle.std.specs.Prelude.{nat_lt}
use Rattle.std.proofs.lemmas.Bool.{cases_lt}
use Rattle.std.proofs.lemmas.Bool.Decides.{nat_tests}
use Rattle.jiff_core.specs.Calendar.{days_in_month, day_count, IsCivilDate}
use Rattle.jiff_core.proofs.CalendarLemmas.{day_count-day_of_year, day_count-later_year}
use Rattle.jiff_core.proofs.MarchLemmas.{day_count-early, day_count-late}
use Rattle.jiff_core.proofs.SignedLemmas.{signed_arith}
use Rattle.excel_dates.specs.CalendarDates.{date_behind, date_of_day, day_of_date, days_between}
use Rattle.excel_dates.specs.CalendarDates.{is_leap_day, first_day, last_day, IsDateOf, IsNoLater}
use Rattle.excel_dates.proofs.Counting.{behind_is, before_leap, behind_leap}
use Rattle.excel_dates.proofs.Found.{Found, behind_found, found_civil, ordered, count_1900}
use Rattle.excel_dates.proofs.Found.{count_1904}
use Rattle.excel_dates.proofs.SerialSteps.{by_true, by_false, is_less, not_less}

-- the date of a day from 1900 before the one that no calendar has, and behind it
early : (day : ℕ) → 1 ≤ day → day < 60 →
    Found 1900 9999 (4346385 + day) (date_of_day false day)
early day first before =
    subst (Found 1900 9999 (4346385 + day)) (before_leap day before)
    (subst (λ (count : ℕ). Found 1900 9999 count (date_behind 1900 (day - 1)))
    (omega (arith, count_1900, first))
    (behind_found 1900 (day - 1) (omega arith) (omega (arith, count_1900, before))))

late : (day : ℕ) → 60 < day → day ≤ 2958465 →
    Found 1900 9999 (4346384 + day) (date_of_day false day)
late day behind last =
    subst (Found 1900 9999 (4346384 + day)) (behind_leap day behind)
    (subst (λ (count : ℕ). Found 1900 9999 count (date_behind 1900 (day - 2)))
    (omega (arith, count_1900, behind))
    (behind_found 1900 (day - 2) (omega arith) (omega (arith, count_1900, behind, last))))

of_leap : (day : ℕ) → day ≡ 60 → date_of_day false day ≡ (1900, 2, 29)
unfolding date_of_day
of_leap day is = ap (date_of_day false) is

from_1904 : (day : ℕ) → day ≤ 2957003 → Found 1904 9999 (4347846 + day) (date_of_day true day)
unfolding date_of_day
from_1904 day last =
    subst (λ (count : ℕ). Found 1904 9999 count (date_behind 1904 day))
    (ap (λ k. k + day) count_1904)
    (behind_found 1904 day (omega arith) (omega (arith, count_1904, last)))

-- no calendar has 1900-02-29
both : (a b : Bool) → (a && b) ≡ true → (a ≡ true) × (b ≡ true)
both true b is = (refl, is)
both false b is = (is, absurd (cc))

leap_is : (date : ℕ × ℕ × ℕ) → is_leap_day date ≡ true →
    (date.0 ≡ 1900) × (date.1 ≡ 2) × (date.2 ≡ 29)
leap_is date is =
    let (year, rest) = both (date.0 == 1900) ((date.1 == 2) && (date.2 == 29)) is in
    let (month, day) = both (date.1 == 2) (date.2 == 29) rest in (
      grind (arith, nat_tests, year),
      grind (arith, nat_tests, month),
      grind (arith, nat_tests, day),
    )

no_leap : (date : ℕ × ℕ × ℕ) → date.2 ≤ days_in_month (pos date.0) date.1 →
    is_leap_day date ≡ false
no_leap date last = by_test (is_leap_day date) refl
  where
    by_test : (test : Bool) → is_leap_day date ≡ test → test ≡ false
    by_test false is = refl
    by_test true is =
        let (year, month, day) = leap_is date is in
        let length : days_in_month (pos date.0) date.1 ≡ 28 =
        (λ i. days_in_month (pos (year i)) (month i)) in
        absurd (omega (arith, length, day, last))

day_from : (date : ℕ × ℕ × ℕ) → is_leap_day date ≡ false → days_between 1900 date < 59 →
    day_of_date false date ≡ days_between 1900 date + 1
unfolding day_of_date
day_from date none before =
    by_false (is_leap_day date) 60 _ none
    ∙ by_true (nat_lt (days_between 1900 date) 59) (days_between 1900 date + 1) _
    (is_less _ _ before)

day_past : (date : ℕ × ℕ × ℕ) → is_leap_day date ≡ false → 59 ≤ days_between 1900 date →
    day_of_date false date ≡ days_between 1900 date + 2
unfolding day_of_date
day_past date none behind =
    by_false (is_leap_day date) 60 _ none
    ∙ by_false (nat_lt (days_between 1900 date) 59) (days_between 1900 date + 1) _
    (not_less _ _ behind)

day_at : (date : ℕ × ℕ × ℕ) → is_leap_day date ≡ true → day_of_date false date ≡ 60
unfolding day_of_date
day_at date is = by_true (is_leap_day date) 60 _ is

between_1904 : (date : ℕ × ℕ × ℕ) → day_of_date true date ≡ days_between 1904 date
unfolding day_of_date
between_1904 date = refl

pub day_back : (is_1904 : Bool) (day : ℕ) → first_day is_1904 ≤ day → day ≤ last_day is_1904 →
    day_of_date is_1904 (date_of_day is_1904 day) ≡ day
day_back true day first last =
    let found = from_1904 day last in
    omega (arith, between_1904 (date_of_day true day), found.before, count_1904)
day_back false day first last = elim (cases_lt day 60) [
  | inl before ↦
      let found = early day first before in
      let between : days_between 1900 (date_of_day false day) ≡ day - 1 =
      omega (arith, found.before, count_1900) in
      omega (
        arith,
        day_from (date_of_day false day) (no_leap (date_of_day false day) found.day.1)
            (omega (arith, between, before, first)),
        between,
        first,
      )
  | inr above ↦ elim (cases_lt 60 day) [
    | inl behind ↦
        let found = late day behind last in
        let between : days_between 1900 (date_of_day false day) ≡ day - 2 =
        omega (arith, found.before, count_1900) in
        omega (
          arith,
          day_past (date_of_day false day) (no_leap (date_of_day false day) found.day.1)
              (omega (arith, between, behind)),
          between,
          behind,
        )
    | inr at_most ↦
        let is : day ≡ 60 = omega (arith, above, at_most) in
        day_at (date_of_day false day) (ap is_leap_day (of_leap day is)) ∙ sym is
  ]
]

-- a date has as many days before it as lie between it and the first
between_is : (year : ℕ) (date : ℕ × ℕ × ℕ) → year ≤ date.0 →
    IsCivilDate (pos date.0) date.1 date.2 →
    day_count (pos year) 1 1 + days_between year date ≡ day_count (pos date.0) date.1 date.2
between_is year date from civil_date =
    let inside = day_count-day_of_year (pos date.0) date.1 date.2 civil_date.2.0 in
    elim (cases_lt year date.0) [
      | inl later ↦
          omega (
            arith,
            inside,
            civil_date.2.0,
            day_count-later_year (pos year) (pos date.0) (omega (arith, signed_arith))
                (omega (arith, signed_arith, later)),
          )
      | inr at_most ↦
          let same : year ≡ date.0 = omega (arith, at_most, from) in
          omega (arith, inside, civil_date.2.0, ap (λ y. day_count (pos y) 1 1) same)
    ]

date_is : (year : ℕ) (date : ℕ × ℕ × ℕ) → year ≤ date.0 → IsCivilDate (pos date.0) date.1 date.2 →
    date_behind year (days_between year date) ≡ date
date_is year date from civil_date =
    behind_is year (days_between year date) date.0 date.1 date.2 from
    (omega (arith, signed_arith, civil_date.0)) civil_date (between_is year date from civil_date)

of_1904 : (day : ℕ) → date_of_day true day ≡ date_behind 1904 day
unfolding date_of_day
of_1904 day = refl

pub date_back : (is_1904 : Bool) (date : ℕ × ℕ × ℕ) → IsDateOf is_1904 date →
    date_of_day is_1904 (day_of_date is_1904 date) ≡ date
date_back true date is =
    of_1904 (day_of_date true date)
    ∙ (ap (date_behind 1904) (between_1904 date) ∙ date_is 1904 date is.0 is.1)
date_back false date (inl leap) =
    let (year, month, day) = leap_is date leap in
    of_leap (day_of_date false date) (day_at date leap)
    ∙ sym (λ i. (year i, month i, day i))
date_back false date (inr (from, civil_date)) =
    let none = no_leap date civil_date.2.1 in
    let is = date_is 1900 date from civil_date in
    elim (cases_lt (days_between 1900 date) 59) [
      | inl before ↦
          let day = day_from date none before in
          sym (before_leap (day_of_date false date) (omega (arith, day, before)))
          ∙ (ap (date_behind 1900) (omega (arith, day)) ∙ is)
      | inr behind ↦
          let day = day_past date none behind in
          sym (behind_leap (day_of_date false date) (omega (arith, day, behind)))
          ∙ (ap (date_behind 1900) (omega (arith, day)) ∙ is)
    ]

pub apart : (day : ℕ) → day ≤ last_day true → date_of_day false (day + 1462) ≡ date_of_day true day
apart day last =
    let date = date_of_day true day in
    let found = from_1904 day last in
    let civil_date = found_civil 1904 9999 (4347846 + day) date (omega arith) found in
    sym (behind_leap (day + 1462) (omega arith))
    ∙ behind_is 1900 (day + 1462 - 2) date.0 date.1 date.2 (omega (arith, found.from)) found.to
    civil_date (omega (arith, count_1900, found.before))

-- the day that no calendar has stands behind those before it and in front of the others
count_march : day_count (pos 1900) 3 1 ≡ 4346445
count_march =
    day_count-late (pos 1900) 11900 3 1 refl (omega arith) (omega arith) (omega arith)

march : Found 1900 9999 4346445 (1900, 3, 1)
march = record {
  from = omega arith;
  to = omega arith;
  month = (omega arith, omega arith);
  day = (omega arith, omega arith);
  before = count_march;
}

february : Found 1900 9999 4346444 (1900, 2, 28)
february = record {
  from = omega arith;
  to = omega arith;
  month = (omega arith, omega arith);
  day = (omega arith, omega arith);
  before = day_count-early (pos 1900) 11899 2 28 refl (omega arith) (omega arith) (omega arith);
}

up_to_leap : (date : ℕ × ℕ × ℕ) → IsNoLater date (1900, 2, 28) → IsNoLater date (1900, 2, 29)
up_to_leap date (inl year) = inl year
up_to_leap date (inr (year, inl month)) = inr (year, inl month)
up_to_leap date (inr (year, inr (month, day))) = inr (year, inr (month, omega (arith, day)))

from_leap : (date : ℕ × ℕ × ℕ) → IsNoLater (1900, 3, 1) date → IsNoLater (1900, 2, 29) date
from_leap date (inl year) = inl year
from_leap date (inr (year, inl month)) = inr (year, inl (omega (arith, month)))
from_leap date (inr (year, inr (month, day))) = inr (year, inl (omega (arith, month)))

pub no_earlier : (is_1904 : Bool) (one other : ℕ) → first_day is_1904 ≤ one → one ≤ other →
    other ≤ last_day is_1904 → IsNoLater (date_of_day is_1904 one) (date_of_day is_1904 other)
no_earlier true one other first at_most last =
    ordered 1904 9999 (4347846 + one) (4347846 + other) (date_of_day true one)
    (date_of_day true other) (omega arith) (from_1904 one (omega (arith, at_most, last)))
    (from_1904 other last) (omega (arith, at_most))
no_earlier false one other first at_most last = elim (cases_lt one 60) [
  | inl before ↦ elim (cases_lt other 60) [
    | inl other_before ↦
        ordered 1900 9999 (4346385 + one) (4346385 + other) (date_of_day false one)
        (date_of_day false other) (omega arith) (early one first before)
        (early other (omega (arith, first, at_most)) other_before) (omega (arith, at_most))
    | inr above ↦ elim (cases_lt 60 other) [
      | inl behind ↦
          ordered 1900 9999 (4346385 + one) (4346384 + other) (date_of_day false one)
          (date_of_day false other) (omega arith) (early one first before)
          (late other behind last) (omega (arith, before, behind))
      | inr here ↦
          subst (IsNoLater (date_of_day false one))
          (sym (of_leap other (omega (arith, above, here))))
          (up_to_leap (date_of_day false one)
          (ordered 1900 9999 (4346385 + one) 4346444 (date_of_day false one) (1900, 2, 28)
          (omega arith) (early one first before) february (omega (arith, before))))
    ]
  ]
  | inr above ↦ elim (cases_lt 60 one) [
    | inl behind ↦
        ordered 1900 9999 (4346384 + one) (4346384 + other) (date_of_day false one)
        (date_of_day false other) (omega arith) (late one behind (omega (arith, at_most, last)))
        (late other (omega (arith, behind, at_most)) last) (omega (arith, at_most))
    | inr here ↦
        subst (λ date. IsNoLater date (date_of_day false other))
        (sym (of_leap one (omega (arith, above, here))))
        (elim (cases_lt 60 other) [
          | inl behind ↦
              from_leap (date_of_day false other)
              (ordered 1900 9999 4346445 (4346384 + other) (1900, 3, 1)
              (date_of_day false other) (omega arith) march (late other behind last)
              (omega (arith, behind)))
          | inr other_here ↦
              subst (IsNoLater (1900, 2, 29))
              (sym (of_leap other (omega (arith, above, at_most, other_here))))
              (inr (refl, inr (refl, omega arith)))
        ])
  ]
]
