-- The date of a day is one that the calendar has, and has as many days before it.
use Rattle.std.proofs.Common.{◌≡◌, ℕ, zero, suc, ◌+◌, ◌-◌, ◌<◌, ◌≤◌, refl, sym, ap, subst, arith}
use Rattle.std.proofs.Common.{inl, inr, pos}
use Rattle.std.proofs.lemmas.Bool.{cases_lt}
use Rattle.jiff_core.specs.Calendar.{days_in_month, days_in_year, day_count, IsCivilDate}
use Rattle.jiff_core.proofs.CalendarLemmas.{day_count-day, day_count-end, day_count-next_month}
use Rattle.jiff_core.proofs.CalendarLemmas.{day_count-next_year, day_count-last_of_year}
use Rattle.jiff_core.proofs.CalendarLemmas.{day_count-lt_year, day_count-lt_month}
use Rattle.jiff_core.proofs.MarchLemmas.{day_count-early}
use Rattle.jiff_core.proofs.SignedLemmas.{signed_arith}
use Rattle.excel_dates.specs.CalendarDates.{month_from, date_from, date_behind, IsNoLater}
use Rattle.excel_dates.proofs.SerialSteps.{by_true, by_false, is_less, not_less}

-- a date of the calendar in these years, with so many days before it
pub record Found (low high count : ℕ) (date : ℕ × ℕ × ℕ) : Type 0 where
  pub from : low ≤ date.0
  pub to : date.0 ≤ high
  pub month : (1 ≤ date.1) × (date.1 ≤ 12)
  pub day : (1 ≤ date.2) × (date.2 ≤ days_in_month (pos date.0) date.1)
  pub before : day_count (pos date.0) date.1 date.2 ≡ count

-- the first days of a month
day_found : (year month r : ℕ) → 1 ≤ month → month ≤ 12 → r < days_in_month (pos year) month →
    Found year year (day_count (pos year) month 1 + r) (year, month, r + 1)
day_found year month r low high within = record {
  from = omega arith;
  to = omega arith;
  month = (low, high);
  day = (omega arith, omega (arith, within));
  before = omega (
    arith,
    day_count-day (pos year) month (r + 1) 1 (omega arith) (omega arith),
  );
}

month_found : (months year month r : ℕ) → 1 ≤ month → month + months ≡ 12 →
    day_count (pos year) month 1 + r < day_count (pos year) 1 1 + days_in_year (pos year) →
    Found year year (day_count (pos year) month 1 + r) (month_from months year month r)
unfolding month_from
month_found zero year month r low last within =
    let december : month ≡ 12 = omega arith in
    let length : days_in_month (pos year) month ≡ 31 =
    ap (days_in_month (pos year)) december in
    day_found year month r low (omega arith)
    (omega (
      arith,
      within,
      length,
      day_count-last_of_year (pos year),
      day_count-day (pos year) 12 31 1 (omega arith) (omega arith),
      ap (λ k. day_count (pos year) k 1) december,
    ))
month_found (suc months) year month r low last within =
    elim (cases_lt r (days_in_month (pos year) month)) [
      | inl here ↦
          subst (Found year year (day_count (pos year) month 1 + r))
          (sym (by_true _ _ _ (is_less _ _ here)))
          (day_found year month r low (omega arith) here)
      | inr later ↦
          let next = day_count-next_month (pos year) month low in
          let total : day_count (pos year) (month + 1) 1 + (r - days_in_month (pos year) month)
          ≡ day_count (pos year) month 1 + r = omega (arith, next, later) in
          subst (Found year year (day_count (pos year) month 1 + r))
          (sym (by_false _ _ _ (not_less _ _ later)))
          (subst (λ (count : ℕ). Found year year count
          (month_from months year (month + 1) (r - days_in_month (pos year) month))) total
          (month_found months year (month + 1) (r - days_in_month (pos year) month) (omega arith)
          (omega arith) (omega (arith, total, within))))
    ]

wider : (low high more count : ℕ) (date : ℕ × ℕ × ℕ) → low ≤ high → high ≤ more →
    Found high high count date → Found low more count date
wider low high more count date below above found = record {
  from = omega (arith, found.from, below);
  to = omega (arith, found.to, above);
  month = found.month;
  day = found.day;
  before = found.before;
}

lower : (low next high count : ℕ) (date : ℕ × ℕ × ℕ) → low ≤ next → Found next high count date →
    Found low high count date
lower low next high count date below found = record {
  from = omega (arith, found.from, below);
  to = found.to;
  month = found.month;
  day = found.day;
  before = found.before;
}

year_found : (years year r high : ℕ) → year + years ≡ high →
    day_count (pos year) 1 1 + r < day_count (pos high) 1 1 + days_in_year (pos high) →
    Found year high (day_count (pos year) 1 1 + r) (date_from years year r)
unfolding date_from
year_found zero year r high last within =
    let same : high ≡ year = omega arith in
    wider year year high (day_count (pos year) 1 1 + r) (month_from 11 year 1 r) (omega arith)
    (omega arith)
    (month_found 11 year 1 r (omega arith) (omega arith)
    (subst (λ (h : ℕ). day_count (pos year) 1 1 + r
    < day_count (pos h) 1 1 + days_in_year (pos h)) same within))
year_found (suc years) year r high last within =
    elim (cases_lt r (days_in_year (pos year))) [
      | inl here ↦
          subst (Found year high (day_count (pos year) 1 1 + r))
          (sym (by_true _ _ _ (is_less _ _ here)))
          (wider year year high (day_count (pos year) 1 1 + r) (month_from 11 year 1 r)
          (omega arith) (omega arith)
          (month_found 11 year 1 r (omega arith) (omega arith) (omega (arith, here))))
      | inr later ↦
          let next =
          day_count-next_year (pos year) (pos (year + 1)) (omega (arith, signed_arith))
          (omega (arith, signed_arith)) in
          let total : day_count (pos (year + 1)) 1 1 + (r - days_in_year (pos year))
          ≡ day_count (pos year) 1 1 + r = omega (arith, next, later) in
          subst (Found year high (day_count (pos year) 1 1 + r))
          (sym (by_false _ _ _ (not_less _ _ later)))
          (lower year (year + 1) high (day_count (pos year) 1 1 + r)
          (date_from years (year + 1) (r - days_in_year (pos year))) (omega arith)
          (subst (λ (count : ℕ). Found (year + 1) high count
          (date_from years (year + 1) (r - days_in_year (pos year)))) total
          (year_found years (year + 1) (r - days_in_year (pos year)) high (omega arith)
          (omega (arith, total, within)))))
    ]

pub count_1900 : day_count (pos 1900) 1 1 ≡ 4346386
count_1900 = day_count-early (pos 1900) 11899 1 1 refl (omega arith) (omega arith) (omega arith)

pub count_1904 : day_count (pos 1904) 1 1 ≡ 4347846
count_1904 = day_count-early (pos 1904) 11903 1 1 refl (omega arith) (omega arith) (omega arith)

end_9999 : day_count (pos 9999) 1 1 + days_in_year (pos 9999) ≡ 7304850
end_9999 =
    omega (
      arith,
      day_count-end,
      day_count-next_year (pos 9999) (pos 10000) (omega (arith, signed_arith))
          (omega (arith, signed_arith)),
    )

pub behind_found : (year days : ℕ) → year ≤ 9999 → day_count (pos year) 1 1 + days < 7304850 →
    Found year 9999 (day_count (pos year) 1 1 + days) (date_behind year days)
unfolding date_behind
behind_found year days low within =
    year_found (9999 - year) year days 9999 (omega arith) (omega (arith, end_9999, within))

pub found_civil : (low high count : ℕ) (date : ℕ × ℕ × ℕ) → high ≤ 9999 →
    Found low high count date →
    IsCivilDate (pos date.0) date.1 date.2
found_civil low high count date last found = (
  (omega (arith, signed_arith), omega (arith, signed_arith, found.to)),
  found.month,
  found.day,
)

-- a date with more days before it is later
pub ordered : (low high one_count other_count : ℕ) (one other : ℕ × ℕ × ℕ) → high ≤ 9999 →
    Found low high one_count one → Found low high other_count other → one_count ≤ other_count →
    IsNoLater one other
ordered low high one_count other_count one other last found other_found at_most =
    let civil = found_civil low high one_count one last found in
    let other_civil = found_civil low high other_count other last other_found in
    elim (cases_lt one.0 other.0) [
      | inl earlier ↦ inl earlier
      | inr above ↦ elim (cases_lt other.0 one.0) [
        | inl later ↦
            absurd (omega (
              arith,
              found.before,
              other_found.before,
              at_most,
              day_count-lt_year (pos other.0) other.1 other.2 (pos one.0) one.1 one.2
                  other_civil found.day.0 (omega (arith, signed_arith, later)),
            ))
        | inr below ↦
            let year : one.0 ≡ other.0 = omega (arith, above, below) in
            let same : day_count (pos one.0) one.1 one.2 ≡ day_count (pos other.0) one.1 one.2 =
            ap (λ y. day_count (pos y) one.1 one.2) year in
            inr (
              year,
              elim (cases_lt one.1 other.1) [
                | inl earlier ↦ inl earlier
                | inr month_above ↦ elim (cases_lt other.1 one.1) [
                  | inl later ↦
                      absurd (omega (
                        arith,
                        same,
                        found.before,
                        other_found.before,
                        at_most,
                        day_count-lt_month (pos other.0) other.1 other.2 one.1 one.2
                            other_civil found.day.0 later,
                      ))
                  | inr month_below ↦
                      let month : one.1 ≡ other.1 = omega (arith, month_above, month_below) in
                      inr (
                        month,
                        omega (
                          arith,
                          same,
                          ap (λ m. day_count (pos other.0) m one.2) month,
                          found.before,
                          other_found.before,
                          at_most,
                          day_count-day (pos other.0) other.1 one.2 other.2 found.day.0
                              other_found.day.0,
                        ),
                      )
                ]
              ],
            )
      ]
    ]
