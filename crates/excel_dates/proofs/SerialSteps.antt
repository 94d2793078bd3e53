-- How many milliseconds a serial is, by its pieces.
use Rattle.std.proofs.Common.{◌≡◌, ℕ, ◌+◌, ◌-◌, ◌*◌, ◌/◌, ◌%◌, ◌^◌, ◌<◌, ◌≤◌, Bool, true, false}
use Rattle.std.proofs.Common.{cond, refl, sym, ap, ◌∙◌, arith, ℤ, pos, negsuc, ◌≤ℤ◌, ◌<ℤ◌}
use Rattle.std.specs.Prelude.{nat_abs, nat_lt}
use Rattle.std.proofs.Math.Nat.{pow-le-pow_right, add-mul-div_left, div-div-eq-div-mul}
use Rattle.std.proofs.Math.Nat.{div-eq_of_lt}
use Rattle.std.proofs.lemmas.Bool.Decides.{nat_tests}
use Rattle.std.proofs.lemmas.Grind.{pow_more}
use Rattle.std.proofs.lemmas.Int.{ints}
use Rattle.std.proofs.lemmas.Nat.{pow-add}
use Rattle.cell_data.specs.declared.value.ExcelDateTimeType.{ExcelDateTimeType}
use Rattle.cell_data.specs.declared.value.ExcelDateTimeType.TheVariants.{DateTime, TimeDelta}
use Rattle.decimals.specs.Words.{nearest}
use Rattle.decimals.proofs.Rounded.{unit_some}
use Rattle.excel_dates.specs.CalendarDates.{last_day}
use Rattle.excel_dates.specs.Moments.{moment_at, moment_of}
use Rattle.excel_dates.specs.Serials.{day_length, milliseconds_of, is_below}
use Rattle.excel_dates.specs.declared.moment.Moment.{Moment}
use Rattle.excel_dates.specs.declared.moment.Moment.TheVariants as moment

-- a test that is known
pub by_true : {A : Type 0} (test : Bool) (a b : A) → test ≡ true → cond test a b ≡ a
by_true true a b holds = refl
by_true false a b holds = absurd (cc)

pub by_false : {A : Type 0} (test : Bool) (a b : A) → test ≡ false → cond test a b ≡ b
by_false true a b none = absurd (cc)
by_false false a b none = refl

pub is_less : (m n : ℕ) → m < n → nat_lt m n ≡ true
is_less m n below = grind (arith, nat_tests)

pub not_less : (m n : ℕ) → n ≤ m → nat_lt m n ≡ false
not_less m n above = grind (arith, nat_tests)

pub few_units : (places : ℕ) → places ≤ 20 → 10 ^ places ≤ 10 ^ 20
few_units places few = pow-le-pow_right (omega arith) few

-- whole units in front are taken out
pub in_two : (days unit : ℕ) → 0 < unit →
    (days * day_length + unit / 2) / unit
    ≡ days / unit * day_length + (days % unit * day_length + unit / 2) / unit
in_two days unit positive =
    let parts : days * day_length + unit / 2
    ≡ (days % unit * day_length + unit / 2) + unit * (days / unit * day_length) = omega arith in
    ap (λ n. n / unit) parts
    ∙ (add-mul-div_left (days % unit * day_length + unit / 2) (days / unit * day_length) positive
    ∙ (let sum : (days % unit * day_length + unit / 2) / unit + days / unit * day_length
    ≡ days / unit * day_length + (days % unit * day_length + unit / 2) / unit = omega arith in sum))

pub in_two_places : (days places unit : ℕ) → unit ≡ 10 ^ places →
    nearest places (days * day_length)
    ≡ days / unit * day_length + nearest places (days % unit * day_length)
in_two_places days places unit is =
    in_two days (10 ^ places) (unit_some places)
    ∙ ap (λ u. days / u * day_length + nearest places (days % u * day_length)) (sym is)

divided : (days unit : ℕ) → 0 < unit →
    days / unit * day_length + days % unit * day_length / unit ≡ days * day_length / unit
divided days unit positive =
    let parts : days * day_length ≡ days % unit * day_length + unit * (days / unit * day_length) =
    omega arith in
    sym (ap (λ n. n / unit) parts
    ∙ (add-mul-div_left (days % unit * day_length) (days / unit * day_length) positive
    ∙ (let sum : days % unit * day_length / unit + days / unit * day_length
    ≡ days / unit * day_length + days % unit * day_length / unit = omega arith in sum)))

-- digits past the half of a unit decide nothing
spared : (n half spare : ℕ) → 0 < spare → 0 < half →
    (n + half * spare) / (half * 2 * spare) ≡ (n / spare + half) / (half * 2)
spared n half spare positive some =
    let product : half * 2 * spare ≡ spare * (half * 2) = omega arith in
    let other : n + half * spare ≡ n + spare * half = omega arith in
    (λ i. other i / product i)
    ∙ (sym (div-div-eq-div-mul (n + spare * half) spare (half * 2))
    ∙ ap (λ k. k / (half * 2)) (add-mul-div_left n half positive))

pub even_power : (k : ℕ) → 0 < k → 10 ^ (k - 1) * 5 * 2 ≡ 10 ^ k
even_power k positive =
    let power : 10 ^ (k - 1 + 1) ≡ 10 ^ (k - 1) * 10 = pow_more 10 (k - 1) in
    let same : k - 1 + 1 ≡ k = omega arith in
    omega (arith, power, ap (λ j. 10 ^ j) same)

pub halved : (k n : ℕ) → n ≡ k * 2 → n / 2 ≡ k
halved k n double = omega arith

pub places_spared : (n places : ℕ) → 20 < places →
    nearest places n ≡ nearest (places - 20) (n / 10 ^ 20)
places_spared n places many =
    let k = places - 20 in
    let half = 10 ^ (k - 1) * 5 in
    let unit : half * 2 ≡ 10 ^ k = even_power k (omega arith) in
    let sum : k + 20 ≡ places = omega arith in
    let whole : half * 2 * 10 ^ 20 ≡ 10 ^ places =
    ap (λ u. u * 10 ^ 20) unit ∙ (sym (pow-add 10 k 20) ∙ ap (λ j. 10 ^ j) sum) in
    let half_whole : 10 ^ places / 2 ≡ half * 10 ^ 20 =
    halved (half * 10 ^ 20) (10 ^ places) (omega (arith, whole)) in
    let half_unit : 10 ^ k / 2 ≡ half = halved half (10 ^ k) (omega (arith, unit)) in
    let some : 0 < half = omega (arith, unit_some (k - 1)) in
    (λ i. (n + half_whole i) / sym whole i)
    ∙ (spared n half (10 ^ 20) (unit_some 20) some
    ∙ λ i. (n / 10 ^ 20 + sym half_unit i) / unit i)

pub many_places : (days places spare left number : ℕ) → 20 < places → spare ≡ 10 ^ 20 →
    left ≡ places - 20 →
    number ≡ days / spare * day_length + days % spare * day_length / spare →
    nearest left number ≡ nearest places (days * day_length)
many_places days places spare left number many is left_is number_is =
    let power : number ≡ days * day_length / 10 ^ 20 =
    number_is
    ∙ (divided days spare (omega (arith, is, unit_some 20))
    ∙ ap (λ u. days * day_length / u) is) in
    (λ i. nearest (left_is i) (power i)) ∙ sym (places_spared (days * day_length) places many)

pub nothing_left : (left number : ℕ) → 39 ≤ left → number < 2 ^ 128 → 0 ≡ nearest left number
nothing_left left number over small =
    let unit : 10 ^ 39 ≤ 10 ^ left = pow-le-pow_right (omega arith) over in
    let less : number + 10 ^ left / 2 < 10 ^ left = omega (arith, unit, small) in
    sym (div-eq_of_lt less)

-- a serial by the sign of its power
pub whole_days : (m e : ℤ) (places : ℕ) → pos 0 ≤ℤ e → places ≡ nat_abs e →
    nat_abs m * day_length * 10 ^ places ≡ milliseconds_of (m, e)
unfolding milliseconds_of
whole_days m (pos n) places above is = ap (λ k. nat_abs m * day_length * 10 ^ k) is
whole_days m (negsuc n) places above is = absurd (omega (arith, ints))

pub part_days : (m e : ℤ) (places : ℕ) → e <ℤ pos 0 → places ≡ nat_abs e →
    nearest places (nat_abs m * day_length) ≡ milliseconds_of (m, e)
unfolding milliseconds_of
part_days m (pos n) places below is = absurd (omega (arith, ints))
part_days m (negsuc n) places below is =
    let same : places ≡ n + 1 = omega (arith, is) in
    ap (λ k. nearest k (nat_abs m * day_length)) same

-- past 128 bits nothing has a date
past_days : (is_1904 : Bool) (time : ℕ) → 2 ^ 128 ≤ time → moment.Untold ≡ moment_at is_1904 time
past_days is_1904 time over =
    sym (by_true (nat_lt (last_day is_1904) (time / day_length)) moment.Untold _
    (is_less (last_day is_1904) (time / day_length) (past is_1904 time over)))
  where
    past : (is_1904 : Bool) (time : ℕ) → 2 ^ 128 ≤ time → last_day is_1904 < time / day_length
    past true time over = omega (arith, over)
    past false time over = omega (arith, over)

either_untold : (below : Bool) (other : Moment) → moment.Untold ≡ other →
    moment.Untold ≡ cond below moment.Untold other
either_untold true other is = refl
either_untold false other is = is

pub untold : (days : ℤ × ℤ) (kind : ExcelDateTimeType) (is_1904 : Bool) →
    2 ^ 128 ≤ milliseconds_of days → moment.Untold ≡ moment_of days kind is_1904
unfolding moment_of
untold days DateTime is_1904 over =
    either_untold (is_below days) (moment_at is_1904 (milliseconds_of days))
    (past_days is_1904 (milliseconds_of days) over)
untold days TimeDelta is_1904 over =
    sym (by_false (nat_lt (milliseconds_of days) (2 ^ 128)) _ moment.Untold
    (not_less (milliseconds_of days) (2 ^ 128) over))

pub passed : (days : ℤ × ℤ) (kind : ExcelDateTimeType) (is_1904 below : Bool) (time : ℕ) →
    kind ≡ TimeDelta → below ≡ is_below days → time ≡ milliseconds_of days → time < 2 ^ 128 →
    moment.Passed below time ≡ moment_of days kind is_1904
unfolding moment_of
passed days DateTime is_1904 below time is below_is time_is fits = absurd (cc)
passed days TimeDelta is_1904 below time is below_is time_is fits =
    (λ i. moment.Passed (below_is i) (time_is i))
    ∙ sym (by_true (nat_lt (milliseconds_of days) (2 ^ 128))
    (moment.Passed (is_below days) (milliseconds_of days)) moment.Untold
    (is_less (milliseconds_of days) (2 ^ 128) (omega (arith, time_is, fits))))

pub below_zero : (days : ℤ × ℤ) (kind : ExcelDateTimeType) (is_1904 below : Bool) →
    kind ≡ DateTime → below ≡ is_below days → below ≡ true →
    moment.Untold ≡ moment_of days kind is_1904
unfolding moment_of
below_zero days DateTime is_1904 below is below_is holds =
    ap (λ t. cond t moment.Untold (moment_at is_1904 (milliseconds_of days)))
    (sym holds ∙ below_is)
below_zero days TimeDelta is_1904 below is below_is holds = absurd (cc)

pub dated : (days : ℤ × ℤ) (kind : ExcelDateTimeType) (is_1904 below : Bool) (time : ℕ) →
    kind ≡ DateTime → below ≡ is_below days → below ≡ false → time ≡ milliseconds_of days →
    moment_at is_1904 time ≡ moment_of days kind is_1904
unfolding moment_of
dated days DateTime is_1904 below time is below_is none time_is =
    ap (moment_at is_1904) time_is
    ∙ ap (λ t. cond t moment.Untold (moment_at is_1904 (milliseconds_of days)))
    (sym none ∙ below_is)
dated days TimeDelta is_1904 below time is below_is none time_is = absurd (cc)
