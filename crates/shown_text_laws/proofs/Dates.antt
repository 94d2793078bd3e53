-- Dates and times as they are shown.
use Rattle.shown_text_laws.proofs.Tests.{and_true, both_hold, is_within}
use Rattle.std.proofs.Common.{◌≡◌, ◌∙◌, ◌++◌, ◌*◌, ◌/◌, ◌%◌, ◌<◌, ◌≤◌, ◌&&◌, ◌||◌, ◌==◌, ℕ, ℤ, Bool}
use Rattle.std.proofs.Common.{true, false, not, List, [], ◌∷◌, Option, Some, None, codes, refl, ap}
use Rattle.std.proofs.Common.{arith, append-nil, length, replicate, ◌-◌}
use lib.Utf8.{encode}
use Rattle.std.specs.Prelude.{nat_lt, nat_le, ◌^◌}
use Rattle.std.specs.Fmt.{decimal, sign_text}
use Rattle.std.specs.Int.{is_negative}
use Rattle.std.proofs.lemmas.Bool.Decides.{nat_tests}
use Rattle.cell_data.specs.Words.{number}
use Rattle.decimals.specs.Words.{nearest}
use Rattle.excel_dates.proofs.SerialSteps.{by_true, by_false, not_less}
use Rattle.excel_dates.specs.Words.{date_of_day, first_day, last_day, date_text, padded, day_length}
use Rattle.excel_dates.specs.Words.{is_below, milliseconds_of}
use Rattle.format_codes.specs.Choosing.{is_supported, number_section}
use Rattle.format_codes.specs.Kinds.{section_kind}
use Rattle.format_codes.specs.Sections.{code_pieces}
use Rattle.format_codes.specs.TimedPieces.{timed_pieces}
use Rattle.format_codes.specs.declared.piece.CodePiece.{CodePiece}
use Rattle.format_codes.specs.declared.piece.CodePiece.TheVariants as piece
use Rattle.format_codes.specs.declared.piece.TimeUnit.TheVariants.{Year, Month, Day, Hour, Minute}
use Rattle.format_codes.specs.declared.piece.TimeUnit.TheVariants.{Second}
use Rattle.shown_text.specs.DateTexts as shown
use Rattle.shown_text.specs.Words.{general_text, longest_time, shown_time, pieces_at, shown_date}
use Rattle.shown_text.specs.DateTexts.{date_shown as shown_date_text}
use Rattle.shown_text.specs.ShownText.{shown_text}
use Rattle.shown_text.proofs.SizeSteps.{some_digits}
use Rattle.shown_text_laws.specs.ReadTimes.{IsTimeOf}

abbrev iso_pieces : List CodePiece
iso_pieces =
    piece.TimePart Year 4 ∷ piece.Literal 45 ∷ piece.TimePart Month 2 ∷ piece.Literal 45
    ∷ piece.TimePart Day 2 ∷ []

abbrev clock_pieces : List CodePiece
clock_pieces =
    piece.Passed Hour 1 ∷ piece.Literal 58 ∷ piece.TimePart Minute 2 ∷ piece.Literal 58
    ∷ piece.TimePart Second 2 ∷ piece.SecondDigits 3 ∷ []

under_iso : (is_1904 : Bool) (days : ℤ × ℤ)
    → shown_text is_1904 (codes "yyyy-mm-dd") (number days)
    ≡ shown.date_shown is_1904 iso_pieces false days
unfolding shown_text number_section is_supported code_pieces section_kind timed_pieces
under_iso is_1904 days = refl

under_clock : (is_1904 : Bool) (days : ℤ × ℤ)
    → shown_text is_1904 (codes "[h]:mm:ss.000") (number days)
    ≡ shown.date_shown is_1904 clock_pieces false days
unfolding shown_text number_section is_supported code_pieces section_kind timed_pieces
under_clock is_1904 days = refl

last_bound : (is_1904 : Bool) → last_day is_1904 ≤ 2958465
last_bound true = omega arith
last_bound false = omega arith

or_true : (b : Bool) → (b || true) ≡ true
or_true true = refl
or_true false = refl

-- no place of a second is rounded away
iso_told : (days : ℤ × ℤ) → milliseconds_of days ≤ longest_time
    → shown.told_milliseconds iso_pieces days ≡ Some (milliseconds_of days)
iso_told days few =
    let ms = milliseconds_of days in
    let same : nearest 0 ms * 10 ^ 0 ≡ ms = omega arith in
    by_true (nat_le ms longest_time) (Some (nearest 0 ms * 10 ^ 0)) None
    (is_within ms longest_time few) ∙ ap Some same

clock_told : (days : ℤ × ℤ) → milliseconds_of days ≤ longest_time
    → shown.told_milliseconds clock_pieces days ≡ Some (milliseconds_of days)
clock_told days few =
    let ms = milliseconds_of days in
    let same : nearest 0 ms * 10 ^ 0 ≡ ms = omega arith in
    by_true (nat_le ms longest_time) (Some (nearest 0 ms * 10 ^ 0)) None
    (is_within ms longest_time few) ∙ ap Some same

iso_of : Option (ℕ × ℕ × ℕ) → List ℕ
iso_of date =
    shown.date_part_text date Year 4 ++ ((45 ∷ []) ++ (shown.date_part_text date Month 2
    ++ ((45 ∷ []) ++ (shown.date_part_text date Day 2 ++ []))))

iso_pieces_at : (is_1904 : Bool) (ms : ℕ)
    → pieces_at (shown_time is_1904 iso_pieces ms) iso_pieces
    ≡ iso_of (shown_date is_1904 (ms / day_length))
unfolding iso_of encode
iso_pieces_at is_1904 ms = refl

iso_written : (date : ℕ × ℕ × ℕ) → iso_of (Some date) ≡ date_text date
unfolding iso_of encode
iso_written date =
    ap (λ day. padded 4 date.0 ++ 45 ∷ (padded 2 date.1 ++ 45 ∷ day)) (append-nil (padded 2 date.2))

not_first : (is_1904 : Bool) (day : ℕ) → first_day is_1904 ≤ day
    → (not is_1904 && (day == 0)) ≡ false
not_first true day first = refl
not_first false day first = grind (arith, nat_tests)

day_shown : (is_1904 : Bool) (day : ℕ) → first_day is_1904 ≤ day → day ≤ last_day is_1904
    → shown_date is_1904 day ≡ Some (date_of_day is_1904 day)
day_shown is_1904 day first last =
    by_false (nat_lt (last_day is_1904) day) None _ (not_less (last_day is_1904) day last)
    ∙ by_false (not is_1904 && (day == 0)) (Some (1900, 1, 0)) (Some (date_of_day is_1904 day))
    (not_first is_1904 day first)

pub dates : (is_1904 : Bool) (days : ℤ × ℤ) → is_negative days.0 ≡ false
    → first_day is_1904 ≤ milliseconds_of days / day_length
    → milliseconds_of days / day_length ≤ last_day is_1904
    → shown_text is_1904 (codes "yyyy-mm-dd") (number days)
    ≡ date_text (date_of_day is_1904 (milliseconds_of days / day_length))
unfolding shown_date_text
dates is_1904 days above first last =
    let ms = milliseconds_of days in
    let day = ms / day_length in
    let bound = last_bound is_1904 in
    let few : ms ≤ longest_time = omega arith in
    let positive : (is_below days && true) ≡ false =
    ap (λ b. (b && not (ms == 0)) && true) above in
    under_iso is_1904 days
    ∙ ap (shown.text_if_told is_1904 iso_pieces (is_below days && true) days) (iso_told days few)
    ∙ ap (λ below. shown.shown_with_sign is_1904 iso_pieces below days ms) positive
    ∙ by_true (shown.has_time is_1904 iso_pieces false ms)
    (pieces_at (shown_time is_1904 iso_pieces ms) iso_pieces) (general_text days)
    (both_hold (is_1904 || true) (nat_le day (last_day is_1904)) (or_true is_1904)
    (is_within day (last_day is_1904) last))
    ∙ iso_pieces_at is_1904 ms
    ∙ ap iso_of (day_shown is_1904 day first last)
    ∙ iso_written (date_of_day is_1904 day)

-- the hours have no zeros in front
no_zeros : (n : ℕ) → n < 2 ^ 128 → padded 1 n ≡ decimal n
no_zeros n small =
    let some = some_digits n small in
    let none : 1 - length (decimal n) ≡ 0 = omega (arith, some) in
    ap (λ k. replicate k 48 ++ decimal n) none

clock_written : (ms : ℕ) → ms ≤ longest_time → IsTimeOf ms (decimal (ms / 3600000)
    ++ 58 ∷ (padded 2 (ms / 60000 % 60) ++ 58 ∷ (padded 2 (ms / 1000 % 60)
    ++ 46 ∷ padded 3 (ms % 1000))))
clock_written ms few = record {
  hours = ms / 3600000;
  minutes = ms / 60000 % 60;
  seconds = ms / 1000 % 60;
  thousandths = ms % 1000;
  written = refl;
  minutes_fit = omega arith;
  seconds_fit = omega arith;
  thousandths_fit = omega arith;
  told = omega arith;
}

clock_pieces_at : (is_1904 : Bool) (ms : ℕ) → ms ≤ longest_time
    → pieces_at (shown_time is_1904 clock_pieces ms) clock_pieces
    ≡ decimal (ms / 3600000) ++ 58 ∷ (padded 2 (ms / 60000 % 60) ++ 58 ∷ (padded 2 (ms / 1000 % 60)
    ++ 46 ∷ padded 3 (ms % 1000)))
unfolding encode
clock_pieces_at is_1904 ms few =
    let small : ms / 3600000 < 2 ^ 128 = omega arith in
    let same : ms % 1000 / 10 ^ 0 ≡ ms % 1000 = omega arith in
    (λ i. no_zeros (ms / 3600000) small i ++ 58 ∷ (padded 2 (ms / 60000 % 60)
    ++ 58 ∷ (padded 2 (ms / 1000 % 60) ++ 46 ∷ (append-nil (padded 3 (same i)) i))))

pub times : (is_1904 : Bool) (days : ℤ × ℤ) → milliseconds_of days ≤ longest_time
    → (text : List ℕ) × IsTimeOf (milliseconds_of days) text
    × (shown_text is_1904 (codes "[h]:mm:ss.000") (number days)
    ≡ sign_text (is_below days) ++ text)
unfolding shown_date_text
times is_1904 days told =
    let ms = milliseconds_of days in
    let text = decimal (ms / 3600000) ++ 58 ∷ (padded 2 (ms / 60000 % 60)
    ++ 58 ∷ (padded 2 (ms / 1000 % 60) ++ 46 ∷ padded 3 (ms % 1000))) in (
      text,
      clock_written ms told,
      under_clock is_1904 days
          ∙ ap (shown.text_if_told is_1904 clock_pieces (is_below days && true) days)
          (clock_told days told)
          ∙ (λ i. sign_text (and_true (is_below days) i) ++ clock_pieces_at is_1904 ms told i),
    )
