-- Sections of fractions, such as `# ?/?` and `# ??/16`.
use Rattle.std.specs.Prelude.{ℕ, ◌+◌, ◌-◌, ◌*◌, ◌/◌, ◌%◌, ◌^◌, ◌==◌, ◌&&◌, ◌||◌, nat_lt, not, Bool}
use Rattle.std.specs.Prelude.{false, if◌then◌else◌, List, [], ◌∷◌, ◌++◌, length, take, drop}
use Rattle.std.specs.Prelude.{replicate, ℤ, pos, negsuc}
use Rattle.std.specs.Fmt.{decimal}
use Rattle.std.specs.List.{prefix_len, suffix_len, before_first, after_first, after_last}
use Rattle.std.specs.List.{take_while, fold, range_with_len}
use Rattle.format_codes.specs.declared.piece.CodePiece.{CodePiece}
use Rattle.format_codes.specs.Words.{from_denominator, is_denominator, is_fixed, has, is_digit}
use Rattle.format_codes.specs.Words.{is_slash_piece, is_zero_place}
use Rattle.shown_text.specs.declared.fractions.Fraction.{Fraction}
use Rattle.shown_text.specs.FractionPlaces.{is_space_place, is_empty_place, width, spaces}
use Rattle.shown_text.specs.FractionPlaces.{texts_between, denominator_text}
use Rattle.shown_text.specs.FractionArithmetic.{nearest_over, distance, fixed_denominator}
use Rattle.shown_text.specs.FractionArithmetic.{most_denominator}
use Rattle.shown_text.specs.Digits.{place_count, with_digits, is_grouped, last_place}

-- the pieces of a section of fractions: the places of a whole number with what stands between them
-- and the places of the numerator; those; what stands on either side of the slash; the denominator;
-- and what stands behind that
pub record FractionParts : Type 0 where
  pub whole : List CodePiece
  pub between : List CodePiece
  pub over : List CodePiece
  pub before : List CodePiece
  pub behind : List CodePiece
  pub under : List CodePiece
  pub rest : List CodePiece

-- up to the last place of a digit
abbrev pub to_last_place : List CodePiece → List CodePiece
to_last_place pieces = take (last_place pieces) pieces

-- how many places of digits end some pieces
abbrev pub last_run : List CodePiece → ℕ
last_run pieces = suffix_len is_digit pieces

-- the pieces before the slash up to the numerator
abbrev pub before_numerator : List CodePiece → List CodePiece
before_numerator front =
    let upto = to_last_place front in take (length upto - last_run upto) upto

-- the parts of a section, by what stands before and behind the slash
abbrev pub parts_around : List CodePiece → List CodePiece → FractionParts
parts_around front back = record {
  whole = if has is_digit (before_numerator front)
      then to_last_place (before_numerator front) else [];
  between = if has is_digit (before_numerator front)
      then after_last is_digit (before_numerator front) else before_numerator front;
  over = drop (length (before_numerator front)) (to_last_place front);
  before = after_last is_digit front;
  behind = take_while (λ p. not (is_denominator p)) back;
  under = take_while is_denominator (from_denominator back);
  rest = drop (prefix_len is_denominator (from_denominator back)) (from_denominator back);
}

-- the parts of a section of a fraction
abbrev pub fraction_parts : List CodePiece → FractionParts
fraction_parts section =
    parts_around (before_first is_slash_piece section) (after_first is_slash_piece section)

-- the fraction of this denominator that is nearest to n / unit
abbrev pub fraction_over : ℕ → ℕ → ℕ → Fraction
fraction_over n unit under = record { over = nearest_over n unit under; under = under }

-- the nearer of two fractions, and the first where they are as near
abbrev pub nearer : ℕ → ℕ → Fraction → Fraction → Fraction
nearer n unit f g =
    if nat_lt (distance n unit g.over g.under * f.under) (distance n unit f.over f.under * g.under)
    then g else f

-- the nearest fraction to n / unit with a denominator up to `most`, of those that are as near the
-- one with the least denominator
abbrev pub nearest_fraction : ℕ → ℕ → ℕ → Fraction
nearest_fraction n unit most =
    fold (λ f under. nearer n unit f (fraction_over n unit under)) (fraction_over n unit 1)
    (range_with_len 2 (most - 1))

-- the fraction that is shown of n / unit
abbrev pub found_fraction : List CodePiece → ℕ → ℕ → Fraction
found_fraction under n unit =
    if is_fixed under then fraction_over n unit (fixed_denominator under)
    else nearest_fraction n unit (most_denominator under)

-- the digits of a whole number with so many zeros behind them, and `0` of 0
abbrev pub whole_digits : ℕ → ℕ → List ℕ
whole_digits n zeros = if n == 0 then 48 ∷ [] else decimal n ++ replicate zeros 48

-- the slash with what stands on either side of it
abbrev pub slash_text : FractionParts → List ℕ
slash_text parts = texts_between parts.before ++ 47 ∷ texts_between parts.behind

-- the text of a fraction: numerator, slash and denominator
abbrev pub slashed : FractionParts → List ℕ → ℕ → List ℕ
slashed parts over under =
    with_digits false false [] over parts.over
    ++ (slash_text parts ++ denominator_text parts.under under)

-- a place is `?`: of the whole number, of the numerator, or of a denominator that isn't given
abbrev pub has_space_place : FractionParts → Bool
has_space_place parts =
    has is_space_place parts.whole || (has is_space_place parts.over
    || (not (is_fixed parts.under) && has is_space_place parts.under))

-- as many spaces as pieces are wide
abbrev pub gap_of : List CodePiece → List ℕ
gap_of pieces = spaces (width pieces)

-- the spaces in place of what stands before a slash
abbrev pub front_gap : FractionParts → List ℕ
front_gap parts = gap_of parts.between ++ (gap_of parts.over ++ gap_of parts.before)

-- the spaces in place of a slash and what stands behind it
abbrev pub back_gap : FractionParts → List ℕ
back_gap parts = 32 ∷ (gap_of parts.behind ++ gap_of parts.under)

-- the spaces in place of a fraction of 0, where a place is `?`
abbrev pub no_fraction : FractionParts → List ℕ
no_fraction parts = if has_space_place parts then front_gap parts ++ back_gap parts else []

-- the places of a whole number with its digits
abbrev pub whole_part_text : FractionParts → List ℕ → List ℕ
whole_part_text parts digits = with_digits (is_grouped parts.whole) false [] digits parts.whole

-- A whole number that is 0 isn't shown: before a fraction where no place of it is `0`, before a
-- numerator that is 0 where its only place is `#`.
abbrev pub is_whole_gone : FractionParts → ℕ → Bool
is_whole_gone parts over =
    if over == 0
    then (place_count parts.whole == 1) && has is_empty_place parts.whole
    else not (has is_zero_place parts.whole)

-- the spaces in place of what stands behind the whole number, where a place is `?`
abbrev pub gap_text : FractionParts → List ℕ
gap_text parts =
    if has is_space_place parts.whole then spaces (1 + width parts.between)
    else (if has is_space_place parts.over then spaces (width parts.between) else [])

-- what stands in place of a whole number
abbrev pub in_place_of_whole : FractionParts → List ℕ
in_place_of_whole parts =
    with_digits false false [] [] (take (length parts.whole - 1) parts.whole) ++ gap_text parts

-- a whole number, by its digits, with what stands behind it
abbrev pub whole_front : FractionParts → List ℕ → Bool → ℕ → List ℕ
whole_front parts digits is_zero_whole over =
    if is_zero_whole && is_whole_gone parts over then in_place_of_whole parts
    else whole_part_text parts digits ++ texts_between parts.between

-- a whole number, by its digits, and a fraction
abbrev pub mixed_digits : FractionParts → List ℕ → Bool → Fraction → List ℕ
mixed_digits parts digits is_zero_whole f =
    if (f.over == 0) && not (has is_zero_place parts.over)
    then whole_part_text parts digits ++ no_fraction parts
    else whole_front parts digits is_zero_whole f.over
    ++ slashed parts (decimal f.over) f.under

-- a whole number with so many zeros behind it, and a fraction
abbrev pub mixed : FractionParts → ℕ → ℕ → Fraction → List ℕ
mixed parts whole zeros f = mixed_digits parts (whole_digits whole zeros) (whole == 0) f

-- the fraction of a whole number
abbrev pub empty_fraction : List CodePiece → Fraction
empty_fraction under =
    record { over = 0; under = if is_fixed under then fixed_denominator under else 1 }

-- a fraction that is 1 is one more of the whole number
abbrev pub carried : FractionParts → ℕ → Fraction → List ℕ
carried parts whole f =
    if f.over == f.under then mixed parts (whole + 1) 0 (empty_fraction parts.under)
    else mixed parts whole 0 f

-- n / unit in the parts of a section
abbrev pub unit_parts : FractionParts → ℕ → ℕ → List ℕ
unit_parts parts n unit =
    if has is_digit parts.whole
    then carried parts (n / unit) (found_fraction parts.under (n % unit) unit)
    else texts_between parts.between
    ++ slashed parts (decimal (found_fraction parts.under n unit).over)
    (found_fraction parts.under n unit).under

-- a whole number with so many zeros behind it in the parts of a section
abbrev pub unparted : FractionParts → ℕ → ℕ → List ℕ
unparted parts n zeros =
    if has is_digit parts.whole then mixed parts n zeros (empty_fraction parts.under)
    else texts_between parts.between
    ++ slashed parts (whole_digits (n * (empty_fraction parts.under).under) zeros)
    (empty_fraction parts.under).under

-- A size in the parts of a section. One with more than thirty places is so far below 1 that no
-- fraction is nearer than 0.
abbrev pub parts_text : FractionParts → ℕ → ℤ → List ℕ
parts_text parts n (pos zeros) = unparted parts n zeros
parts_text parts n (negsuc places) =
    if nat_lt places 30 then unit_parts parts n (10 ^ (places + 1)) else unparted parts 0 0

-- a size in a section of fractions
unfoldable pub fraction_shown : List CodePiece → ℕ → ℤ → List ℕ
fraction_shown section n power =
    parts_text (fraction_parts section) n power
    ++ texts_between (fraction_parts section).rest
