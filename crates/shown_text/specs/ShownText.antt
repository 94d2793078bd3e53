-- The text that a spreadsheet program shows of a value, in the language en-US and in a column of
-- any width.
use Rattle.std.specs.Prelude.{ℕ, ◌==◌, ◌&&◌, ◌||◌, ◌^◌, nat_le, not, Bool, true, false}
use Rattle.std.specs.Prelude.{if◌then◌else◌, List, [], ◌++◌, length, codes, Option, Some, None, ℤ}
use Rattle.std.specs.Prelude.{pos, nat_abs}
use Rattle.std.specs.Fmt.{sign_text, signed_decimal}
use Rattle.std.specs.Int.{is_negative}
use Rattle.std.specs.List.{flat_map}
use Rattle.cell_data.specs.Words.{cell_error_text, CellValue, nothing, integer, number, text}
use Rattle.cell_data.specs.Words.{shared_text, truth, time, iso_time, failure}
use Rattle.cell_data.specs.declared.value.ExcelDateTimeType.{ExcelDateTimeType}
use Rattle.decimals.specs.Words.{decimal_from}
use Rattle.excel_dates.specs.Words.{iso_text, moment_of, has_moment}
use Rattle.format_codes.specs.declared.kind.SectionKind.{SectionKind}
use Rattle.format_codes.specs.declared.kind.SectionKind.TheVariants as kind
use Rattle.format_codes.specs.declared.piece.CodePiece.{CodePiece}
use Rattle.format_codes.specs.Words.{ShownSection, is_supported, number_section, text_section_in}
use Rattle.format_codes.specs.Words.{is_general, is_text_place, own_text}
use Rattle.shown_text.specs.DateTexts.{date_shown}
use Rattle.shown_text.specs.FractionTexts.{fraction_shown}
use Rattle.shown_text.specs.GeneralText.{general_size, general_text, shown_digits}
use Rattle.shown_text.specs.NumberTexts.{size_shown, power_text}

-- a piece of a section of General
abbrev pub general_piece : ℕ → ℤ → CodePiece → List ℕ
general_piece n power p = if is_general p then general_size n power else own_text p

-- a size in a section of General
abbrev pub general_pieces : List CodePiece → ℕ → ℤ → List ℕ
general_pieces pieces n power = flat_map (general_piece n power) pieces

-- a size in the pieces of a section
abbrev pub size_text : SectionKind → List CodePiece → ℕ → ℤ → List ℕ
size_text kind.General pieces n power = general_pieces pieces n power
size_text kind.Number pieces n power = size_shown pieces n power
size_text kind.Power pieces n power = power_text pieces n power
size_text kind.Fraction pieces n power = fraction_shown pieces n power
size_text kind.Date pieces n power = []

-- the greatest power of ten, and its opposite, of a number that is shown in a section
abbrev pub most_power : ℕ
most_power = 400

-- how many pieces a section has at most that shows a number, more than a code has bytes
abbrev pub most_pieces : ℕ
most_pieces = 2 ^ 20

-- a size of this power of ten is shown in a section: neither the power nor the section is too large
abbrev pub is_sized : ShownSection → ℤ → Bool
is_sized section power =
    nat_le (nat_abs power) most_power && nat_le (length section.pieces) most_pieces

-- a size in a section with the sign of its number in front, and nothing in a section without pieces
abbrev pub signed_text : ShownSection → Bool → ℕ → ℤ → List ℕ
signed_text section below n power =
    if length section.pieces == 0 then []
    else sign_text (below && not section.unsigned) ++ size_text section.kind section.pieces n power

-- a number in a section by its fifteen digits; under General where its power is too great
abbrev pub sized_text : ShownSection → ℤ × ℤ → List ℕ
sized_text section exact =
    if is_sized section (shown_digits exact).1
    then signed_text section (is_negative exact.0) (nat_abs (shown_digits exact).0)
    (shown_digits exact).1
    else general_text exact

-- a number in a section: the exact days of a date, and fifteen digits of what is none
abbrev pub shown_by_section : Bool → SectionKind → ShownSection → ℤ × ℤ → List ℕ
shown_by_section is_1904 kind.Date section exact =
    date_shown is_1904 section.pieces section.unsigned exact
shown_by_section is_1904 other section exact = sized_text section exact

-- a number in the section that shows it, and under General where none does
abbrev pub text_in_section : Bool → ℤ × ℤ → Option ShownSection → List ℕ
text_in_section is_1904 exact None = general_text exact
text_in_section is_1904 exact (Some section) = shown_by_section is_1904 section.kind section exact

-- the text that is shown of a number under a code; `other` where the code isn't supported
abbrev pub number_shown : Bool → List ℕ → ℤ × ℤ → List ℕ → List ℕ
number_shown is_1904 code exact other =
    if is_supported code then text_in_section is_1904 exact (number_section code exact) else other

-- a number under a code, and under General where it isn't supported
abbrev pub number_or_general : Bool → List ℕ → ℤ × ℤ → List ℕ
number_or_general is_1904 code exact = number_shown is_1904 code exact (general_text exact)

-- a whole number under a code, by its decimal, which each of 64 bits has
abbrev pub integer_shown : Bool → List ℕ → ℤ → Option (ℤ × ℤ) → List ℕ
integer_shown is_1904 code n None = signed_decimal n
integer_shown is_1904 code n (Some exact) = number_or_general is_1904 code exact

-- a piece of a section of texts
abbrev pub text_piece : List ℕ → CodePiece → List ℕ
text_piece bytes p = if is_text_place p || is_general p then bytes else own_text p

-- a text in the pieces of a section of texts
abbrev pub text_pieces : List ℕ → List CodePiece → List ℕ
text_pieces bytes pieces = flat_map (text_piece bytes) pieces

-- a text in the section of texts, and as it is where there is none
abbrev pub text_in_pieces : List ℕ → Option (List CodePiece) → List ℕ
text_in_pieces bytes None = bytes
text_in_pieces bytes (Some pieces) = text_pieces bytes pieces

-- the text that is shown of a text under a code
abbrev pub text_shown : List ℕ → List ℕ → List ℕ
text_shown code bytes = text_in_pieces bytes (text_section_in code)

-- the text of so many days under a code that isn't supported: as ISO 8601 has it, and under General
-- where they stand for no moment
abbrev pub days_otherwise : ℤ × ℤ → ExcelDateTimeType → Bool → List ℕ
days_otherwise days kind is_1904 =
    if has_moment (moment_of days kind is_1904) then iso_text days kind is_1904
    else general_text days

-- the word that shows a boolean, `TRUE` or `FALSE`
abbrev pub truth_word : Bool → List ℕ
truth_word true = codes "TRUE"
truth_word false = codes "FALSE"

-- The text of a value under the code of a number format. An error is its own text, under any code.
unfoldable pub shown_text : Bool → List ℕ → CellValue → List ℕ
shown_text is_1904 code nothing = []
shown_text is_1904 code (integer n) = integer_shown is_1904 code n (decimal_from (n, pos 0))
shown_text is_1904 code (number n) = number_or_general is_1904 code n
shown_text is_1904 code (text bytes) = text_shown code bytes
-- it is no value before its text is known
shown_text is_1904 code (shared_text place) = []
shown_text is_1904 code (truth holds) = text_shown code (truth_word holds)
shown_text is_1904 code (time days kind counts_from_1904) =
    number_shown counts_from_1904 code days (days_otherwise days kind counts_from_1904)
shown_text is_1904 code (iso_time bytes) = bytes
shown_text is_1904 code (failure error) = cell_error_text error
