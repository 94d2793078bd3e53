-- What codes that are written out show of a number.
use Rattle.excel_dates.proofs.SerialSteps.{by_true}
use Rattle.shown_text_laws.proofs.Tests.{both_hold, is_within}
use Rattle.std.proofs.Common.{◌≡◌, ℤ, List, [], ◌∷◌, Bool, true, false, codes, refl, length}
use Rattle.std.specs.Prelude.{nat_abs, nat_le, pos, ◌+ℤ◌}
use Rattle.decimals.specs.Words.{digits_behind}
use Rattle.decimals.specs.Rounding.{rounded_number}
use Rattle.std.specs.Int.{is_negative}
use Rattle.cell_data.specs.Words.{number}
use Rattle.format_codes.specs.Words.{ShownSection}
use Rattle.format_codes.specs.Choosing.{is_supported, number_section}
use Rattle.format_codes.specs.Kinds.{section_kind}
use Rattle.format_codes.specs.Sections.{code_pieces}
use Rattle.format_codes.specs.declared.kind.SectionKind.TheVariants as kind
use Rattle.format_codes.specs.declared.piece.CodePiece.{CodePiece}
use Rattle.format_codes.specs.declared.piece.CodePiece.TheVariants as piece
use Rattle.format_codes.specs.declared.piece.Filler.TheVariants.{Zero, Nothing}
use Rattle.shown_text.specs.Words.{shown_digits, is_sized, sized_text, signed_text, most_pieces}
use Rattle.shown_text.specs.ShownText.{shown_text}
use Rattle.shown_text_laws.specs.NumberCodes.{IsShownBySection}

-- a section of numbers without conditions
abbrev pub section_of : List CodePiece → ShownSection
section_of all = record { kind = kind.Number; pieces = all; unsigned = false }

abbrev pub one_place : List CodePiece
one_place = piece.Digit Zero ∷ piece.Point ∷ piece.Digit Zero ∷ []

abbrev pub one_place_percent : List CodePiece
one_place_percent = piece.Digit Zero ∷ piece.Point ∷ piece.Digit Zero ∷ piece.Percent ∷ []

abbrev pub one_place_thousands : List CodePiece
one_place_thousands = piece.Digit Zero ∷ piece.Point ∷ piece.Digit Zero ∷ piece.Comma ∷ []

abbrev pub two_places : List CodePiece
two_places = piece.Digit Zero ∷ piece.Point ∷ piece.Digit Zero ∷ piece.Digit Zero ∷ []

abbrev pub two_places_grouped : List CodePiece
two_places_grouped =
    piece.Digit Nothing ∷ piece.Comma ∷ piece.Digit Nothing ∷ piece.Digit Nothing
    ∷ piece.Digit Zero ∷ piece.Point ∷ piece.Digit Zero ∷ piece.Digit Zero ∷ []

pub under_one_place : (is_1904 : Bool) (exact : ℤ × ℤ)
    → shown_text is_1904 (codes "0.0") (number exact) ≡ sized_text (section_of one_place) exact
unfolding shown_text number_section is_supported code_pieces section_kind
under_one_place is_1904 exact = refl

pub under_percent : (is_1904 : Bool) (exact : ℤ × ℤ)
    → shown_text is_1904 (codes "0.0%") (number exact)
    ≡ sized_text (section_of one_place_percent) exact
unfolding shown_text number_section is_supported code_pieces section_kind
under_percent is_1904 exact = refl

pub under_thousands : (is_1904 : Bool) (exact : ℤ × ℤ)
    → shown_text is_1904 (codes "0.0,") (number exact)
    ≡ sized_text (section_of one_place_thousands) exact
unfolding shown_text number_section is_supported code_pieces section_kind
under_thousands is_1904 exact = refl

pub under_two_places : (is_1904 : Bool) (exact : ℤ × ℤ)
    → shown_text is_1904 (codes "0.00") (number exact) ≡ sized_text (section_of two_places) exact
unfolding shown_text number_section is_supported code_pieces section_kind
under_two_places is_1904 exact = refl

pub under_grouped : (is_1904 : Bool) (exact : ℤ × ℤ)
    → shown_text is_1904 (codes "#,##0.00") (number exact)
    ≡ sized_text (section_of two_places_grouped) exact
unfolding shown_text number_section is_supported code_pieces section_kind
under_grouped is_1904 exact = refl

-- a number that is shown by its section
pub by_section : (all : List CodePiece) (exact : ℤ × ℤ)
    → nat_le (length all) most_pieces ≡ true → IsShownBySection exact
    → sized_text (section_of all) exact
    ≡ signed_text (section_of all) (is_negative exact.0) (nat_abs (shown_digits exact).0)
    (shown_digits exact).1
by_section all exact few small =
    by_true (is_sized (section_of all) (shown_digits exact).1) _ _
    (both_hold _ _ (is_within _ _ small) few)

-- the digits of a number don't go by its power
pub same_size : (m power other : ℤ)
    → nat_abs (shown_digits (m, power)).0 ≡ nat_abs (shown_digits (m, other)).0
unfolding rounded_number
same_size m power other = refl

-- and its power moves with its own
pub power_of : (m power : ℤ)
    → (shown_digits (m, power)).1 ≡ power +ℤ pos (digits_behind 15 (nat_abs m))
unfolding rounded_number
power_of m power = refl
