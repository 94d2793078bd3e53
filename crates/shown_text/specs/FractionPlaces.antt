-- The places of sections of fractions, and how wide they are.
use Rattle.std.specs.Prelude.{ℕ, ◌-◌, Bool, true, false, if◌then◌else◌, List, [], ◌++◌, length}
use Rattle.std.specs.Prelude.{replicate, count_by}
use Rattle.std.specs.Fmt.{decimal}
use Rattle.std.specs.List.{flat_map}
use Rattle.format_codes.specs.declared.piece.CodePiece.{CodePiece}
use Rattle.format_codes.specs.declared.piece.CodePiece.TheVariants as piece
use Rattle.format_codes.specs.declared.piece.Filler.TheVariants.{Nothing, Space}
use Rattle.format_codes.specs.Words.{is_fixed, has, is_zero_place}
use Rattle.shown_text.specs.Digits.{with_digits, among_places}

-- a piece is the place of a digit that is `?`
abbrev pub is_space_place : CodePiece → Bool
is_space_place (piece.Digit Space) = true
is_space_place other = false

-- a piece is the place of a digit that is `#`
abbrev pub is_empty_place : CodePiece → Bool
is_empty_place (piece.Digit Nothing) = true
is_empty_place other = false

-- a piece that is as wide as a character
abbrev pub has_width : CodePiece → Bool
has_width (piece.Literal c) = true
has_width (piece.Figure c) = true
has_width (piece.Digit filler) = true
has_width piece.Point = true
has_width piece.Percent = true
has_width piece.Slash = true
has_width other = false

-- how many characters wide pieces are
abbrev pub width : List CodePiece → ℕ
width pieces = count_by has_width pieces

-- so many spaces, as a text
abbrev pub spaces : ℕ → List ℕ
spaces count = replicate count 32

-- the texts of pieces between places
abbrev pub texts_between : List CodePiece → List ℕ
texts_between pieces = flat_map among_places pieces

-- digits of a denominator, and spaces in the places `?` that are left behind them
abbrev pub filled_text : List CodePiece → ℕ → List ℕ
filled_text under d =
    decimal d ++ spaces (count_by is_space_place under - length (decimal d))

-- the text of a denominator: places are filled behind its digits, unless one of them is `0`
abbrev pub denominator_text : List CodePiece → ℕ → List ℕ
denominator_text under d =
    if is_fixed under then decimal d
    else (if has is_zero_place under then with_digits false false [] (decimal d) under
    else filled_text under d)
