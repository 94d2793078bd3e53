-- A number format code, cut into sections of pieces (ECMA-376 part 1, 18.8.30 and 18.8.31).
use Rattle.std.specs.Prelude.{ℕ, ◌≡◌, drop, zero, suc, ◌+◌, ◌==◌, ◌&&◌, ◌||◌, nat_lt, if◌then◌else◌}
use Rattle.std.specs.Prelude.{List, [], ◌∷◌, ◌++◌, length, take, codes, slice_index, Option, Some}
use Rattle.std.specs.Prelude.{None}
use Rattle.std.specs.Char.{to_ascii_lowercase, is_ascii_digit}
use Rattle.std.specs.List.{prefix_len, position_or_len, before_first, slice_split}
use Rattle.format_codes.specs.declared.piece.CodePiece.{CodePiece}
use Rattle.format_codes.specs.declared.piece.CodePiece.TheVariants as piece
use Rattle.format_codes.specs.declared.piece.Filler.TheVariants.{Zero, Nothing, Space}
use Rattle.format_codes.specs.declared.piece.HalfDay.TheVariants.{Words, Letters}
use Rattle.format_codes.specs.declared.piece.TimeUnit.{TimeUnit}
use Rattle.format_codes.specs.Pieces.{is_divider}
use Rattle.format_codes.specs.Groups.{begins, literal_pieces, date_unit, group_pieces}

-- how many bytes of a character of UTF-8 stand behind its first one
abbrev pub size_behind : List ℕ → ℕ
size_behind bs = prefix_len (λ c. nat_lt 127 c && nat_lt c 192) bs

-- how many bytes the character has that begins a text of UTF-8
abbrev pub character_size : List ℕ → ℕ
character_size [] = 0
character_size (b ∷ bs) = suc (size_behind bs)

-- the character that begins a text as it stands for itself, if the text isn't empty
abbrev pub first_character : List ℕ → List CodePiece
first_character bs = literal_pieces (take (character_size bs) bs)

-- pieces that the byte in front of a text begins, and how many bytes of the text belong to them
pub record PiecesInFront : Type 0 where
  pub pieces : List CodePiece
  pub size : ℕ

-- one piece, to which so many bytes belong behind the first one
abbrev pub one : CodePiece → ℕ → PiecesInFront
one first size = record { pieces = first ∷ []; size = size }

-- a text in quotes, by what stands behind the first one; it ends with the next one, or the code
abbrev pub quoted_in_front : List ℕ → PiecesInFront
quoted_in_front bs = record {
  pieces = literal_pieces (before_first (λ c. c == 34) bs);
  size = position_or_len (λ c. c == 34) bs + 1;
}

-- a group in brackets, by what stands behind its bracket; one that doesn't end isn't supported
abbrev pub group_in_front : List ℕ → PiecesInFront
group_in_front bs =
    if nat_lt (position_or_len (λ c. c == 93) bs) (length bs)
    then record {
      pieces = group_pieces (before_first (λ c. c == 93) bs);
      size = position_or_len (λ c. c == 93) bs + 1;
    }
    else one piece.Unknown (length bs)

-- pieces in front of a text were cut: they stand behind what was found before, and the rest is what
-- stands behind them
pub record IsCut (front : PiecesInFront) (text : List ℕ) (old new : List CodePiece)
    (rest : List ℕ) : Type 0 where
  pub found : new ≡ old ++ front.pieces
  pub left : rest ≡ drop front.size text

-- a piece stands in front of this text, and the rest behind it
pub record IsPieceCut (front : PiecesInFront) (text : List ℕ) (first : CodePiece)
    (rest : List ℕ) : Type 0 where
  pub found : front.pieces ≡ first ∷ []
  pub left : rest ≡ drop front.size text

-- the piece of a sign that stands alone
abbrev pub sign_piece : ℕ → Option CodePiece
sign_piece b =
    if b == 59 then Some piece.Divider
    else (if b == 48 then Some (piece.Digit Zero)
    else (if b == 35 then Some (piece.Digit Nothing)
    else (if b == 63 then Some (piece.Digit Space)
    else (if is_ascii_digit b then Some (piece.Figure b)
    else (if b == 46 then Some piece.Point
    else (if b == 44 then Some piece.Comma
    else (if b == 37 then Some piece.Percent
    else (if b == 47 then Some piece.Slash
    else (if b == 64 then Some piece.TextPlace
    else None)))))))))

-- how many letters behind a small letter are that letter, in either case
abbrev pub run_behind : ℕ → List ℕ → ℕ
run_behind letter bs = prefix_len (λ c. to_ascii_lowercase c == letter) bs

-- a part of a date, a letter that isn't supported, or a character that stands for itself
abbrev pub unit_in_front : Option TimeUnit → ℕ → List ℕ → PiecesInFront
unit_in_front (Some unit) b bs =
    let run = run_behind (to_ascii_lowercase b) bs in
    one (piece.TimePart unit (run + 1)) run
unit_in_front None b bs =
    let letter = to_ascii_lowercase b in
    if (letter == 98) || ((letter == 101) || (letter == 103)) then one piece.Unknown 0
    else one (piece.Literal b) 0

-- what begins with a letter in either case that begins no word
abbrev pub unit_or_other : ℕ → List ℕ → PiecesInFront
unit_or_other b bs = unit_in_front (date_unit (to_ascii_lowercase b)) b bs

-- a half of a day, or what else begins with a letter
abbrev pub half_day_or_other : ℕ → List ℕ → PiecesInFront
half_day_or_other b bs =
    if begins (codes "am/pm") (b ∷ bs) then one (piece.HalfDay Words) 4
    else (if begins (codes "a/p") (b ∷ bs)
    then one (piece.HalfDay (Letters b (slice_index bs 1))) 2
    else unit_or_other b bs)

-- a letter in either case, or another character that stands for itself
abbrev pub letter_in_front : ℕ → List ℕ → PiecesInFront
letter_in_front b bs =
    if (to_ascii_lowercase b == 101) && ((slice_index bs 0 == 43) || (slice_index bs 0 == 45))
    then one (piece.Exponent b (slice_index bs 0 == 43)) 1
    else (if begins (codes "general") (b ∷ bs) then one piece.General 6
    else half_day_or_other b bs)

-- a sign that stands alone, or a letter or another character
abbrev pub sign_or_letter : Option CodePiece → ℕ → List ℕ → PiecesInFront
sign_or_letter (Some sign) b bs = one sign 0
sign_or_letter None b bs = letter_in_front b bs

-- The pieces that stand first. `\` takes the next character, `"` all to the next `"`; `_` is a
-- space in place of one as wide as the next character, and `*`, which fills a cell with it, shows
-- nothing.
-- A character that isn't ASCII stands for itself.
abbrev pub pieces_in_front : ℕ → List ℕ → PiecesInFront
pieces_in_front b bs =
    if nat_lt 127 b
    then record { pieces = first_character (b ∷ bs); size = size_behind bs }
    else (if b == 92
    then record { pieces = first_character bs; size = character_size bs }
    else (if b == 34 then quoted_in_front bs
    else (if b == 95 then one (piece.Literal 32) (character_size bs)
    else (if b == 42 then record { pieces = []; size = character_size bs }
    else (if b == 91 then group_in_front bs
    else sign_or_letter (sign_piece b) b bs)))))

-- the pieces of what stands behind the first `skip` bytes of a code
abbrev pub code_pieces_behind : ℕ → List ℕ → List CodePiece
code_pieces_behind skip [] = []
code_pieces_behind (suc skip) (b ∷ bs) = code_pieces_behind skip bs
code_pieces_behind zero (b ∷ bs) =
    (pieces_in_front b bs).pieces ++ code_pieces_behind (pieces_in_front b bs).size bs

-- the pieces of a code, from its left end
unfoldable pub code_pieces : List ℕ → List CodePiece
code_pieces code = code_pieces_behind 0 code

-- the sections of a code, which `;` divides
unfoldable pub sections : List ℕ → List (List CodePiece)
sections code = slice_split is_divider (code_pieces code)

-- the pieces by which a code shows values: an empty code shows them as General
abbrev pub shown_by_code : List ℕ → List CodePiece
shown_by_code [] = piece.General ∷ []
shown_by_code (b ∷ bs) = code_pieces (b ∷ bs)

-- the sections by which a code shows values
abbrev pub shown_sections : List ℕ → List (List CodePiece)
shown_sections code = slice_split is_divider (shown_by_code code)
