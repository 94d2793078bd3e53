-- Digits in the places that a section has for them.
use Rattle.std.specs.Prelude.{ℕ, ◌+◌, ◌-◌, ◌%◌, ◌==◌, ◌&&◌, ◌||◌, nat_lt, nat_le, min, Bool, not}
use Rattle.std.specs.Prelude.{false, if◌then◌else◌, List, [], ◌∷◌, ◌++◌, length, drop, take, zero}
use Rattle.std.specs.Prelude.{suc, replicate, slice_index, Option, Some, None, unwrap_or, count_by}
use Rattle.std.specs.Prelude.{ℤ, pos, negsuc, option_to_list}
use Rattle.std.specs.Fmt.{decimal}
use Rattle.std.specs.List.{flat_map, before_first, after_first, after_last, position_or_len}
use Rattle.std.specs.List.{suffix_len}
use Rattle.decimals.specs.Words.{trailing_zeros, nearest}
use Rattle.format_codes.specs.declared.piece.CodePiece.{CodePiece}
use Rattle.format_codes.specs.declared.piece.CodePiece.TheVariants as piece
use Rattle.format_codes.specs.declared.piece.Filler.{Filler}
use Rattle.format_codes.specs.declared.piece.Filler.TheVariants.{Zero, Nothing, Space}
use Rattle.format_codes.specs.Words.{has, is_comma, is_digit, is_point_piece, is_zero_place}
use Rattle.format_codes.specs.Words.{own_text}

-- the digits of a whole number with so many zeros behind them, and none of 0
abbrev pub digits_above_0 : ℕ → ℕ → List ℕ
digits_above_0 n zeros = if n == 0 then [] else decimal n ++ replicate zeros 48

-- the digits of the whole number that is nearest to a size times ten to a power, halves upward
abbrev pub nearest_digits : ℕ → ℤ → List ℕ
nearest_digits n (pos power) = digits_above_0 n power
nearest_digits n (negsuc power) = digits_above_0 (nearest (power + 1) n) 0

-- the digit that has so many digits behind it, if there is one
abbrev pub digit_at : List ℕ → ℕ → Option ℕ
digit_at digits place =
    if nat_lt place (length digits)
    then Some (slice_index digits (length digits - (place + 1))) else None

-- The character that a place shows: its digit. Where it has none, `0` shows a zero, and so does
-- each place behind a `0`, which forces it; `?` shows a space, and `#` nothing.
abbrev pub place_character : Filler → Bool → Option ℕ → Option ℕ
place_character filler forced (Some digit) = Some digit
place_character Zero forced None = Some 48
place_character Space forced None = Some (if forced then 48 else 32)
place_character Nothing forced None = if forced then Some 48 else None

-- Behind each third digit from the right stands a comma where thousands are grouped, and a space
-- behind a space.
abbrev pub separator : Bool → ℕ → ℕ → List ℕ
separator grouped place character =
    if grouped && (nat_lt 0 place && (place % 3 == 0))
    then (if character == 32 then 32 else 44) ∷ [] else []

-- a character in the place that has so many places behind it
abbrev pub placed_text : Bool → ℕ → Option ℕ → List ℕ
placed_text grouped place None = []
placed_text grouped place (Some character) = character ∷ separator grouped place character

-- the digits in front of the last `places` ones, of which `left` are still to come
abbrev pub surplus : Bool → List ℕ → ℕ → ℕ → List ℕ
surplus grouped digits places zero = []
surplus grouped digits places (suc left) =
    if nat_le places left
    then placed_text grouped left (digit_at digits left) ++ surplus grouped digits places left
    else []

-- the text of a piece among places, where commas only group
abbrev pub among_places : CodePiece → List ℕ
among_places p = if is_comma p then [] else own_text p

-- a piece with the digit of its place, which has so many places behind it
abbrev pub piece_in_place : Bool → List ℕ → Bool → ℕ → CodePiece → List ℕ
piece_in_place grouped digits forced place (piece.Digit filler) =
    placed_text grouped place (place_character filler forced (digit_at digits place))
piece_in_place grouped digits forced place other = among_places other

-- how many places are left behind a piece
abbrev pub places_behind : ℕ → CodePiece → ℕ
places_behind left p = if is_digit p then left - 1 else left

-- pieces with digits in their places, of which `left` are still to come
abbrev pub in_places : Bool → List ℕ → Bool → ℕ → List CodePiece → List ℕ
in_places grouped digits forced left [] = []
in_places grouped digits forced left (p ∷ ps) =
    piece_in_place grouped digits forced (left - 1) p
    ++ in_places grouped digits (forced || is_zero_place p) (places_behind left p) ps

-- how many places of digits there are
abbrev pub place_count : List CodePiece → ℕ
place_count pieces = count_by is_digit pieces

-- how many pieces stand before the first place
abbrev pub first_place : List CodePiece → ℕ
first_place pieces = position_or_len is_digit pieces

-- how many pieces there are up to the last place
abbrev pub last_place : List CodePiece → ℕ
last_place pieces = length pieces - suffix_len (λ p. not (is_digit p)) pieces

-- thousands are grouped: a comma stands between two places
abbrev pub is_grouped : List CodePiece → Bool
is_grouped pieces = has is_comma (drop (first_place pieces) (take (last_place pieces) pieces))

-- the texts of pieces that show themselves
abbrev pub own_texts : List CodePiece → List ℕ
own_texts pieces = flat_map own_text pieces

-- Pieces with the digits of a whole number in their places. Digits that are too many stand in front
-- of the first place, and another text in front of these.
abbrev pub with_digits : Bool → Bool → List ℕ → List ℕ → List CodePiece → List ℕ
with_digits grouped forced front digits pieces =
    own_texts (take (first_place pieces) pieces)
    ++ (front
    ++ (surplus grouped digits (place_count pieces) (length digits)
    ++ in_places grouped digits forced (place_count pieces) (drop (first_place pieces) pieces)))

-- How many places at the end show no digit: those that have only zeros from there on, and no `0`.
abbrev pub hidden_places : List ℕ → List CodePiece → ℕ
hidden_places [] pieces = place_count (after_last is_zero_place pieces)
hidden_places (d ∷ ds) pieces =
    min (trailing_zeros (d ∷ ds)) (place_count (after_last is_zero_place pieces))

-- the character of a place behind the point, which has so many places behind it
abbrev pub fraction_character : Filler → List ℕ → ℕ → ℕ → Option ℕ
fraction_character filler digits hidden place =
    if nat_lt place hidden then place_character filler false None
    else Some (unwrap_or (digit_at digits place) 48)

-- a piece behind the point with the digit of its place
abbrev pub fraction_piece : List ℕ → ℕ → ℕ → CodePiece → List ℕ
fraction_piece digits hidden place (piece.Digit filler) =
    option_to_list (fraction_character filler digits hidden place)
fraction_piece digits hidden place other = among_places other

-- the pieces behind the point with digits in their places, of which `left` are still to come
abbrev pub fraction_places : List ℕ → ℕ → ℕ → List CodePiece → List ℕ
fraction_places digits hidden left [] = []
fraction_places digits hidden left (p ∷ ps) =
    fraction_piece digits hidden (left - 1) p
    ++ fraction_places digits hidden (places_behind left p) ps

-- the pieces before the point of a section
abbrev pub before_point : List CodePiece → List CodePiece
before_point section = before_first is_point_piece section

-- the pieces behind the point, if there is one
abbrev pub after_point : List CodePiece → List CodePiece
after_point section = after_first is_point_piece section

-- how many digits are shown behind the point
abbrev pub fraction_count : List CodePiece → ℕ
fraction_count section = place_count (after_point section)

-- the pieces before the point; where no place stands there the digits do, if any is shown
abbrev pub whole_text : Bool → Bool → List ℕ → List CodePiece → List ℕ
whole_text shows_digits forced digits before =
    if has is_digit before then with_digits (is_grouped before) forced [] digits before
    else own_texts before ++ (if shows_digits then digits else [])

-- the pieces behind the point
abbrev pub behind_text : Bool → List ℕ → List CodePiece → List ℕ
behind_text shows_digits digits after =
    if shows_digits
    then fraction_places digits (hidden_places digits after) (place_count after) after
    else own_texts after

-- Pieces, and a point among them, with the digits of a whole number in their places, the last ones
-- behind the point. `forced` has each place before the point show a zero at least.
abbrev pub laid_out : Bool → List ℕ → List CodePiece → List ℕ
laid_out forced digits section =
    whole_text (has is_point_piece section && has is_digit section) forced
    (take (length digits - fraction_count section) digits) (before_point section)
    ++ (if has is_point_piece section
    then 46 ∷ behind_text (has is_digit section) digits (after_point section) else [])
