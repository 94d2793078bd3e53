-- What a text with references, line ends or `_xHHHH_` says.
use Rattle.std.specs.Prelude.{ℕ, zero, suc, ◌+◌, ◌-◌, Bool, true, false, not, ◌&&◌, ◌==◌, nat_lt}
use Rattle.std.specs.Prelude.{nat_le, List, [], ◌∷◌, ◌++◌, take, drop, length, if◌then◌else◌}
use Rattle.std.specs.Prelude.{Option, None, Some, Result, Ok, Err, codes, slice_index, encode_utf8}
use Rattle.std.specs.Char.{digit_value}
use Rattle.std.specs.List.{position_or_len, before_first, list_all}
use Rattle.std.specs.Str.{bytes_eq}
use Rattle.std.specs.Str.Parse.{digits_value}
use lib.Utf8.{scalar}

-- each byte is a digit of the base, of either case
abbrev pub all_digits : ℕ → List ℕ → Bool
all_digits base digits = list_all (λ c. nat_lt (digit_value c) base) digits

-- the character of this number, if it is a scalar value other than 0
abbrev pub numbered_character : ℕ → Option ℕ
numbered_character n = if scalar n && not (n == 0) then Some n else None

-- the character whose number these digits spell
abbrev pub character_of_digits : ℕ → List ℕ → Option ℕ
character_of_digits base [] = None
character_of_digits base (d ∷ ds) =
    if all_digits base (d ∷ ds) then numbered_character (digits_value base (d ∷ ds)) else None

-- the character of a name that begins with `#`: behind it digits, or `x` and hexadecimal digits
abbrev pub referenced_character : List ℕ → Option ℕ
referenced_character [] = None
referenced_character (b ∷ bs) =
    if b == 120 then character_of_digits 16 bs else character_of_digits 10 (b ∷ bs)

-- the character of a name that is none of the five: that of its number behind `#`
abbrev pub unnamed_character : List ℕ → Option ℕ
unnamed_character [] = None
unnamed_character (b ∷ bs) = if b == 35 then referenced_character bs else None

-- the character of an entity's name, without the `&` and the `;`
unfoldable pub entity_character : List ℕ → Option ℕ
entity_character name =
    if bytes_eq name (codes "lt") then Some 60
    else (if bytes_eq name (codes "gt") then Some 62
    else (if bytes_eq name (codes "amp") then Some 38
    else (if bytes_eq name (codes "apos") then Some 39
    else (if bytes_eq name (codes "quot") then Some 34
    else unnamed_character name))))

-- the text with these bytes in front, unless it was refused
abbrev pub onto_text : List ℕ → Result (List ℕ) ℕ → Result (List ℕ) ℕ
onto_text front (Ok text) = Ok (front ++ text)
onto_text front (Err at) = Err at

-- a byte is `;`
abbrev pub is_semicolon : ℕ → Bool
is_semicolon b = b == 59

-- the character of the reference whose `&` stands before this text: its name runs to the first `;`
abbrev pub character_behind : List ℕ → Option ℕ
character_behind text =
    if nat_lt (position_or_len is_semicolon text) (length text)
    then entity_character (before_first is_semicolon text)
    else None

-- the character in front of the decoded text, or a refusal at this place where there is none
abbrev pub onto_character : ℕ → Option ℕ → Result (List ℕ) ℕ → Result (List ℕ) ℕ
onto_character at None rest = Err at
onto_character at (Some c) rest = onto_text (encode_utf8 c) rest

-- The end `text` of a text of `size` bytes, decoded, where the next `skipped` bytes belong to a
-- reference that was read already.
unfoldable pub decoded_within : ℕ → List ℕ → ℕ → Result (List ℕ) ℕ
decoded_within size [] skipped = Ok []
decoded_within size (b ∷ bs) (suc skipped) = decoded_within size bs skipped
decoded_within size (b ∷ bs) zero =
    if b == 38
    then onto_character (size - length (b ∷ bs)) (character_behind bs)
    (decoded_within size bs (position_or_len is_semicolon bs + 1))
    else onto_text (b ∷ []) (decoded_within size bs zero)

-- The text with each `&name;` replaced by its character. It is refused at the place of the first
-- `&` that has no later `;`, or a name without a character.
unfoldable pub decoded : List ℕ → Result (List ℕ) ℕ
decoded text = decoded_within (length text) text 0

-- the decoded text behind a front that takes this many bytes and says this; a refusal's place
-- counts from where the front begins
abbrev pub onto_decoded : List ℕ → ℕ → Result (List ℕ) ℕ → Result (List ℕ) ℕ
onto_decoded front taken (Ok text) = Ok (front ++ text)
onto_decoded front taken (Err at) = Err (taken + at)

-- the text with CR LF and each lone CR as LF, where it follows a CR or not
unfoldable pub line_ends_behind : Bool → List ℕ → List ℕ
line_ends_behind after_return [] = []
line_ends_behind after_return (b ∷ bs) =
    if b == 13 then 10 ∷ line_ends_behind true bs
    else (if after_return && b == 10 then line_ends_behind false bs
    else b ∷ line_ends_behind false bs)

-- the text with CR LF and each lone CR as LF
unfoldable pub line_ends : List ℕ → List ℕ
line_ends text = line_ends_behind false text

-- the text begins with `_x`, four hexadecimal digits and `_`
abbrev pub begins_with_escape : List ℕ → Bool
begins_with_escape text =
    nat_le 7 (length text) && (slice_index text 0 == 95 && (slice_index text 1 == 120
    && (slice_index text 6 == 95 && all_digits 16 (take 4 (drop 2 text)))))

-- the character of the escape with which the text begins; the number of a surrogate is no character
abbrev pub escaped_character : List ℕ → Option ℕ
escaped_character text =
    if begins_with_escape text && scalar (digits_value 16 (take 4 (drop 2 text)))
    then Some (digits_value 16 (take 4 (drop 2 text)))
    else None

-- a character in front of what follows its escape, or else the byte and what follows it
abbrev pub onto_unescaped : Option ℕ → ℕ → List ℕ → List ℕ → List ℕ
onto_unescaped None b behind_byte behind_escape = b ∷ behind_byte
onto_unescaped (Some c) b behind_byte behind_escape = encode_utf8 c ++ behind_escape

-- the text without its escapes, where the next `skipped` bytes belong to an escape that was read
-- already
unfoldable pub unescaped_within : List ℕ → ℕ → List ℕ
unescaped_within [] skipped = []
unescaped_within (b ∷ bs) (suc skipped) = unescaped_within bs skipped
unescaped_within (b ∷ bs) zero =
    onto_unescaped (escaped_character (b ∷ bs)) b (unescaped_within bs 0) (unescaped_within bs 6)

-- the text with each `_xHHHH_` replaced by the character of its number
unfoldable pub unescaped : List ℕ → List ℕ
unescaped text = unescaped_within text 0
