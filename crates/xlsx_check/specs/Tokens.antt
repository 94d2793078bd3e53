-- The tokens of a formula that can be checked.
use Rattle.std.specs.Prelude.{ℕ, ◌==◌, ◌&&◌, ◌||◌, Bool, true, false, if◌then◌else◌, List, [], ◌∷◌}
use Rattle.std.specs.Prelude.{◌++◌, codes, Option, Some, None, ℤ}
use Rattle.std.specs.Char.{is_ascii_digit}
use Rattle.std.specs.List.{list_all}
use Rattle.std.specs.Str.{bytes_eq, str_to_ascii_lowercase}
use Rattle.decimals.specs.Words.{decimal_of}
use Rattle.formula_shift.specs.Words.{PieceKind, word_kind, other_kind, string_kind, quoted_kind}
use Rattle.formula_shift.specs.Words.{group_kind, PieceText, pieces, joined_pieces, piece_reference}
use Rattle.formula_shift.specs.Words.{first_byte}
use Rattle.formula_shift.specs.declared.reference.Reference.{Reference}
use Rattle.xlsx_check.specs.declared.token.Comparison.{Comparison}
use Rattle.xlsx_check.specs.declared.token.Comparison.TheVariants.{Equal, Unequal, Below, Above}
use Rattle.xlsx_check.specs.declared.token.Comparison.TheVariants.{UpTo, From}

-- a token; a stray one is anything else, and stands in no formula that can be checked
pub data Token : Type 0 where
  constant : ℤ × ℤ → Token
  refers : Reference → Token
  sum : Token
  plus : Token
  minus : Token
  sign : Token
  times : Token
  opens : Token
  closes : Token
  comma : Token
  compares : Comparison → Token
  stray : Token

-- a byte is a space, a tab, LF or CR
abbrev pub is_space_or_line_end : ℕ → Bool
is_space_or_line_end b = b == 32 || (b == 9 || (b == 10 || b == 13))

-- a token of one character
abbrev pub symbol_token : ℕ → Token
symbol_token b =
    if b == 43 then plus
    else (if b == 45 then minus
    else (if b == 42 then times
    else (if b == 40 then opens
    else (if b == 41 then closes
    else (if b == 44 then comma
    else (if b == 61 then compares Equal
    else (if b == 60 then compares Below
    else (if b == 62 then compares Above
    else stray))))))))

-- a token of two characters
abbrev pub pair_symbol : ℕ → ℕ → Option Token
pair_symbol b c =
    if b == 60 && c == 61 then Some (compares UpTo)
    else (if b == 60 && c == 62 then Some (compares Unequal)
    else (if b == 62 && c == 61 then Some (compares From)
    else None))

-- a token of two bytes in front of the tokens behind it, or one of the first byte alone
abbrev pub before_symbols : Option Token → ℕ → List Token → List Token → List Token
before_symbols (Some token) b behind_one behind_two = token ∷ behind_two
before_symbols None b behind_one behind_two = symbol_token b ∷ behind_one

-- the tokens of a piece that is no Word, where the longest counts and white space is passed over
abbrev pub symbol_tokens : List ℕ → List Token
symbol_tokens [] = []
symbol_tokens (b ∷ []) = if is_space_or_line_end b then [] else symbol_token b ∷ []
symbol_tokens (b ∷ c ∷ bs) =
    if is_space_or_line_end b then symbol_tokens (c ∷ bs)
    else before_symbols (pair_symbol b c) b (symbol_tokens (c ∷ bs)) (symbol_tokens bs)

-- a word in front of an opening parenthesis is `SUM`, in letters of either case
abbrev pub is_sum : List ℕ → Option ℕ → Bool
is_sum word None = false
is_sum word (Some b) = b == 40 && bytes_eq (str_to_ascii_lowercase word) (codes "sum")

-- a text is digits with at most one point
abbrev pub is_plain_number : List ℕ → Bool
is_plain_number word = list_all (λ b. is_ascii_digit b || b == 46) word

-- a constant, or a stray token
abbrev pub constant_or_stray : Option (ℤ × ℤ) → Token
constant_or_stray (Some number) = constant number
constant_or_stray None = stray

-- the token of a Word that is no reference, where this byte is behind it
abbrev pub word_token : List ℕ → Option ℕ → Token
word_token word behind =
    if is_plain_number word then constant_or_stray (decimal_of word)
    else (if is_sum word behind then sum else stray)

-- a reference, or the other token
abbrev pub refers_or : Option Reference → Token → Token
refers_or (Some reference) other = refers reference
refers_or None other = other

-- the tokens of a piece, by its kind and the byte behind it
abbrev pub tokens_by : PieceKind → PieceText → Option ℕ → List Token
tokens_by word_kind piece behind =
    refers_or (piece_reference piece behind) (word_token piece.bytes behind) ∷ []
tokens_by other_kind piece behind = symbol_tokens piece.bytes
tokens_by string_kind piece behind = stray ∷ []
tokens_by quoted_kind piece behind = stray ∷ []
tokens_by group_kind piece behind = stray ∷ []

-- the tokens of the pieces of a formula
abbrev pub tokens_of : List PieceText → List Token
tokens_of [] = []
tokens_of (p ∷ ps) = tokens_by p.kind p (first_byte (joined_pieces ps)) ++ tokens_of ps

-- a token ends an operand: it is a number, a reference or a closing parenthesis
abbrev pub is_operand_end : Token → Bool
is_operand_end (constant number) = true
is_operand_end (refers reference) = true
is_operand_end closes = true
is_operand_end _ = false

-- a minus is a sign, unless it stands behind an operand
abbrev pub signed : Bool → Token → Token
signed false minus = sign
signed behind_operand token = token

-- a `-` that doesn't stand behind an operand is a sign
abbrev pub with_signs : Bool → List Token → List Token
with_signs behind_operand [] = []
with_signs behind_operand (token ∷ tokens) =
    signed behind_operand token ∷ with_signs (is_operand_end token) tokens

-- the tokens of a formula's text, with signs told from minuses
unfoldable pub formula_tokens : List ℕ → List Token
formula_tokens text = with_signs false (tokens_of (pieces text))
