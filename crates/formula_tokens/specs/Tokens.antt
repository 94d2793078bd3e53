-- The tokens of a formula. A text is a list of bytes.
use Rattle.std.specs.Prelude.{ℕ, zero, suc, ◌≡◌, ◌+◌, ◌==◌, ◌||◌, nat_le, Bool, if◌then◌else◌, List}
use Rattle.std.specs.Prelude.{[], ◌∷◌, take, drop, length, codes, position, Option, None, Some}
use Rattle.std.specs.Prelude.{option_map}
use Rattle.std.specs.List.{prefix_len}
use Rattle.std.specs.Str.{str_eq_ignore_ascii_case}
use Rattle.std.specs.Char.{is_ascii_alphanumeric}

-- A token: a word; a text in apostrophes or in brackets, as it is written between these; the error
-- of a lost reference, and any other; a text in quotes; blanks; a byte that begins what nothing
-- closes; any other byte.
pub data TokenText : Type 0 where
  word : List ℕ → TokenText
  quotes : List ℕ → TokenText
  brackets : List ℕ → TokenText
  lost : TokenText
  failure : TokenText
  literal : TokenText
  blank : TokenText
  stray : List ℕ → TokenText
  sign : ℕ → TokenText

-- two words are one name: ASCII letters are the same in both cases, other bytes are themselves
abbrev pub is_same_name : List ℕ → List ℕ → Bool
is_same_name a b = str_eq_ignore_ascii_case a b

-- a text begins with a word
abbrev pub is_begun_by : List ℕ → List ℕ → Bool
is_begun_by front text = is_same_name (take (length front) text) front

-- a byte of a name: an ASCII letter or digit, one of `\`, `.`, `_`, `$` and `?`, or one of another
-- character
abbrev pub is_name_byte : ℕ → Bool
is_name_byte b =
    is_ascii_alphanumeric b || (b == 92) || (b == 46) || (b == 95) || (b == 36) || (b == 63)
    || nat_le 128 b

-- a byte is a blank, a tab or a line end
abbrev pub is_blank_byte : ℕ → Bool
is_blank_byte b = (b == 32) || (b == 9) || (b == 10) || (b == 13)

-- what stands behind the blanks that a text begins with
abbrev pub behind_blanks : List ℕ → List ℕ
behind_blanks text = drop (prefix_len is_blank_byte text) text

-- the errors that a formula may spell behind the sign of a number, but that of a lost reference
abbrev pub failures : List (List ℕ)
failures =
    codes "N/A" ∷ codes "DIV/0!" ∷ codes "NAME?" ∷ codes "NULL!" ∷ codes "NUM!" ∷ codes "VALUE!"
    ∷ codes "GETTING_DATA" ∷ codes "SPILL!" ∷ codes "CALC!" ∷ codes "FIELD!" ∷ codes "BLOCKED!"
    ∷ codes "CONNECT!" ∷ codes "BUSY!" ∷ codes "UNKNOWN!" ∷ codes "PYTHON!" ∷ codes "EXTERNAL!"
    ∷ []

-- how long the first of some words is that a text begins with
abbrev pub word_size : List (List ℕ) → List ℕ → Option ℕ
word_size [] text = None
word_size (w ∷ ws) text = if is_begun_by w text then Some (length w) else word_size ws text

-- where the apostrophe stands that closes a text, one that isn't doubled, if any
unfoldable pub quotes_end : List ℕ → Option ℕ
quotes_end [] = None
quotes_end (b ∷ []) = if b == 39 then Some 0 else None
quotes_end (b ∷ c ∷ bs) =
    if b == 39 then (if c == 39 then option_map (λ n. n + 2) (quotes_end bs) else Some 0)
    else option_map (λ n. n + 1) (quotes_end (c ∷ bs))

-- Where the bracket stands, if any, that closes one where so many are open inside. An apostrophe
-- keeps the byte behind it.
unfoldable pub brackets_end : ℕ → List ℕ → Option ℕ
brackets_end inside [] = None
brackets_end zero (b ∷ []) = if b == 93 then Some 0 else None
brackets_end (suc inside) (b ∷ []) = None
brackets_end zero (b ∷ c ∷ bs) =
    if b == 39 then option_map (λ n. n + 2) (brackets_end zero bs)
    else (if b == 93 then Some 0
    else (if b == 91 then option_map (λ n. n + 1) (brackets_end 1 (c ∷ bs))
    else option_map (λ n. n + 1) (brackets_end zero (c ∷ bs))))
brackets_end (suc inside) (b ∷ c ∷ bs) =
    if b == 39 then option_map (λ n. n + 2) (brackets_end (suc inside) bs)
    else (if b == 93 then option_map (λ n. n + 1) (brackets_end inside (c ∷ bs))
    else (if b == 91 then option_map (λ n. n + 1) (brackets_end (suc (suc inside)) (c ∷ bs))
    else option_map (λ n. n + 1) (brackets_end (suc inside) (c ∷ bs))))

-- a token, and how many bytes behind its first one belong to it
pub record TokenCut : Type 0 where
  pub token : TokenText
  pub size : ℕ

-- a word: as many bytes of names as there are
abbrev pub word_cut : ℕ → List ℕ → TokenCut
word_cut b bs = record {
  token = word (b ∷ take (prefix_len is_name_byte bs) bs);
  size = prefix_len is_name_byte bs;
}

-- a colon, with the blanks behind it
abbrev pub colon_cut : List ℕ → TokenCut
colon_cut bs = record { token = sign 58; size = prefix_len is_blank_byte bs }

-- the token of a blank with so many more behind it: blanks, or the colon behind all of them
abbrev pub blanks_before : ℕ → List ℕ → TokenCut
blanks_before n [] = record { token = blank; size = n }
blanks_before n (b ∷ bs) =
    if b == 58 then record { token = sign 58; size = n + 1 + prefix_len is_blank_byte bs }
    else record { token = blank; size = n }

-- the token of a blank: blanks, or a colon, to which those before it belong
abbrev pub blank_cut : List ℕ → TokenCut
blank_cut bs =
    blanks_before (prefix_len is_blank_byte bs) (behind_blanks bs)

-- a text in quotes, up to the next one or all
abbrev pub literal_cut : Option ℕ → List ℕ → TokenCut
literal_cut None bs = record { token = literal; size = length bs }
literal_cut (Some n) bs = record { token = literal; size = n + 1 }

-- what is closed at a place, or all, which nothing closes
abbrev pub closed_cut : ℕ → (List ℕ → TokenText) → Option ℕ → List ℕ → TokenCut
closed_cut b made None bs = record { token = stray (b ∷ []); size = length bs }
closed_cut b made (Some n) bs = record { token = made (take n bs); size = n + 1 }

-- an error of a size, or the sign alone
abbrev pub failure_cut : Option ℕ → TokenCut
failure_cut None = record { token = sign 35; size = 0 }
failure_cut (Some n) = record { token = failure; size = n }

-- what the sign of a number begins
abbrev pub hash_cut : List ℕ → TokenCut
hash_cut bs =
    if is_begun_by (codes "REF!") bs then record { token = lost; size = 4 }
    else failure_cut (word_size failures bs)

-- what a byte begins that begins no word
abbrev pub other_cut : ℕ → List ℕ → TokenCut
other_cut b bs =
    if is_blank_byte b then blank_cut bs
    else (if b == 58 then colon_cut bs
    else (if b == 34 then literal_cut (position (λ c. c == 34) bs) bs
    else (if b == 39 then closed_cut b quotes (quotes_end bs) bs
    else (if b == 91 then closed_cut b brackets (brackets_end 0 bs) bs
    else (if b == 35 then hash_cut bs
    else record { token = sign b; size = 0 })))))

-- the token that a text begins with
abbrev pub first_cut : ℕ → List ℕ → TokenCut
first_cut b bs = if is_name_byte b then word_cut b bs else other_cut b bs

-- a token was cut from the front of a text, and this is what stands behind it
pub record IsCutAs (cut : TokenCut) (bs : List ℕ) (token : TokenText) (rest : List ℕ)
    : Type 0 where
  pub is_token : token ≡ cut.token
  pub is_rest : rest ≡ drop cut.size bs

-- the tokens behind the first n bytes
unfoldable pub tokens_behind : ℕ → List ℕ → List TokenText
tokens_behind n [] = []
tokens_behind zero (b ∷ bs) = (first_cut b bs).token ∷ tokens_behind (first_cut b bs).size bs
tokens_behind (suc n) (b ∷ bs) = tokens_behind n bs

-- the tokens of a formula's text, in order
unfoldable pub tokens : List ℕ → List TokenText
tokens text = tokens_behind 0 text
