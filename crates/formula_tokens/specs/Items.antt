-- What a formula mentions, in order: tokens put together.
use Rattle.std.specs.Prelude.{ℕ, zero, suc, ◌+◌, ◌==◌, ◌||◌, ◌&&◌, not, Bool, true, false}
use Rattle.std.specs.Prelude.{if◌then◌else◌, List, [], ◌∷◌, ◌++◌, take, drop, codes, Option, None}
use Rattle.std.specs.Prelude.{Some, position}
use Rattle.std.specs.List.{list_all, list_any, slice_get}
use Rattle.std.specs.Str.{bytes_eq}
use Rattle.std.specs.Char.{is_ascii_digit}
use Rattle.formula_shift.specs.Words.{corner_of, same_kind}
use Rattle.formula_shift.specs.declared.corner.Corner.{Corner}
use Rattle.formula_shift.specs.declared.corner.Corner.TheVariants.{Cell}
use Rattle.formula_tokens.specs.Tokens.{TokenText, word, quotes, brackets, lost, failure, literal}
use Rattle.formula_tokens.specs.Tokens.{blank, stray, sign, tokens, is_same_name}

-- where something is looked for: the sheet of the formula, one of a name, those from one to
-- another, the workbook, another file
pub data PlaceText : Type 0 where
  here : PlaceText
  on_sheet : List ℕ → PlaceText
  on_sheets : List ℕ → List ℕ → PlaceText
  in_book : PlaceText
  elsewhere : List ℕ → PlaceText

-- what a mention names: cells, by two corners; a reference that is lost; a name; what brackets say
-- of a table of a name, or of the one around the formula
pub data NamedText : Type 0 where
  cells : Corner → Corner → NamedText
  lost_cells : NamedText
  name : List ℕ → NamedText
  table : List ℕ → List ℕ → NamedText
  own_table : List ℕ → NamedText

-- A mention, the name of a function, brackets that open and close, a colon between two mentions,
-- anything else that stands between two, a text that is none of these
pub data ItemText : Type 0 where
  says : PlaceText → NamedText → ItemText
  calls : PlaceText → List ℕ → ItemText
  opens : ItemText
  closes : ItemText
  colon : ItemText
  apart : ItemText
  unread : List ℕ → ItemText

-- a text in which an apostrophe keeps the byte behind it, as one in apostrophes or brackets is
unfoldable pub kept_bytes : List ℕ → List ℕ
kept_bytes [] = []
kept_bytes (b ∷ []) = b ∷ []
kept_bytes (b ∷ c ∷ bs) = if b == 39 then c ∷ kept_bytes bs else b ∷ kept_bytes (c ∷ bs)

-- the sign that a token is, or 0
abbrev pub token_sign : Option TokenText → ℕ
token_sign (Some (sign b)) = b
token_sign _ = 0

-- the sign that token n is, or 0
abbrev pub sign_at : ℕ → List TokenText → ℕ
sign_at n ts = token_sign (slice_get ts n)

-- the text of a token that may name a sheet: a word, or a text in apostrophes
abbrev pub name_of : Option TokenText → Option (List ℕ)
name_of (Some (word w)) = Some w
name_of (Some (quotes q)) = Some (kept_bytes q)
name_of _ = None

-- the name that token n is, if any
abbrev pub name_at : ℕ → List TokenText → Option (List ℕ)
name_at n ts = name_of (slice_get ts n)

-- a place, and how many tokens behind the first one tell it
pub record PrefixText : Type 0 where
  pub place : PlaceText
  pub size : ℕ

-- a place in this workbook, which `[0]` is, or in another file, with the word that is looked for
abbrev pub book_or : List ℕ → PlaceText → List ℕ → PlaceText
book_or g own text =
    if bytes_eq g (codes "0") then own else elsewhere (91 ∷ g ++ (93 ∷ text))

-- what brackets tell, by the names of the sheets behind them
abbrev pub book_prefix : List ℕ → List TokenText → Option (List ℕ) → Option (List ℕ) →
    Option PrefixText
book_prefix g ts None second =
    if sign_at 0 ts == 33 then Some (record { place = book_or g in_book []; size = 1 }) else None
book_prefix g ts (Some a) None =
    if sign_at 1 ts == 33 then Some (record { place = book_or g (on_sheet a) a; size = 2 })
    else None
book_prefix g ts (Some a) (Some b) =
    if sign_at 1 ts == 33 then Some (record { place = book_or g (on_sheet a) a; size = 2 })
    else (if sign_at 1 ts == 58 && sign_at 3 ts == 33
    then Some (record { place = book_or g (on_sheets a b) a; size = 4 }) else None)

-- the place of one sheet, or of the sheets around a colon, by a text and where its colon stands
abbrev pub parted : List ℕ → Option ℕ → PlaceText
parted q None = on_sheet (kept_bytes q)
parted q (Some n) = on_sheets (kept_bytes (take n q)) (kept_bytes (drop (n + 1) q))

-- a text in apostrophes has a bracket, and so is of another file
abbrev pub is_of_file : List ℕ → Bool
is_of_file q = list_any (λ b. b == 91) q

-- the place that a text in apostrophes is
abbrev pub quoted_place : List ℕ → PlaceText
quoted_place q =
    if is_of_file q then elsewhere (kept_bytes q) else parted q (position (λ b. b == 58) q)

-- there is a corner, and it is a cell, no whole row or column
abbrev pub is_cell : Option Corner → Bool
is_cell (Some (Cell row col absolute_row absolute_col)) = true
is_cell _ = false

-- a name, a colon and another name before `!`; the first is of another file or not
abbrev pub span_prefix : Bool → List ℕ → List TokenText → Option (List ℕ) → Option PrefixText
span_prefix of_file a ts None = None
span_prefix of_file a ts (Some b) =
    if sign_at 0 ts == 58 && sign_at 2 ts == 33
    then Some (record { place = if of_file then elsewhere a else on_sheets a b; size = 3 })
    else None

-- the place that a word begins; one that is a cell begins no span of sheets, but a range
abbrev pub word_prefix : List ℕ → List TokenText → Option PrefixText
word_prefix w ts =
    if sign_at 0 ts == 33 then Some (record { place = on_sheet w; size = 1 })
    else (if is_cell (corner_of w) then None else span_prefix false w ts (name_at 1 ts))

-- the place that a text in apostrophes begins
abbrev pub quotes_prefix : List ℕ → List TokenText → Option PrefixText
quotes_prefix q ts =
    if sign_at 0 ts == 33 then Some (record { place = quoted_place q; size = 1 })
    else span_prefix (is_of_file q) (kept_bytes q) ts (name_at 1 ts)

-- the place that a token begins with those behind it, if any
abbrev pub prefix_of : TokenText → List TokenText → Option PrefixText
prefix_of (brackets g) ts = book_prefix g ts (name_at 0 ts) (name_at 2 ts)
prefix_of (word w) ts = word_prefix w ts
prefix_of (quotes q) ts = quotes_prefix q ts
prefix_of (sign b) ts = if b == 33 then Some (record { place = here; size = 0 }) else None
prefix_of _ ts = None

-- an item, and how many tokens behind the first one belong to it
pub record ItemCutText : Type 0 where
  pub item : ItemText
  pub size : ℕ

-- digits, points and E: a number, or a part of one
abbrev pub is_number_byte : ℕ → Bool
is_number_byte b = is_ascii_digit b || b == 46 || b == 69 || b == 101

-- a word begins with a digit or a point
abbrev pub begins_number : List ℕ → Bool
begins_number [] = false
begins_number (b ∷ bs) = is_ascii_digit b || b == 46

-- a word is a number: it begins with a digit or a point, and has only bytes of numbers
abbrev pub is_number_word : List ℕ → Bool
is_number_word w = begins_number w && list_all is_number_byte w

-- a word is a value: a number or a boolean
abbrev pub is_constant_word : List ℕ → Bool
is_constant_word w =
    is_number_word w || (is_same_name w (codes "TRUE") || is_same_name w (codes "FALSE"))

-- the word that a token is, if any
abbrev pub word_in : Option TokenText → Option (List ℕ)
word_in (Some (word w)) = Some w
word_in _ = None

-- what the brackets have that a token is, if any
abbrev pub brackets_in : Option TokenText → Option (List ℕ)
brackets_in (Some (brackets g)) = Some g
brackets_in _ = None

-- the corner that a text names, if there is one
abbrev pub corner_in : Option (List ℕ) → Option Corner
corner_in None = None
corner_in (Some w) = corner_of w

-- the corner that token n names, if any
abbrev pub corner_at : ℕ → List TokenText → Option Corner
corner_at n ts = corner_in (word_in (slice_get ts n))

-- a table where brackets stand behind its name, else a value or a name
abbrev pub table_or_name : PlaceText → Bool → List ℕ → Option (List ℕ) → ItemCutText
table_or_name place placed w (Some g) = record { item = says place (table w g); size = 1 }
table_or_name place placed w None = record {
  item = if not placed && is_constant_word w then apart else says place (name w);
  size = 0;
}

-- a cell, or else a table or a name
abbrev pub cell_or_name : PlaceText → Bool → List ℕ → List TokenText → Option Corner → ItemCutText
cell_or_name place placed w ts (Some (Cell row col absolute_row absolute_col)) = record {
  item = says place (cells (Cell row col absolute_row absolute_col)
      (Cell row col absolute_row absolute_col));
  size = 0;
}
cell_or_name place placed w ts corner =
    table_or_name place placed w (brackets_in (slice_get ts 0))

-- two corners of one kind around a colon, if they are such
abbrev pub corners_around : List TokenText → Option Corner → Option Corner →
    Option (Corner × Corner)
corners_around ts (Some a) (Some b) =
    if sign_at 0 ts == 58 && (same_kind a b && not (sign_at 2 ts == 40 || sign_at 2 ts == 33))
    then Some (a, b) else None
corners_around ts (Some a) None = None
corners_around ts None b = None

-- two corners, or else a function or what the word is alone
abbrev pub range_or_word : PlaceText → Bool → List ℕ → List TokenText → Option (Corner × Corner) →
    ItemCutText
range_or_word place placed w ts (Some corners) =
    record { item = says place (cells corners.0 corners.1); size = 2 }
range_or_word place placed w ts None =
    if sign_at 0 ts == 40 then record { item = calls place w; size = 0 }
    else cell_or_name place placed w ts (corner_of w)

-- what a word is, behind a place that is written or not
abbrev pub word_item : PlaceText → Bool → List ℕ → List TokenText → ItemCutText
word_item place placed w ts =
    range_or_word place placed w ts (corners_around ts (corner_of w) (corner_at 1 ts))

-- what tokens are behind a place that is written, if they are what stands there
abbrev pub placed_item : PlaceText → List TokenText → Option ItemCutText
placed_item place (word w ∷ ts) = Some (word_item place true w ts)
placed_item place (lost ∷ ts) = Some (record { item = says place lost_cells; size = 0 })
placed_item place (failure ∷ ts) = Some (record { item = apart; size = 0 })
placed_item place _ = None

-- the word of a place
abbrev pub place_text : PlaceText → List ℕ
place_text here = codes "!"
place_text in_book = codes "!"
place_text (on_sheet a) = a
place_text (on_sheets a b) = a
place_text (elsewhere a) = a

-- what stands behind a place that so many tokens tell, or the place alone, which is none
abbrev pub behind_place : PlaceText → ℕ → Option ItemCutText → ItemCutText
behind_place place size None = record { item = unread (place_text place); size = size }
behind_place place size (Some cut) = record { item = cut.item; size = size + 1 + cut.size }

-- what a sign is among the items of a formula
abbrev pub sign_item : ℕ → ItemText
sign_item b =
    if b == 40 then opens else (if b == 41 then closes else (if b == 58 then colon else apart))

-- what a token is with those behind it where no place stands before it
abbrev pub plain_item : TokenText → List TokenText → ItemCutText
plain_item (word w) ts = word_item here false w ts
plain_item (quotes q) ts = record { item = unread (kept_bytes q); size = 0 }
plain_item (brackets g) ts = record { item = says here (own_table g); size = 0 }
plain_item lost ts = record { item = says here lost_cells; size = 0 }
plain_item (stray b) ts = record { item = unread b; size = 0 }
plain_item (sign b) ts = record { item = sign_item b; size = 0 }
plain_item failure ts = record { item = apart; size = 0 }
plain_item literal ts = record { item = apart; size = 0 }
plain_item blank ts = record { item = apart; size = 0 }

-- the item that a token begins, by the place that it begins
abbrev pub item_by : Option PrefixText → TokenText → List TokenText → ItemCutText
item_by None t ts = plain_item t ts
item_by (Some p) t ts =
    behind_place p.place p.size (placed_item p.place (drop p.size ts))

-- the item that a token begins with those behind it
abbrev pub first_item : TokenText → List TokenText → ItemCutText
first_item t ts = item_by (prefix_of t ts) t ts

-- the items of what follows the first n tokens
unfoldable pub items_behind : ℕ → List TokenText → List ItemText
items_behind n [] = []
items_behind zero (t ∷ ts) = (first_item t ts).item ∷ items_behind (first_item t ts).size ts
items_behind (suc n) (t ∷ ts) = items_behind n ts

-- the items of a formula's text, which its tokens make, in order
unfoldable pub formula_items : List ℕ → List ItemText
formula_items text = items_behind 0 (tokens text)
