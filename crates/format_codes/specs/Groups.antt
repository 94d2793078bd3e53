-- What the groups in brackets of a number format code are: a time that has passed, a currency and a
-- language, a condition, a color.
use Rattle.std.specs.Prelude.{ℕ, ◌+◌, ◌-◌, ◌==◌, ◌&&◌, ◌||◌, nat_lt, Bool, if◌then◌else◌, List, []}
use Rattle.std.specs.Prelude.{◌∷◌, ◌++◌, length, take, drop, codes, map, slice_index, Option, Some}
use Rattle.std.specs.Prelude.{None, ℤ}
use Rattle.std.specs.Char.{is_ascii_digit, to_ascii_lowercase}
use Rattle.std.specs.Option.{option_map}
use Rattle.std.specs.List.{list_all, list_any, before_first, after_first}
use Rattle.std.specs.Str.{bytes_eq, chars, str_eq_ignore_ascii_case, trim}
use Rattle.decimals.specs.Words.{decimal_of}
use Rattle.format_codes.specs.declared.piece.CodePiece.{CodePiece}
use Rattle.format_codes.specs.declared.piece.CodePiece.TheVariants as piece
use Rattle.format_codes.specs.declared.piece.Comparison.{Comparison}
use Rattle.format_codes.specs.declared.piece.Comparison.TheVariants.{Below, UpTo, Above, From}
use Rattle.format_codes.specs.declared.piece.Comparison.TheVariants.{Equal, Unequal}
use Rattle.format_codes.specs.declared.piece.TimeUnit.{TimeUnit}
use Rattle.format_codes.specs.declared.piece.TimeUnit.TheVariants.{Year, Month, Day, Hour, Minute}
use Rattle.format_codes.specs.declared.piece.TimeUnit.TheVariants.{Second}

-- a text begins with a word, in either case
abbrev pub begins : List ℕ → List ℕ → Bool
begins word text = str_eq_ignore_ascii_case (take (length word) text) word

-- a text that stands for itself: its characters, or one piece where it has none
abbrev pub literal_pieces : List ℕ → List CodePiece
literal_pieces [] = piece.EmptyLiteral ∷ []
literal_pieces (b ∷ bs) = map piece.Literal (chars (b ∷ bs))

-- the unit of a small letter of a date; `m` is a month
abbrev pub date_unit : ℕ → Option TimeUnit
date_unit letter =
    if letter == 121 then Some Year
    else (if letter == 109 then Some Month
    else (if letter == 100 then Some Day
    else (if letter == 104 then Some Hour
    else (if letter == 115 then Some Second else None))))

-- the unit of the small letter of a time that has passed; `m` is a minute
abbrev pub passed_unit : ℕ → Option TimeUnit
passed_unit letter =
    if letter == 104 then Some Hour
    else (if letter == 109 then Some Minute
    else (if letter == 115 then Some Second else None))

-- each byte is this small letter, in either case
abbrev pub all_are : ℕ → List ℕ → Bool
all_are letter text = list_all (λ c. to_ascii_lowercase c == letter) text

-- a time that has passed, by a content that is its letter once or repeated, in either case
abbrev pub passed_piece : List ℕ → Option CodePiece
passed_piece [] = None
passed_piece (b ∷ bs) =
    if all_are (to_ascii_lowercase b) bs
    then option_map (λ unit. piece.Passed unit (length bs + 1)) (passed_unit (to_ascii_lowercase b))
    else None

-- a condition that compares with the number of a text
abbrev pub condition_with : Comparison → Option (ℤ × ℤ) → CodePiece
condition_with comparison None = piece.Unknown
condition_with comparison (Some number) =
    piece.Condition (record { comparison = comparison; number = number })

-- a condition by how it compares and its text
abbrev pub condition_by : Comparison → List ℕ → CodePiece
condition_by comparison text = condition_with comparison (decimal_of (trim text))

-- how a condition compares that these two bytes begin
abbrev pub comparison_in_front : ℕ → ℕ → Comparison
comparison_in_front b c =
    if b == 60 then (if c == 61 then UpTo else (if c == 62 then Unequal else Below))
    else (if b == 62 then (if c == 61 then From else Above)
    else Equal)

-- how many bytes behind the first one tell how a condition compares
abbrev pub size_of_comparison : Comparison → ℕ
size_of_comparison UpTo = 1
size_of_comparison From = 1
size_of_comparison Unequal = 1
size_of_comparison other = 0

-- the condition in brackets that this byte begins, by what stands behind it
abbrev pub condition_of_group : ℕ → List ℕ → CodePiece
condition_of_group b bs =
    let comparison = comparison_in_front b (slice_index bs 0) in
    condition_by comparison (drop (size_of_comparison comparison) bs)

-- the colors that have names
abbrev pub color_names : List (List ℕ)
color_names =
    codes "black" ∷ codes "blue" ∷ codes "cyan" ∷ codes "green" ∷ codes "magenta" ∷ codes "red"
    ∷ codes "white" ∷ codes "yellow" ∷ []

-- the name of a color, in either case
abbrev pub is_color_name : List ℕ → Bool
is_color_name text = list_any (λ name. str_eq_ignore_ascii_case text name) color_names

-- the digits behind the word Color
abbrev pub is_color_number : List ℕ → Bool
is_color_number text = nat_lt 0 (length text) && list_all is_ascii_digit text

-- the word Color and the number of a color
abbrev pub is_numbered_color : List ℕ → Bool
is_numbered_color text = begins (codes "color") text && is_color_number (trim (drop 5 text))

-- a color: its name, or its number behind the word Color
abbrev pub is_color_group : List ℕ → Bool
is_color_group text = is_color_name text || is_numbered_color text

-- a color, which shows nothing, or what isn't supported
abbrev pub color_pieces : List ℕ → List CodePiece
color_pieces text = if is_color_group text then [] else piece.Unknown ∷ []

-- what may stand before the four digits of a language: the usual digits and the usual calendar
abbrev pub is_usual : List ℕ → Bool
is_usual front =
    list_any (λ known. bytes_eq front known)
    ([] ∷ codes "0" ∷ codes "1" ∷ codes "00" ∷ codes "01" ∷ [])

-- the number of a language is none, one of English, or that of the system's date or time
abbrev pub is_english_number : List ℕ → Bool
is_english_number tag =
    (length tag == 0) || (bytes_eq (drop (length tag - 2) tag) (codes "09")
    || list_any (λ known. str_eq_ignore_ascii_case tag known)
    (codes "f800" ∷ codes "f400" ∷ []))

-- a language by its name that is English, or the system's for a date or a time
abbrev pub is_english_name : List ℕ → Bool
is_english_name tag = begins (codes "en-") tag || begins (codes "x-sys") tag

-- the piece of a language other than English, and none for English
abbrev pub foreign_unless : Bool → List CodePiece
foreign_unless english = if english then [] else piece.Foreign ∷ []

-- a language by its name, or by its number behind those of its digits and its calendar
abbrev pub language_pieces : List ℕ → List CodePiece
language_pieces tag =
    if list_any (λ c. c == 45) tag then foreign_unless (is_english_name tag)
    else (if is_usual (take (length tag - 4) tag) then foreign_unless (is_english_number tag)
    else piece.Unknown ∷ [])

-- a currency, and a language behind the first `-`
abbrev pub currency_pieces : List ℕ → List CodePiece
currency_pieces text =
    literal_pieces (before_first (λ c. c == 45) text)
    ++ language_pieces (after_first (λ c. c == 45) text)

-- what a group in brackets is that is no time, by its content
abbrev pub untimed_pieces : List ℕ → List CodePiece
untimed_pieces [] = piece.Unknown ∷ []
untimed_pieces (b ∷ bs) =
    if b == 36 then currency_pieces bs
    else (if (b == 60) || ((b == 61) || (b == 62)) then condition_of_group b bs ∷ []
    else color_pieces (b ∷ bs))

-- a time that has passed, or what another group is
abbrev pub passed_or_untimed : Option CodePiece → List ℕ → List CodePiece
passed_or_untimed (Some passed) content = passed ∷ []
passed_or_untimed None content = untimed_pieces content

-- what a group in brackets is, by its content
abbrev pub group_pieces : List ℕ → List CodePiece
group_pieces content = passed_or_untimed (passed_piece content) content
