-- What number formats say of the numbers that they show.
use Rattle.std.specs.Prelude.{ℕ, zero, suc, Bool, false, ◌&&◌, ◌||◌, ◌==◌, nat_lt, if◌then◌else◌}
use Rattle.std.specs.Prelude.{List, [], ◌∷◌, length, drop, codes, slice_index, Option, Some, None}
use Rattle.std.specs.Char.{to_ascii_lowercase}
use Rattle.std.specs.List.{list_all, list_any, position_or_len, before_first, after_first}
use Rattle.std.specs.Str.{bytes_eq}
use Rattle.cell_data.specs.declared.format.CellFormat.{CellFormat}
use Rattle.cell_data.specs.declared.format.CellFormat.TheVariants.{Other, DateTime, TimeDelta}

-- the ids of the built-in formats of dates and times of day
abbrev pub date_ids : List (List ℕ)
date_ids =
    codes "14" ∷ codes "15" ∷ codes "16" ∷ codes "17" ∷ codes "18" ∷ codes "19" ∷ codes "20"
    ∷ codes "21" ∷ codes "22" ∷ codes "45" ∷ codes "47" ∷ []

-- what a built-in number format counts, by its number (ECMA-376 part 1, section 18.8.30)
abbrev pub builtin_format : List ℕ → CellFormat
builtin_format id =
    if list_any (λ known. bytes_eq id known) date_ids then DateTime
    else (if bytes_eq id (codes "46") then TimeDelta else Other)

-- the code of a built-in number format
abbrev pub builtin_code : ℕ → Option (List ℕ)
builtin_code id =
    if id == 0 then Some (codes "General")
    else (if id == 1 then Some (codes "0")
    else (if id == 2 then Some (codes "0.00")
    else (if id == 3 then Some (codes "#,##0")
    else (if id == 4 then Some (codes "#,##0.00")
    else (if id == 9 then Some (codes "0%")
    else (if id == 10 then Some (codes "0.00%")
    else (if id == 11 then Some (codes "0.00E+00")
    else (if id == 12 then Some (codes "# ?/?")
    else (if id == 13 then Some (codes "# ??/??")
    else (if id == 14 then Some (codes "mm-dd-yy")
    else (if id == 15 then Some (codes "d-mmm-yy")
    else (if id == 16 then Some (codes "d-mmm")
    else (if id == 17 then Some (codes "mmm-yy")
    else (if id == 18 then Some (codes "h:mm AM/PM")
    else (if id == 19 then Some (codes "h:mm:ss AM/PM")
    else (if id == 20 then Some (codes "h:mm")
    else (if id == 21 then Some (codes "h:mm:ss")
    else (if id == 22 then Some (codes "m/d/yy h:mm")
    else (if id == 37 then Some (codes "#,##0 ;(#,##0)")
    else (if id == 38 then Some (codes "#,##0 ;[Red](#,##0)")
    else (if id == 39 then Some (codes "#,##0.00;(#,##0.00)")
    else (if id == 40 then Some (codes "#,##0.00;[Red](#,##0.00)")
    else (if id == 45 then Some (codes "mm:ss")
    else (if id == 46 then Some (codes "[h]:mm:ss")
    else (if id == 47 then Some (codes "mmss.0")
    else (if id == 48 then Some (codes "##0.0E+0")
    else (if id == 49 then Some (codes "@")
    else None)))))))))))))))))))))))))))

-- a letter of a date or of a time of day
abbrev pub is_date_letter : ℕ → Bool
is_date_letter b = list_any (λ letter. to_ascii_lowercase b == letter) (codes "dmhys")

-- a text begins with `a/p`, in either case
abbrev pub begins_half_day : ℕ → List ℕ → Bool
begins_half_day b bs =
    to_ascii_lowercase b == 97
    && (slice_index bs 0 == 47 && to_ascii_lowercase (slice_index bs 1) == 112)

-- the content of a bracketed group is one letter h, m or s, once or repeated
abbrev pub is_elapsed : List ℕ → Bool
is_elapsed [] = false
is_elapsed (b ∷ bs) =
    list_any (λ letter. to_ascii_lowercase b == letter) (codes "hms")
    && list_all (λ c. to_ascii_lowercase c == to_ascii_lowercase b) bs

-- what stands first in a format: it tells what the format makes of a number, or it is passed over,
-- and this stands behind it
pub data FormatSign : Type 0 where
  tells : CellFormat → FormatSign
  passed : List ℕ → FormatSign

-- a group in brackets, by what stands behind its bracket
abbrev pub group_sign : List ℕ → FormatSign
group_sign bs =
    if nat_lt (position_or_len (λ c. c == 93) bs) (length bs)
    then (if is_elapsed (before_first (λ c. c == 93) bs) then tells TimeDelta
    else passed (after_first (λ c. c == 93) bs))
    else tells Other

-- `\` and `_` pass over the next character, and a quotation mark over all to the next one; behind
-- `;` stands what is for other numbers. Of a character of several bytes each is passed over by
-- itself, since none of them is one of these signs.
abbrev pub first_sign : ℕ → List ℕ → FormatSign
first_sign b bs =
    if b == 92 || b == 95 then passed (drop 1 bs)
    else (if b == 34 then passed (after_first (λ c. c == 34) bs)
    else (if b == 59 then tells Other
    else (if b == 91 then group_sign bs
    else (if is_date_letter b || begins_half_day b bs then tells DateTime
    else passed bs))))

-- the format that a sign tells, or what reading on tells of the rest
abbrev pub read_on : FormatSign → (List ℕ → CellFormat) → CellFormat
read_on (tells format) read = format
read_on (passed rest) read = read rest

-- What a format that is not built in makes of a number, read from its left end; `turns` is at least
-- its length.
abbrev pub format_with_fuel : ℕ → List ℕ → CellFormat
format_with_fuel turns [] = Other
format_with_fuel zero (b ∷ bs) = Other
format_with_fuel (suc turns) (b ∷ bs) =
    read_on (first_sign b bs) (λ rest. format_with_fuel turns rest)

-- what the text of a number format counts
unfoldable pub custom_format : List ℕ → CellFormat
custom_format text = format_with_fuel (length text) text
