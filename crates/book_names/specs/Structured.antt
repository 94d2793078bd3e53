-- What stands in brackets behind a table's name, and the area that it is.
use Rattle.std.specs.Prelude.{ℕ, zero, suc, ◌+◌, ◌-◌, ◌==◌, ◌&&◌, nat_le, nat_lt, min, max, Bool}
use Rattle.std.specs.Prelude.{false, if◌then◌else◌, List, [], ◌∷◌, take, drop, length, codes}
use Rattle.std.specs.Prelude.{Option, None, Some, option_map}
use Rattle.std.specs.List.{position_from, suffix_len}
use Rattle.cell_refs.specs.declared.dimensions.Dimensions.{Dimensions}
use Rattle.formula_tokens.specs.Tokens.{is_same_name, is_blank_byte, behind_blanks}
use Rattle.formula_tokens.specs.Items.{kept_bytes}
use Rattle.book_names.specs.Book.{BookTable}
use Rattle.book_names.specs.declared.rows.TableRows.{TableRows}
use Rattle.book_names.specs.declared.rows.TableRows.TheVariants.{All, Data, Headers, Totals}
use Rattle.book_names.specs.declared.rows.TableRows.TheVariants.{ThisRow}
use Rattle.book_names.specs.declared.rows.RowSpan.{RowSpan}
use Rattle.book_names.specs.declared.rows.RowSpan.TheVariants.{Unsaid, Rows, Missing}

-- the rows that a word behind the sign of a number names
abbrev pub rows_of : List ℕ → Option TableRows
rows_of text =
    if is_same_name text (codes "#All") then Some All
    else (if is_same_name text (codes "#Data") then Some Data
    else (if is_same_name text (codes "#Headers") then Some Headers
    else (if is_same_name text (codes "#Totals") then Some Totals
    else (if is_same_name text (codes "#This Row") then Some ThisRow else None))))

-- the first and the last row of some rows of a table, in a formula on a row, if it has them
abbrev pub rows_placed : BookTable → ℕ → TableRows → RowSpan
rows_placed t row All =
    if nat_le t.whole.start.0 t.whole.end.0 then Rows t.whole.start.0 t.whole.end.0 else Missing
rows_placed t row Data =
    if nat_le (t.whole.start.0 + t.headers + t.totals) t.whole.end.0
    then Rows (t.whole.start.0 + t.headers) (t.whole.end.0 - t.totals) else Missing
rows_placed t row Headers =
    if nat_lt 0 t.headers && nat_le (t.whole.start.0 + t.headers) (t.whole.end.0 + 1)
    then Rows t.whole.start.0 (t.whole.start.0 + t.headers - 1) else Missing
rows_placed t row Totals =
    if nat_lt 0 t.totals && nat_le (t.whole.start.0 + t.totals) (t.whole.end.0 + 1)
    then Rows (t.whole.end.0 + 1 - t.totals) t.whole.end.0 else Missing
rows_placed t row ThisRow =
    if nat_le (t.whole.start.0 + t.headers) row && nat_le (row + t.totals) t.whole.end.0
    then Rows row row else Missing

-- rows and more rows, with all between them
abbrev pub joined_rows : RowSpan → RowSpan → RowSpan
joined_rows Unsaid other = other
joined_rows (Rows a b) (Rows c d) = Rows (min a c) (max b d)
joined_rows (Rows a b) other = other
joined_rows Missing other = Missing

-- Which rows brackets select, and which columns: all, one, or those from one to another. Columns
-- are texts as they are written.
pub record Selection : Type 0 where
  pub rows : RowSpan
  pub columns : List (List ℕ)

-- a text without the blanks before it and behind it
abbrev pub without_blanks : List ℕ → List ℕ
without_blanks text =
    take (length (behind_blanks text) - suffix_len is_blank_byte (behind_blanks text))
    (behind_blanks text)

-- where the bracket stands that closes a part: the first that no apostrophe keeps
unfoldable pub part_end : List ℕ → Option ℕ
part_end [] = None
part_end (b ∷ []) = if b == 93 then Some 0 else None
part_end (b ∷ c ∷ bs) =
    if b == 93 then Some 0
    else (if b == 39 then option_map (λ n. n + 2) (part_end bs)
    else option_map (λ n. n + 1) (part_end (c ∷ bs)))

-- a part in brackets, without the blanks in it, and what stands behind it and the blanks there
pub record BracketPart : Type 0 where
  pub text : List ℕ
  pub behind : List ℕ

-- a part that is closed at a place
abbrev pub part_closed : List ℕ → Option ℕ → Option BracketPart
part_closed bs None = None
part_closed bs (Some n) = Some (record {
  text = without_blanks (take n bs);
  behind = behind_blanks (drop (n + 1) bs);
})

-- the part that a text begins with behind its blanks
abbrev pub part_begun : List ℕ → Option BracketPart
part_begun [] = None
part_begun (b ∷ bs) = if b == 91 then part_closed bs (part_end bs) else None

-- the first part of a text
abbrev pub first_part : List ℕ → Option BracketPart
first_part text = part_begun (behind_blanks text)

-- a text begins with a byte
abbrev pub begins_with_byte : ℕ → List ℕ → Bool
begins_with_byte a [] = false
begins_with_byte a (b ∷ bs) = a == b

-- columns from one to that of the last part, which nothing follows
abbrev pub columns_to : RowSpan → List ℕ → Option BracketPart → Option Selection
columns_to rows first None = None
columns_to rows first (Some part) =
    if begins_with_byte 35 part.text then None
    else (if length part.behind == 0
    then Some (record { rows = rows; columns = first ∷ part.text ∷ [] }) else None)

-- the selection of a column, or of more of them up to the one behind a colon
abbrev pub columns_from : RowSpan → BracketPart → Option Selection
columns_from rows part =
    if length part.behind == 0
    then Some (record { rows = rows; columns = part.text ∷ [] })
    else (if begins_with_byte 58 part.behind
    then columns_to rows part.text (first_part (drop 1 part.behind)) else None)

-- rows, or what the parts behind a comma select with them, as `next` reads these
abbrev pub rows_and : (RowSpan → Option BracketPart → Option Selection) → RowSpan → List ℕ →
    Option Selection
rows_and next rows behind =
    if length behind == 0 then Some (record { rows = rows; columns = [] })
    else (if begins_with_byte 44 behind then next rows (first_part (drop 1 behind)) else None)

-- rows of a name with those that were selected before them, if it is one of rows
abbrev pub rows_with : BookTable → ℕ → RowSpan → Option TableRows → Option RowSpan
rows_with t row rows None = None
rows_with t row rows (Some more) = Some (joined_rows rows (rows_placed t row more))

-- what stands behind a part of rows, if it is one
abbrev pub behind_rows : (RowSpan → Option BracketPart → Option Selection) → List ℕ
    → Option RowSpan →
    Option Selection
behind_rows next behind None = None
behind_rows next behind (Some rows) = rows_and next rows behind

-- what parts select behind rows; `turns` is at least their number
unfoldable pub selected_within : BookTable → ℕ → ℕ → RowSpan → Option BracketPart → Option Selection
selected_within t row zero rows part = None
selected_within t row (suc turns) rows None = None
selected_within t row (suc turns) rows (Some part) =
    if begins_with_byte 35 part.text
    then behind_rows (selected_within t row turns) part.behind
    (rows_with t row rows (rows_of part.text))
    else columns_from rows part

-- the selection of rows alone, in all columns of the table, if there are rows
abbrev pub rows_alone : Option RowSpan → Option Selection
rows_alone None = None
rows_alone (Some rows) = Some (record { rows = rows; columns = [] })

-- what stands in brackets without the sign of the formula's row
abbrev pub plain_selection : BookTable → ℕ → List ℕ → Option Selection
plain_selection t row [] = Some (record { rows = Unsaid; columns = [] })
plain_selection t row (b ∷ bs) =
    if b == 64 then None
    else (if b == 35 then rows_alone (rows_with t row Unsaid (rows_of (b ∷ bs)))
    else (if b == 91
    then selected_within t row (suc (length (b ∷ bs))) Unsaid (first_part (b ∷ bs))
    else Some (record { rows = Unsaid; columns = (b ∷ bs) ∷ [] })))

-- what is selected in the row of the formula, where no other rows are
abbrev pub in_row : BookTable → ℕ → RowSpan → List (List ℕ) → Option Selection
in_row t row Unsaid columns =
    Some (record { rows = rows_placed t row ThisRow; columns = columns })
in_row t row (Rows a b) columns = None
in_row t row Missing columns = None

-- what a selection, if there is one, selects in the row of the formula, where it has no other rows
abbrev pub on_this_row : BookTable → ℕ → Option Selection → Option Selection
on_this_row t row None = None
on_this_row t row (Some s) = in_row t row s.rows s.columns

-- what stands in brackets behind a table's name; `@` selects the formula's row
abbrev pub selection_of : BookTable → ℕ → List ℕ → Option Selection
selection_of t row text =
    if begins_with_byte 64 (without_blanks text)
    then on_this_row t row (plain_selection t row (without_blanks (drop 1 (without_blanks text))))
    else plain_selection t row (without_blanks text)

-- ---- the area

-- a column of a table on the sheet, where its area has it
abbrev pub column_inside : BookTable → Option ℕ → Option ℕ
column_inside t None = None
column_inside t (Some n) =
    if nat_le (t.whole.start.1 + n) t.whole.end.1 then Some (t.whole.start.1 + n) else None

-- the column of a name, as it is written, on the sheet
abbrev pub column_placed : BookTable → List ℕ → Option ℕ
column_placed t text =
    column_inside t (position_from (λ c. is_same_name c (kept_bytes text)) 0 t.columns)

-- an area, the column that there is none of, no rows, or what is no selection
pub data AreaText : Type 0 where
  found : Dimensions → AreaText
  no_column : List ℕ → AreaText
  no_rows : AreaText
  not_read : AreaText

-- the area of rows and columns, either column first
abbrev pub area_at : ℕ → ℕ → ℕ → ℕ → AreaText
area_at first last a b =
    found (record { start = (first, min a b); end = (last, max a b) })

-- the area of rows and one column, if there is one
abbrev pub column_area : ℕ → ℕ → List ℕ → Option ℕ → AreaText
column_area first last text None = no_column text
column_area first last text (Some a) = area_at first last a a

-- the area of rows and the columns from one to another, if there are both
abbrev pub columns_area : ℕ → ℕ → List ℕ → List ℕ → Option ℕ → Option ℕ → AreaText
columns_area first last text other None b = no_column text
columns_area first last text other (Some a) None = no_column other
columns_area first last text other (Some a) (Some b) = area_at first last a b

-- the area of rows and columns of a table
abbrev pub crossed_area : BookTable → ℕ → ℕ → List (List ℕ) → AreaText
crossed_area t first last [] = area_at first last t.whole.start.1 t.whole.end.1
crossed_area t first last (text ∷ []) = column_area first last text (column_placed t text)
crossed_area t first last (text ∷ other ∷ more) =
    columns_area first last text other (column_placed t text) (column_placed t other)

-- the area of rows and columns of a table, where the table has the rows
abbrev pub area_in : BookTable → RowSpan → List (List ℕ) → AreaText
area_in t (Rows first last) columns = crossed_area t first last columns
area_in t Missing columns = no_rows
area_in t Unsaid columns = no_rows

-- the rows that are selected: those of the data where none are said
abbrev pub rows_or_data : BookTable → ℕ → RowSpan → RowSpan
rows_or_data t row Unsaid = rows_placed t row Data
rows_or_data t row (Rows a b) = Rows a b
rows_or_data t row Missing = Missing

-- the area of a selection, if there is one
abbrev pub area_selected : BookTable → ℕ → Option Selection → AreaText
area_selected t row None = not_read
area_selected t row (Some s) = area_in t (rows_or_data t row s.rows) s.columns

-- the area of a table that brackets name in a formula on a row
unfoldable pub table_area : BookTable → ℕ → List ℕ → AreaText
table_area t row text = area_selected t row (selection_of t row text)
