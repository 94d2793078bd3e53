-- What a formula names in its workbook. A text is a list of bytes; sheets, names, tables, rows and
-- columns are counted from 0.
use Rattle.std.specs.Prelude.{ℕ, zero, suc, ◌+◌, ◌-◌, ◌%◌, ◌<◌, ◌==◌, ◌||◌, ◌&&◌, min, max, Bool}
use Rattle.std.specs.Prelude.{true, false, if◌then◌else◌, List, [], ◌∷◌, ◌++◌, drop, length, map}
use Rattle.std.specs.Prelude.{replicate, codes, Option, None, Some, position, slice_index_or}
use Rattle.std.specs.Prelude.{slice_set}
use Rattle.std.specs.List.{list_any, slice_get}
use Rattle.cell_refs.specs.Words.{row_limit, column_limit, is_in_area}
use Rattle.cell_refs.specs.declared.dimensions.Dimensions.{Dimensions}
use Rattle.formula_shift.specs.Words.{area_between}
use Rattle.formula_shift.specs.declared.corner.Corner.{Corner}
use Rattle.formula_shift.specs.declared.corner.Corner.TheVariants.{Cell, Row, Column}
use Rattle.formula_tokens.specs.Tokens.{is_same_name, is_begun_by}
use Rattle.formula_tokens.specs.Items.{PlaceText, here, on_sheet, on_sheets, in_book, elsewhere}
use Rattle.formula_tokens.specs.Items.{NamedText, cells, lost_cells, name, table, own_table}
use Rattle.formula_tokens.specs.Items.{ItemText, says, calls, opens, closes, colon, unread}
use Rattle.formula_tokens.specs.Items.{formula_items, kept_bytes}
use Rattle.book_names.specs.Book.{Book, BookName, BookTable, sheet_numbered, name_numbered}
use Rattle.book_names.specs.Book.{name_in_scope, table_numbered}
use Rattle.book_names.specs.Structured.{AreaText, found, no_column, no_rows, not_read, table_area}
use Rattle.xlsx_graph.specs.declared.named.BookArea.{BookArea}
use Rattle.xlsx_graph.specs.declared.named.Cause.{Cause}
use Rattle.xlsx_graph.specs.declared.named.Cause.TheVariants.{Computed, External, Gone, NoSheet}
use Rattle.xlsx_graph.specs.declared.named.Cause.TheVariants.{NoName, NoTable, NoColumn, Endless}
use Rattle.xlsx_graph.specs.declared.named.Cause.TheVariants.{NoRange, NotRead}
use Rattle.xlsx_graph.specs.declared.named.Standing.{Standing}
use Rattle.xlsx_graph.specs.declared.reader.Reader.{Reader}
use Rattle.xlsx_graph.specs.declared.before.Before.{Before}
use Rattle.xlsx_graph.specs.declared.before.Before.TheVariants.{PlaceFunction, PlaceBracket}
use Rattle.xlsx_graph.specs.declared.before.Before.TheVariants.{AnyOther}

-- a word that is left open, and why it names no cells that are known
pub record OpenText : Type 0 where
  pub cause : Cause
  pub text : List ℕ

-- What is found: areas, words that are left open, and how much the texts of defined names weigh
-- that were read for it, each as often as it is read.
pub record Found : Type 0 where
  pub areas : List BookArea
  pub words : List OpenText
  pub read : ℕ

-- what is found where nothing is named: no areas, no open words, and no bytes read
abbrev pub nothing_found : Found
nothing_found = record { areas = []; words = []; read = 0 }

-- what is found where an area alone is named
abbrev pub area_found : BookArea → Found
area_found area = record { areas = area ∷ []; words = []; read = 0 }

-- what is found where a word alone is left open
abbrev pub word_found : Cause → List ℕ → Found
word_found cause text =
    record { areas = []; words = record { cause = cause; text = text } ∷ []; read = 0 }

-- what is found, and then more
abbrev pub both_found : Found → Found → Found
both_found a b =
    record { areas = a.areas ++ b.areas; words = a.words ++ b.words; read = a.read + b.read }

-- How much a text weighs that is read for a defined name, by its bytes: so much more than these,
-- since each reading takes its time, however short the text is.
abbrev pub reading_weight : ℕ → ℕ
reading_weight bytes = bytes + 64

-- what was found, with one more text of a defined name read for it, of so many bytes
abbrev pub read_more : ℕ → Found → Found
read_more bytes f =
    record { areas = f.areas; words = f.words; read = reading_weight bytes + f.read }

-- on how many sheets an area lies
abbrev pub sheets_under : BookArea → ℕ
sheets_under a = a.last - a.first + 1

-- how many areas there are, each as often as it has sheets
abbrev pub areas_weight : List BookArea → ℕ
areas_weight [] = 0
areas_weight (a ∷ areas) = sheets_under a + areas_weight areas

-- how much is named: the areas, each as often as it has sheets, and the open words
abbrev pub weight : Found → ℕ
weight f = areas_weight f.areas + length f.words

-- ---- references

-- a place moved round the sheet's edge, where it isn't held
abbrev pub turned : ℕ → ℕ → Bool → ℕ → ℕ
turned limit by true place = place
turned limit by false place = (place + by) % limit

-- a corner that is told from A1, in the formula of a cell
abbrev pub turned_corner : Standing → Corner → Corner
turned_corner s (Cell row col absolute_row absolute_col) =
    Cell (turned row_limit s.row absolute_row row)
    (turned column_limit s.column absolute_col col) absolute_row absolute_col
turned_corner s (Row row absolute) = Row (turned row_limit s.row absolute row) absolute
turned_corner s (Column col absolute) =
    Column (turned column_limit s.column absolute col) absolute

-- references of a defined name are told from A1
abbrev pub corner_here : Reader → Corner → Corner
corner_here r c = if r.is_name then turned_corner r.cell c else c

-- the sheets of a place: the first and the last; or a word that is no sheet; or another file
pub data SheetsText : Type 0 where
  from_to : ℕ → ℕ → SheetsText
  unknown_sheet : List ℕ → SheetsText
  other_file : List ℕ → SheetsText

-- the sheet of a number, if there is one
abbrev pub one_sheet : List ℕ → Option ℕ → SheetsText
one_sheet text None = unknown_sheet text
one_sheet text (Some n) = from_to n n

-- the sheets from one to another, whichever stands first
abbrev pub two_sheets : List ℕ → List ℕ → Option ℕ → Option ℕ → SheetsText
two_sheets a b None n = unknown_sheet a
two_sheets a b (Some m) None = unknown_sheet b
two_sheets a b (Some m) (Some n) = from_to (min m n) (max m n)

-- the sheets of a place, where the formula's own are read on a sheet
abbrev pub sheets_of_place : Book → ℕ → PlaceText → SheetsText
sheets_of_place book sheet here = from_to sheet sheet
sheets_of_place book sheet in_book = from_to sheet sheet
sheets_of_place book sheet (on_sheet a) = one_sheet a (sheet_numbered book a)
sheets_of_place book sheet (on_sheets a b) =
    two_sheets a b (sheet_numbered book a) (sheet_numbered book b)
sheets_of_place book sheet (elsewhere a) = other_file a

-- sheets of a place are sheets of the workbook, where they are known
abbrev pub HasSheets : Book → SheetsText → Type 0
HasSheets book (from_to first last) = first < length book.sheets
HasSheets book _ = Unit {0}

-- ---- what a mention means

-- What a mention means before the texts of names are read: nothing; an area; a word that is left
-- open; a defined name by its number, on a sheet, with the word that it is.
pub data MeaningText : Type 0 where
  means_nothing : MeaningText
  means_area : BookArea → MeaningText
  means_open : Cause → List ℕ → MeaningText
  means_name : ℕ → ℕ → List ℕ → MeaningText

-- a defined name is read on a sheet of the workbook
abbrev pub IsInBook : Book → MeaningText → Type 0
IsInBook book (means_name n sheet w) = sheet < length book.sheets
IsInBook book _ = Unit {0}

-- the text of a word with a text in brackets behind it
abbrev pub in_brackets : List ℕ → List ℕ → List ℕ
in_brackets word inside = word ++ (91 ∷ inside ++ 93 ∷ [])

-- the area of a table, or why there is none
abbrev pub table_meaning : BookTable → List ℕ → AreaText → MeaningText
table_meaning t inside (found area) =
    means_area (record { first = t.sheet; last = t.sheet; area = area; is_valued = true })
table_meaning t inside (no_column text) = means_open NoColumn (kept_bytes text)
table_meaning t inside no_rows = means_open Gone (in_brackets t.called inside)
table_meaning t inside not_read = means_open NotRead (in_brackets [] inside)

-- what brackets behind a table mean in a formula on a row; without a table a word is left open
abbrev pub in_table : ℕ → Cause → List ℕ → List ℕ → Option BookTable → MeaningText
in_table row cause text inside None = means_open cause text
in_table row cause text inside (Some t) = table_meaning t inside (table_area t row inside)

-- what brackets behind the table of a number mean in a formula on a row; without a number a word is
-- left open
abbrev pub in_numbered : Book → ℕ → Cause → List ℕ → List ℕ → Option ℕ → MeaningText
in_numbered book row cause text inside None = means_open cause text
in_numbered book row cause text inside (Some n) =
    in_table row cause text inside (slice_get book.tables n)

-- a cell stands in a table
abbrev pub stands_in : Standing → BookTable → Bool
stands_in s t = (t.sheet == s.sheet) && is_in_area t.whole (s.row, s.column)

-- a word is a parameter of LET or LAMBDA, or the name of a function that is handed on
abbrev pub is_parameter : List ℕ → Bool
is_parameter w =
    is_begun_by (codes "_xlpm.") w || is_begun_by (codes "_xlop.") w
    || is_begun_by (codes "_xleta.") w

-- the name of a function without the marks of later versions
abbrev pub plain_function : List ℕ → List ℕ
plain_function w =
    if is_begun_by (codes "_xlfn._xlws.") w then drop 12 w
    else (if is_begun_by (codes "_xlfn.") w || is_begun_by (codes "_xlws.") w then drop 6 w
    else w)

-- functions whose answer is a reference that their values alone tell
abbrev pub computing_functions : List (List ℕ)
computing_functions = codes "INDIRECT" ∷ codes "OFFSET" ∷ []

-- functions that ask where an area is, and not what is in it
abbrev pub place_functions : List (List ℕ)
place_functions =
    codes "ROW" ∷ codes "ROWS" ∷ codes "COLUMN" ∷ codes "COLUMNS" ∷ codes "AREAS"
    ∷ codes "SHEET" ∷ codes "SHEETS" ∷ codes "ISREF" ∷ []

-- a word is the name of one of these functions
abbrev pub is_function_of : List (List ℕ) → List ℕ → Bool
is_function_of functions w = list_any (λ f. is_same_name f (plain_function w)) functions

-- the name of a function tells that its answer is a reference that values alone tell
abbrev pub is_computed : List ℕ → Bool
is_computed w = is_function_of computing_functions w

-- a function asks for a place
abbrev pub asks_place : List ℕ → Bool
asks_place w = is_function_of place_functions w

-- the number of the defined name that a word is, in a place on a sheet
abbrev pub name_placed : Book → PlaceText → ℕ → List ℕ → Option ℕ
name_placed book in_book sheet w = name_in_scope book None w
name_placed book place sheet w = name_numbered book sheet w

-- a place has the sheets from one to another
abbrev pub is_span : PlaceText → Bool
is_span (on_sheets a b) = true
is_span _ = false

-- a defined name on a sheet, or what else a word means
abbrev pub name_or : ℕ → List ℕ → MeaningText → Option ℕ → MeaningText
name_or sheet w other None = other
name_or sheet w other (Some n) = means_name n sheet w

-- what is meant on the sheets of a place, where there are such
abbrev pub on_known : SheetsText → (ℕ → ℕ → MeaningText) → MeaningText
on_known (from_to first last) meant = meant first last
on_known (unknown_sheet text) meant = means_open NoSheet text
on_known (other_file text) meant = means_open External text

-- what a mention of cells on sheets means: an area of these sheets
abbrev pub cells_on : SheetsText → Dimensions → MeaningText
cells_on sheets area =
    on_known sheets (λ first last.
    means_area (record { first = first; last = last; area = area; is_valued = true }))

-- a word on sheets that names no cells there
abbrev pub open_on : SheetsText → Cause → List ℕ → MeaningText
open_on sheets cause w = on_known sheets (λ first last. means_open cause w)

-- a word on sheets: a defined name of the first of them, or what else it means
abbrev pub word_on : Book → PlaceText → List ℕ → MeaningText → SheetsText → MeaningText
word_on book place w other sheets =
    on_known sheets (λ first last. name_or first w other (name_placed book place first w))

-- a word in a place: a parameter, a defined name or a table
abbrev pub word_meaning : Book → Reader → PlaceText → List ℕ → MeaningText
word_meaning book r place w =
    if is_parameter w then means_nothing
    else word_on book place w
    (in_numbered book r.cell.row NoName w [] (table_numbered book w))
    (sheets_of_place book r.sheet place)

-- what is named in a place of this workbook
abbrev pub named_meaning : Book → Reader → PlaceText → NamedText → MeaningText
named_meaning book r place (cells a b) =
    cells_on (sheets_of_place book r.sheet place) (area_between (corner_here r a) (corner_here r b))
named_meaning book r place lost_cells = means_open Gone (codes "#REF!")
named_meaning book r place (name w) =
    if is_span place then open_on (sheets_of_place book r.sheet place) NoName w
    else word_meaning book r place w
named_meaning book r place (table w inside) =
    in_numbered book r.cell.row NoTable w inside (table_numbered book w)
named_meaning book r place (own_table inside) =
    in_numbered book r.cell.row NoTable (in_brackets [] inside) inside
    (position (stands_in r.cell) book.tables)

-- what a mention of cells, a name or a table means, before texts of names are read
abbrev pub mention_meaning : Book → Reader → PlaceText → NamedText → MeaningText
mention_meaning book r (elsewhere text) named = means_open External text
mention_meaning book r place named = named_meaning book r place named

-- what the name of a function means: mostly nothing that names cells
abbrev pub function_meaning : Book → Reader → PlaceText → List ℕ → MeaningText
function_meaning book r place w =
    if is_computed w then open_on (sheets_of_place book r.sheet place) Computed w
    else word_on book place w means_nothing (sheets_of_place book r.sheet place)

-- ---- ranges

-- two are one area each, and nothing else
abbrev pub are_areas : Found → Found → Bool
are_areas a b =
    length a.areas == 1 && length b.areas == 1 && length a.words == 0 && length b.words == 0

-- the least area that has two
abbrev pub hull : Dimensions → Dimensions → Dimensions
hull a b = record {
  start = (min a.start.0 b.start.0, min a.start.1 b.start.1);
  end = (max a.end.0 b.end.0, max a.end.1 b.end.1);
}

-- the area from one to another, where both lie on the same sheets
abbrev pub joined_areas : List BookArea → List BookArea → Option BookArea
joined_areas (a ∷ []) (b ∷ []) =
    if (a.first == b.first) && (a.last == b.last)
    then Some (record {
      first = a.first;
      last = a.last;
      area = hull a.area b.area;
      is_valued = true;
    })
    else None
joined_areas xs ys = None

-- an area in place of two, or both with a word that is left open
abbrev pub range_or_both : Found → Found → Option BookArea → Found
range_or_both a b (Some area) =
    record { areas = area ∷ []; words = []; read = a.read + b.read }
range_or_both a b None = both_found (both_found a b) (word_found NoRange (codes ":"))

-- the area that two areas are joined to, where there are just two
abbrev pub joined_pair : List BookArea → Option BookArea
joined_pair (a ∷ b ∷ []) = joined_areas (a ∷ []) (b ∷ [])
joined_pair areas = None

-- the area that the range operator makes of two, if it makes one
abbrev pub range_area : Found → Found → Option BookArea
range_area a b = if are_areas a b then joined_areas a.areas b.areas else None

-- what the range operator makes of two
abbrev pub ranged : Found → Found → Found
ranged a b = range_or_both a b (range_area a b)

-- the mentions behind colons, joined to what was found
abbrev pub ranged_on : (PlaceText → NamedText → Found) → Found → List ItemText → Found
ranged_on find so_far (colon ∷ says p n ∷ items) = ranged_on find (ranged so_far (find p n)) items
ranged_on find so_far _ = so_far

-- how many items behind a mention belong to its range
abbrev pub range_length : List ItemText → ℕ
range_length (colon ∷ says p n ∷ items) = suc (suc (range_length items))
range_length _ = 0

-- ---- all items

-- an area whose place alone is asked for
abbrev pub unvalued : BookArea → BookArea
unvalued a = record { first = a.first; last = a.last; area = a.area; is_valued = false }

-- what is found, where its place alone is asked for
abbrev pub place_alone : Found → Found
place_alone f = record { areas = map unvalued f.areas; words = f.words; read = f.read }

-- a bracket closes in front
abbrev pub closes_next : List ItemText → Bool
closes_next (closes ∷ items) = true
closes_next _ = false

-- a bracket stands before an item that a function opened which asks for a place
abbrev pub is_place_asked : Before → Bool
is_place_asked PlaceBracket = true
is_place_asked _ = false

-- what is found of a mention with its range, where this stands before it and these items behind
abbrev pub range_found : (PlaceText → NamedText → Found) → Before → Found → List ItemText → Found
range_found find before first items =
    if is_place_asked before && closes_next items then place_alone first
    else ranged_on find first items

-- what is found of an item that is no mention and no function
abbrev pub sign_found : ItemText → Found
sign_found colon = word_found NoRange (codes ":")
sign_found (unread text) = word_found NotRead text
sign_found _ = nothing_found

-- what is found of an item and those of its range, where this stands before it and these behind
abbrev pub item_found : (PlaceText → NamedText → Found) → (PlaceText → List ℕ → Found) → Before →
    ItemText → List ItemText → Found
item_found find call before (says p n) items = range_found find before (find p n) items
item_found find call before (calls p w) items = call p w
item_found find call before i items = sign_found i

-- how many of the items behind one belong to it
abbrev pub items_belonging : ItemText → List ItemText → ℕ
items_belonging (says p n) items = range_length items
items_belonging _ items = 0

-- the name of a function stands before an item
abbrev pub behind_function : Bool → Before
behind_function true = PlaceFunction
behind_function false = AnyOther

-- a bracket stands before an item, behind what stood before the bracket
abbrev pub behind_bracket : Before → Before
behind_bracket PlaceFunction = PlaceBracket
behind_bracket _ = AnyOther

-- what stands before the items behind an item
abbrev pub before_next : Before → ItemText → Before
before_next before (calls p w) = behind_function (asks_place w)
before_next before opens = behind_bracket before
before_next before _ = AnyOther

-- What is found along items, where this stands before them; the first `skip` are counted already.
unfoldable pub found_along : (PlaceText → NamedText → Found) → (PlaceText → List ℕ → Found) →
    Before → ℕ → List ItemText → Found
found_along find call before skip [] = nothing_found
found_along find call before (suc skip) (i ∷ items) = found_along find call AnyOther skip items
found_along find call before zero (i ∷ items) =
    both_found (item_found find call before i items)
    (found_along find call (before_next before i) (items_belonging i items) items)

-- ---- defined names

-- how the text of a defined name is read that was found on a sheet
abbrev pub name_reader : Reader → ℕ → Reader
name_reader r sheet = record { cell = r.cell; sheet = sheet; is_name = true }

-- What a defined name names, as `read` reads its text by a reader, where these names are open: for
-- each defined name whether the text stands in it.
abbrev pub name_found : (Reader → List Bool → List ℕ → Found) → Reader → List Bool → ℕ →
    List ℕ → Option BookName → Found
name_found read r opened n w None = word_found NoName w
name_found read r opened n w (Some d) =
    if slice_index_or opened n false then word_found Endless w
    else read_more (length d.text) (read r (slice_set opened n true) d.text)

-- what is found of what a mention means
abbrev pub meaning_found : (Reader → List Bool → List ℕ → Found) → Book → Reader → List Bool →
    MeaningText → Found
meaning_found read book r opened means_nothing = nothing_found
meaning_found read book r opened (means_area area) = area_found area
meaning_found read book r opened (means_open cause text) = word_found cause text
meaning_found read book r opened (means_name n sheet w) =
    name_found read (name_reader r sheet) opened n w (slice_get book.names n)

-- what a text names; `turns` is more than the number of defined names that aren't open
unfoldable pub found_within : ℕ → Book → Reader → List Bool → List ℕ → Found
found_within zero book r opened text = word_found Endless text
found_within (suc turns) book r opened text =
    found_along
    (λ p n. meaning_found (found_within turns book) book r opened (mention_meaning book r p n))
    (λ p w. meaning_found (found_within turns book) book r opened (function_meaning book r p w))
    AnyOther 0 (formula_items text)

-- what is found of a mention, by what it means
abbrev pub mention_found : ℕ → Book → Reader → List Bool → PlaceText → NamedText → Found
mention_found turns book r opened place named =
    meaning_found (found_within turns book) book r opened (mention_meaning book r place named)

-- what the name of a function names
abbrev pub function_found : ℕ → Book → Reader → List Bool → PlaceText → List ℕ → Found
function_found turns book r opened place w =
    meaning_found (found_within turns book) book r opened (function_meaning book r place w)

-- what the defined name of a number names, by the reader of its text
abbrev pub numbered_found : ℕ → Book → Reader → List Bool → ℕ → List ℕ → Found
numbered_found turns book r opened n w =
    name_found (found_within turns book) r opened n w (slice_get book.names n)

-- what a formula in a cell names
unfoldable pub named_in : Book → Standing → List ℕ → Found
named_in book cell text =
    found_within (suc (length book.names)) book
    (record { cell = cell; sheet = cell.sheet; is_name = false })
    (replicate (length book.names) false) text
