-- What is looked up on sheets of the workbook is found on sheets of it.
use Rattle.std.proofs.Common.{◌≡◌, ℕ, ◌+◌, ◌<◌, Bool, true, false, List, [], ◌∷◌, length, Option}
use Rattle.std.proofs.Common.{Some, None, arith, refl, cond, ◌⊎◌, inl, inr}
use Rattle.std.specs.Prelude.{if◌then◌else◌, position}
use Rattle.std.specs.List.{position_from, slice_get}
use Rattle.formula_tokens.specs.Items.{PlaceText, here, on_sheet, on_sheets, in_book, elsewhere}
use Rattle.formula_tokens.specs.Items.{NamedText, cells, lost_cells, name, table, own_table}
use Rattle.formula_tokens.specs.Tokens.{is_same_name}
use Rattle.book_names.specs.Book.{Book, BookTable, sheet_numbered, table_numbered}
use Rattle.book_names.specs.Structured.{AreaText, found, no_column, no_rows, not_read, table_area}
use Rattle.xlsx_graph.specs.Naming.{SheetsText, from_to, unknown_sheet, other_file, sheets_of_place}
use Rattle.xlsx_graph.specs.Naming.{one_sheet, two_sheets, HasSheets, IsInBook, MeaningText}
use Rattle.xlsx_graph.specs.Naming.{means_nothing, name_or, word_on, in_numbered, in_table}
use Rattle.xlsx_graph.specs.Naming.{table_meaning, open_on, cells_on, word_meaning, named_meaning}
use Rattle.xlsx_graph.specs.Naming.{mention_meaning, is_span, function_meaning, is_computed}
use Rattle.xlsx_graph.specs.Naming.{is_parameter, name_placed, corner_here, in_brackets, stands_in}
use Rattle.xlsx_graph.specs.declared.named.Cause.{Cause}
use Rattle.xlsx_graph.specs.declared.named.Cause.TheVariants.{NoName, NoTable, Computed}
use Rattle.cell_refs.specs.declared.dimensions.Dimensions.{Dimensions}
use Rattle.formula_shift.specs.Words.{area_between}
use Rattle.xlsx_graph.specs.declared.reader.Reader.{Reader}

chosen_number : (t : Bool) (k n : ℕ) (o : Option ℕ) → cond t (Some k) o ≡ Some n →
    (k ≡ n) ⊎ (o ≡ Some n)
chosen_number true k n o e = inl (cc)
chosen_number false k n o e = inr e

-- a place lies among things
position_below : {A : Type 0} (p : A → Bool) (k : ℕ) (xs : List A) (n : ℕ) →
    position_from p k xs ≡ Some n → n < k + length xs
position_below p k [] n e = absurd (cc)
position_below p k (x ∷ xs) n e =
    elim (chosen_number (p x) k n (position_from p (k + 1) xs) e) [
      | inl is ↦ omega (arith, is)
      | inr later ↦ omega (arith, position_below p (k + 1) xs n later)
    ]

-- the number of a sheet is that of one
sheet_below : (book : Book) (text : List ℕ) (n : ℕ) → sheet_numbered book text ≡ Some n →
    n < length book.sheets
sheet_below book text n e =
    omega (arith, position_below (λ s. is_same_name s text) 0 book.sheets n e)

one_in : (book : Book) (text : List ℕ) (o : Option ℕ) →
    ((n : ℕ) → o ≡ Some n → n < length book.sheets) → HasSheets book (one_sheet text o)
one_in book text None below = tt
one_in book text (Some n) below = below n refl

two_in : (book : Book) (a b : List ℕ) (first last : Option ℕ) →
    ((n : ℕ) → first ≡ Some n → n < length book.sheets) →
    HasSheets book (two_sheets a b first last)
two_in book a b None last below = tt
two_in book a b (Some m) None below = tt
two_in book a b (Some m) (Some n) below = omega (arith, below m refl)

-- the sheets of a place are the workbook's
pub sheets_in : (book : Book) (sheet : ℕ) (place : PlaceText) → sheet < length book.sheets →
    HasSheets book (sheets_of_place book sheet place)
sheets_in book sheet here lt = lt
sheets_in book sheet in_book lt = lt
sheets_in book sheet (on_sheet a) lt =
    one_in book a (sheet_numbered book a) (sheet_below book a)
sheets_in book sheet (on_sheets a b) lt =
    two_in book a b (sheet_numbered book a) (sheet_numbered book b) (sheet_below book a)
sheets_in book sheet (elsewhere a) lt = tt

name_in : (book : Book) (sheet : ℕ) (w : List ℕ) (other : MeaningText) (o : Option ℕ) →
    sheet < length book.sheets → IsInBook book other → IsInBook book (name_or sheet w other o)
name_in book sheet w other None lt is = is
name_in book sheet w other (Some n) lt is = lt

word_in : (book : Book) (place : PlaceText) (w : List ℕ) (other : MeaningText)
    (sheets : SheetsText) → HasSheets book sheets → IsInBook book other →
    IsInBook book (word_on book place w other sheets)
word_in book place w other (from_to first last) has is =
    name_in book first w other (name_placed book place first w) has is
word_in book place w other (unknown_sheet text) has is = tt
word_in book place w other (other_file text) has is = tt

open_in : (book : Book) (sheets : SheetsText) (cause : Cause) (w : List ℕ) →
    IsInBook book (open_on sheets cause w)
open_in book (from_to first last) cause w = tt
open_in book (unknown_sheet text) cause w = tt
open_in book (other_file text) cause w = tt

cells_in : (book : Book) (sheets : SheetsText) (area : Dimensions) →
    IsInBook book (cells_on sheets area)
cells_in book (from_to first last) area = tt
cells_in book (unknown_sheet text) area = tt
cells_in book (other_file text) area = tt

area_in : (book : Book) (t : BookTable) (inside : List ℕ) (a : AreaText) →
    IsInBook book (table_meaning t inside a)
area_in book t inside (found area) = tt
area_in book t inside (no_column text) = tt
area_in book t inside no_rows = tt
area_in book t inside not_read = tt

table_in : (book : Book) (row : ℕ) (cause : Cause) (text inside : List ℕ)
    (o : Option BookTable) → IsInBook book (in_table row cause text inside o)
table_in book row cause text inside None = tt
table_in book row cause text inside (Some t) = area_in book t inside (table_area t row inside)

numbered_in : (book : Book) (row : ℕ) (cause : Cause) (text inside : List ℕ) (o : Option ℕ) →
    IsInBook book (in_numbered book row cause text inside o)
numbered_in book row cause text inside None = tt
numbered_in book row cause text inside (Some n) =
    table_in book row cause text inside (slice_get book.tables n)

either_in : (book : Book) (t : Bool) (a b : MeaningText) → IsInBook book a → IsInBook book b →
    IsInBook book (if t then a else b)
either_in book true a b first second = first
either_in book false a b first second = second

word_meaning_in : (book : Book) (r : Reader) (place : PlaceText) (w : List ℕ) →
    r.sheet < length book.sheets → IsInBook book (word_meaning book r place w)
word_meaning_in book r place w lt =
    either_in book (is_parameter w) means_nothing _ tt
    (word_in book place w (in_numbered book r.cell.row NoName w [] (table_numbered book w))
    (sheets_of_place book r.sheet place) (sheets_in book r.sheet place lt)
    (numbered_in book r.cell.row NoName w [] (table_numbered book w)))

named_in_book : (book : Book) (r : Reader) (place : PlaceText) (named : NamedText) →
    r.sheet < length book.sheets → IsInBook book (named_meaning book r place named)
named_in_book book r place (cells a b) lt =
    cells_in book (sheets_of_place book r.sheet place)
    (area_between (corner_here r a) (corner_here r b))
named_in_book book r place lost_cells lt = tt
named_in_book book r place (name w) lt =
    either_in book (is_span place) _ _ (open_in book (sheets_of_place book r.sheet place) NoName w)
    (word_meaning_in book r place w lt)
named_in_book book r place (table w inside) lt =
    numbered_in book r.cell.row NoTable w inside (table_numbered book w)
named_in_book book r place (own_table inside) lt =
    numbered_in book r.cell.row NoTable (in_brackets [] inside) inside
    (position (stands_in r.cell) book.tables)

-- what a mention means is found on a sheet of the workbook
pub mention_in_book : (book : Book) (r : Reader) (place : PlaceText) (named : NamedText) →
    r.sheet < length book.sheets → IsInBook book (mention_meaning book r place named)
mention_in_book book r (elsewhere text) named lt = tt
mention_in_book book r here named lt = named_in_book book r here named lt
mention_in_book book r in_book named lt = named_in_book book r in_book named lt
mention_in_book book r (on_sheet a) named lt = named_in_book book r (on_sheet a) named lt
mention_in_book book r (on_sheets a b) named lt = named_in_book book r (on_sheets a b) named lt

-- what the name of a function means is found on a sheet of the workbook
pub function_in_book : (book : Book) (r : Reader) (place : PlaceText) (w : List ℕ) →
    r.sheet < length book.sheets → IsInBook book (function_meaning book r place w)
function_in_book book r place w lt =
    either_in book (is_computed w) _ _ (open_in book (sheets_of_place book r.sheet place)
    Computed w)
    (word_in book place w means_nothing (sheets_of_place book r.sheet place)
    (sheets_in book r.sheet place lt) tt)
