-- What a formula names that says no defined name.
use Rattle.std.proofs.Common.{◌≡◌, ◌∙◌, ◌+◌, ◌||◌, ◌&&◌, ℕ, zero, suc, Bool, true, false, List, []}
use Rattle.std.proofs.Common.{◌∷◌, Option, Some, None, refl, sym, ap, subst, arith, length}
use Rattle.std.specs.Prelude.{if◌then◌else◌, replicate}
use Rattle.std.specs.List.{list_any}
use Rattle.formula_tokens.specs.Items.{PlaceText, here, on_sheet, on_sheets, in_book, elsewhere}
use Rattle.formula_tokens.specs.Items.{NamedText, cells, lost_cells, name, table, own_table}
use Rattle.formula_tokens.specs.Items.{ItemText, says, calls, opens, closes, colon, apart, unread}
use Rattle.formula_tokens.specs.Items.{formula_items}
use Rattle.formula_shift.specs.Words.{area_between}
use Rattle.book_names.specs.Book.{Book, BookName, table_numbered}
use Rattle.xlsx_graph.specs.Naming.{Found, nothing_found, area_found, word_found, MeaningText}
use Rattle.xlsx_graph.specs.Naming.{means_nothing, means_area, means_open, means_name, SheetsText}
use Rattle.xlsx_graph.specs.Naming.{from_to, unknown_sheet, other_file, sheets_of_place, name_or}
use Rattle.xlsx_graph.specs.Naming.{word_on, in_numbered, cells_on, open_on, name_placed, is_span}
use Rattle.xlsx_graph.specs.Naming.{is_parameter, is_computed, word_meaning, named_meaning}
use Rattle.xlsx_graph.specs.Naming.{mention_meaning, function_meaning, corner_here, found_along}
use Rattle.xlsx_graph.specs.Naming.{found_within, item_found, items_belonging, ranged, ranged_on}
use Rattle.xlsx_graph.specs.Naming.{place_alone, closes_next, is_place_asked, before_next}
use Rattle.xlsx_graph.specs.Naming.{meaning_found, named_in, range_area, range_or_both, sign_found}
use Rattle.xlsx_graph.specs.NamingLaws.{with_names, formula_reader, is_name, is_name_item}
use Rattle.xlsx_graph.specs.NamingLaws.{says_name}
use Rattle.xlsx_graph.specs.declared.before.Before.{Before}
use Rattle.xlsx_graph.specs.declared.before.Before.TheVariants.{AnyOther}
use Rattle.xlsx_graph.specs.declared.named.BookArea.{BookArea}
use Rattle.xlsx_graph.specs.declared.named.Cause.TheVariants.{NoName, Computed}
use Rattle.xlsx_graph.specs.declared.named.Standing.{Standing}
use Rattle.xlsx_graph.specs.declared.reader.Reader.{Reader}
use Rattle.xlsx_graph.proofs.Agreeing.{AgreeAt, AgreeOn, along_agrees}

-- what is found of a meaning that is no defined name
plain_found : MeaningText → Found
plain_found means_nothing = nothing_found
plain_found (means_area area) = area_found area
plain_found (means_open cause text) = word_found cause text
plain_found (means_name n sheet w) = nothing_found

-- what is found of a mention, and of a function, where no texts of names are read
abbrev plain_mention : Book → Standing → PlaceText → NamedText → Found
plain_mention book cell p n = plain_found (mention_meaning book (formula_reader cell) p n)

abbrev plain_function : Book → Standing → PlaceText → List ℕ → Found
plain_function book cell p w = plain_found (function_meaning book (formula_reader cell) p w)

neither : (a b : Bool) → (a || b) ≡ false → (a ≡ false) × (b ≡ false)
neither true b e = absurd (cc)
neither false b e = (refl, e)

meaning_plain : (read : Reader → List Bool → List ℕ → Found) (book : Book) (r : Reader)
    (opened : List Bool) (m : MeaningText) → is_name m ≡ false →
    meaning_found read book r opened m ≡ plain_found m
unfolding plain_found
meaning_plain read book r opened means_nothing e = refl
meaning_plain read book r opened (means_area area) e = refl
meaning_plain read book r opened (means_open cause text) e = refl
meaning_plain read book r opened (means_name n sheet w) e = absurd (cc)

plain_at : (read : Reader → List Bool → List ℕ → Found) (book : Book) (cell : Standing)
    (opened : List Bool) (i : ItemText) → is_name_item book cell i ≡ false →
    AgreeAt
    (λ p n. meaning_found read book (formula_reader cell) opened
    (mention_meaning book (formula_reader cell) p n))
    (plain_mention book cell)
    (λ p w. meaning_found read book (formula_reader cell) opened
    (function_meaning book (formula_reader cell) p w))
    (plain_function book cell) i
plain_at read book cell opened (says p n) e =
    meaning_plain read book (formula_reader cell) opened
    (mention_meaning book (formula_reader cell) p n) e
plain_at read book cell opened (calls p w) e =
    meaning_plain read book (formula_reader cell) opened
    (function_meaning book (formula_reader cell) p w) e
plain_at read book cell opened opens e = tt
plain_at read book cell opened closes e = tt
plain_at read book cell opened colon e = tt
plain_at read book cell opened apart e = tt
plain_at read book cell opened (unread text) e = tt

plain_on : (read : Reader → List Bool → List ℕ → Found) (book : Book) (cell : Standing)
    (opened : List Bool) (is : List ItemText) → list_any (is_name_item book cell) is ≡ false →
    AgreeOn
    (λ p n. meaning_found read book (formula_reader cell) opened
    (mention_meaning book (formula_reader cell) p n))
    (plain_mention book cell)
    (λ p w. meaning_found read book (formula_reader cell) opened
    (function_meaning book (formula_reader cell) p w))
    (plain_function book cell) is
plain_on read book cell opened [] none = tt
plain_on read book cell opened (i ∷ is) none =
    let both = neither (is_name_item book cell i) (list_any (is_name_item book cell) is) none in
    (plain_at read book cell opened i both.0, plain_on read book cell opened is both.1)

-- what a formula names that says no defined name, without the texts of names
named_plain : (book : Book) (cell : Standing) (text : List ℕ) →
    says_name book cell text ≡ false → named_in book cell text
    ≡ found_along (plain_mention book cell) (plain_function book cell) AnyOther 0
    (formula_items text)
unfolding named_in found_within
named_plain book cell text none =
    along_agrees _ (plain_mention book cell) _ (plain_function book cell) AnyOther 0
    (formula_items text)
    (plain_on (found_within (length book.names) book) book cell
    (replicate (length book.names) false) (formula_items text) none)

-- ---- nothing is read of names

plain_unread : (m : MeaningText) → (plain_found m).read ≡ 0
unfolding plain_found
plain_unread means_nothing = refl
plain_unread (means_area area) = refl
plain_unread (means_open cause text) = refl
plain_unread (means_name n sheet w) = refl

sum_unread : (a b : ℕ) → a ≡ 0 → b ≡ 0 → a + b ≡ 0
sum_unread a b first second = omega arith

joined_unread : (a b : Found) (area : Option BookArea) → a.read ≡ 0 → b.read ≡ 0 →
    (range_or_both a b area).read ≡ 0
joined_unread a b None first second = omega arith
joined_unread a b (Some area) first second = omega arith

range_unread : (find : PlaceText → NamedText → Found) →
    ((p : PlaceText) (n : NamedText) → (find p n).read ≡ 0) → (f : Found) (is : List ItemText) →
    f.read ≡ 0 → (ranged_on find f is).read ≡ 0
range_unread find unread_all f (colon ∷ says p n ∷ is) none =
    range_unread find unread_all (ranged f (find p n)) is
    (joined_unread f (find p n) (range_area f (find p n)) none (unread_all p n))
range_unread find unread_all f is none = none

either_unread : (t : Bool) (a b : Found) → a.read ≡ 0 → b.read ≡ 0 →
    (if t then a else b).read ≡ 0
either_unread true a b first second = first
either_unread false a b first second = second

sign_unread : (i : ItemText) → (sign_found i).read ≡ 0
sign_unread (says p n) = refl
sign_unread (calls p w) = refl
sign_unread opens = refl
sign_unread closes = refl
sign_unread colon = refl
sign_unread apart = refl
sign_unread (unread text) = refl

item_unread : (book : Book) (cell : Standing) (before : Before) (i : ItemText)
    (is : List ItemText) →
    (item_found (plain_mention book cell) (plain_function book cell) before i is).read ≡ 0
item_unread book cell before (says p n) is =
    let first = plain_unread (mention_meaning book (formula_reader cell) p n) in
    either_unread (is_place_asked before && closes_next is)
    (place_alone (plain_mention book cell p n)) _ first
    (range_unread (plain_mention book cell)
    (λ q m. plain_unread (mention_meaning book (formula_reader cell) q m))
    (plain_mention book cell p n) is first)
item_unread book cell before (calls p w) is =
    plain_unread (function_meaning book (formula_reader cell) p w)
item_unread book cell before opens is = refl
item_unread book cell before closes is = refl
item_unread book cell before colon is = refl
item_unread book cell before apart is = refl
item_unread book cell before (unread text) is = refl

along_unread : (book : Book) (cell : Standing) (before : Before) (skip : ℕ)
    (is : List ItemText) →
    (found_along (plain_mention book cell) (plain_function book cell) before skip is).read ≡ 0
unfolding found_along
along_unread book cell before zero [] = refl
along_unread book cell before (suc skip) [] = refl
along_unread book cell before (suc skip) (i ∷ is) = along_unread book cell AnyOther skip is
along_unread book cell before zero (i ∷ is) =
    sum_unread _ _ (item_unread book cell before i is)
    (along_unread book cell (before_next before i) (items_belonging i is) is)

-- nothing is read of names for a formula that says no defined name
pub unnamed_unread : (book : Book) (cell : Standing) (text : List ℕ) →
    says_name book cell text ≡ false → (named_in book cell text).read ≡ 0
unnamed_unread book cell text none =
    ap (λ f. f.read) (named_plain book cell text none)
    ∙ along_unread book cell AnyOther 0 (formula_items text)

-- ---- other defined names

or_other : (sheet : ℕ) (w : List ℕ) (other : MeaningText) (o : Option ℕ) →
    is_name (name_or sheet w other o) ≡ false → name_or sheet w other o ≡ other
or_other sheet w other None e = refl
or_other sheet w other (Some n) e = absurd (cc)

word_same : (a b : Book) (place : PlaceText) (w : List ℕ) (other : MeaningText)
    (sheets : SheetsText) → is_name (word_on a place w other sheets) ≡ false →
    is_name (word_on b place w other sheets) ≡ false →
    word_on a place w other sheets ≡ word_on b place w other sheets
word_same a b place w other (from_to first last) none also =
    or_other first w other (name_placed a place first w) none
    ∙ sym (or_other first w other (name_placed b place first w) also)
word_same a b place w other (unknown_sheet text) none also = refl
word_same a b place w other (other_file text) none also = refl

-- the sheets of a place are the same, whatever names there are
sheets_same : (book : Book) (names : List BookName) (sheet : ℕ) (place : PlaceText) →
    sheets_of_place book sheet place ≡ sheets_of_place (with_names book names) sheet place
sheets_same book names sheet here = refl
sheets_same book names sheet in_book = refl
sheets_same book names sheet (on_sheet a) = refl
sheets_same book names sheet (on_sheets a b) = refl
sheets_same book names sheet (elsewhere a) = refl

-- a word in a place, where its sheets are the same
placed_same : (book : Book) (names : List BookName) (sheet : ℕ) (place : PlaceText) (w : List ℕ)
    (other : MeaningText) →
    is_name (word_on book place w other (sheets_of_place book sheet place)) ≡ false →
    is_name (word_on (with_names book names) place w other
    (sheets_of_place (with_names book names) sheet place)) ≡ false →
    word_on book place w other (sheets_of_place book sheet place)
    ≡ word_on (with_names book names) place w other
    (sheets_of_place (with_names book names) sheet place)
placed_same book names sheet place w other none =
    subst
    (λ s. is_name (word_on (with_names book names) place w other s) ≡ false →
    word_on book place w other (sheets_of_place book sheet place)
    ≡ word_on (with_names book names) place w other s)
    (sheets_same book names sheet place)
    (word_same book (with_names book names) place w other (sheets_of_place book sheet place) none)

-- where one of two is the same, what is chosen by a test is the same
either_same : (t : Bool) (x y a b : MeaningText) → x ≡ y →
    (is_name a ≡ false → is_name b ≡ false → a ≡ b) → is_name (if t then x else a) ≡ false →
    is_name (if t then y else b) ≡ false → (if t then x else a) ≡ (if t then y else b)
either_same true x y a b same then_same none also = same
either_same false x y a b same then_same none also = then_same none also

named_same : (book : Book) (names : List BookName) (r : Reader) (place : PlaceText)
    (named : NamedText) → is_name (named_meaning book r place named) ≡ false →
    is_name (named_meaning (with_names book names) r place named) ≡ false →
    named_meaning book r place named ≡ named_meaning (with_names book names) r place named
named_same book names r place (cells a b) none also =
    ap (λ s. cells_on s (area_between (corner_here r a) (corner_here r b)))
    (sheets_same book names r.sheet place)
named_same book names r place lost_cells none also = refl
named_same book names r place (name w) none also =
    either_same (is_span place) _ _ (word_meaning book r place w)
    (word_meaning (with_names book names) r place w)
    (ap (λ s. open_on s NoName w) (sheets_same book names r.sheet place))
    (either_same (is_parameter w) means_nothing means_nothing _ _ refl
    (placed_same book names r.sheet place w
    (in_numbered book r.cell.row NoName w [] (table_numbered book w))))
    none also
named_same book names r place (table w inside) none also = refl
named_same book names r place (own_table inside) none also = refl

mention_same : (book : Book) (names : List BookName) (r : Reader) (place : PlaceText)
    (named : NamedText) → is_name (mention_meaning book r place named) ≡ false →
    is_name (mention_meaning (with_names book names) r place named) ≡ false →
    mention_meaning book r place named ≡ mention_meaning (with_names book names) r place named
mention_same book names r (elsewhere text) named none also = refl
mention_same book names r here named none also = named_same book names r here named none also
mention_same book names r in_book named none also =
    named_same book names r in_book named none also
mention_same book names r (on_sheet a) named none also =
    named_same book names r (on_sheet a) named none also
mention_same book names r (on_sheets a b) named none also =
    named_same book names r (on_sheets a b) named none also

function_same : (book : Book) (names : List BookName) (r : Reader) (place : PlaceText)
    (w : List ℕ) → is_name (function_meaning book r place w) ≡ false →
    is_name (function_meaning (with_names book names) r place w) ≡ false →
    function_meaning book r place w ≡ function_meaning (with_names book names) r place w
function_same book names r place w =
    either_same (is_computed w) _ _ _ _
    (ap (λ s. open_on s Computed w) (sheets_same book names r.sheet place))
    (placed_same book names r.sheet place w means_nothing)

same_at : (book : Book) (names : List BookName) (cell : Standing) (i : ItemText) →
    is_name_item book cell i ≡ false → is_name_item (with_names book names) cell i ≡ false →
    AgreeAt (plain_mention book cell) (plain_mention (with_names book names) cell)
    (plain_function book cell) (plain_function (with_names book names) cell) i
same_at book names cell (says p n) none also =
    ap plain_found (mention_same book names (formula_reader cell) p n none also)
same_at book names cell (calls p w) none also =
    ap plain_found (function_same book names (formula_reader cell) p w none also)
same_at book names cell opens none also = tt
same_at book names cell closes none also = tt
same_at book names cell colon none also = tt
same_at book names cell apart none also = tt
same_at book names cell (unread text) none also = tt

same_on : (book : Book) (names : List BookName) (cell : Standing) (is : List ItemText) →
    list_any (is_name_item book cell) is ≡ false →
    list_any (is_name_item (with_names book names) cell) is ≡ false →
    AgreeOn (plain_mention book cell) (plain_mention (with_names book names) cell)
    (plain_function book cell) (plain_function (with_names book names) cell) is
same_on book names cell [] none also = tt
same_on book names cell (i ∷ is) none also =
    let one = neither (is_name_item book cell i) (list_any (is_name_item book cell) is) none in
    let other =
    neither (is_name_item (with_names book names) cell i)
    (list_any (is_name_item (with_names book names) cell) is) also in
    (same_at book names cell i one.0 other.0, same_on book names cell is one.1 other.1)

-- the same is found with other defined names, where the formula says none of them
pub unnamed_same : (book : Book) (names : List BookName) (cell : Standing) (text : List ℕ) →
    says_name book cell text ≡ false → says_name (with_names book names) cell text ≡ false →
    named_in (with_names book names) cell text ≡ named_in book cell text
unnamed_same book names cell text none also =
    named_plain (with_names book names) cell text also
    ∙ sym
    (named_plain book cell text none
    ∙ along_agrees (plain_mention book cell) (plain_mention (with_names book names) cell)
    (plain_function book cell) (plain_function (with_names book names) cell) AnyOther 0
    (formula_items text) (same_on book names cell (formula_items text) none also))
