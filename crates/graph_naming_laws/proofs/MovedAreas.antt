-- What a formula names that says no defined name, and what it names moved.
use Rattle.std.proofs.Common.{◌≡◌, ◌∙◌, ◌&&◌, ◌||◌, ℕ, Bool, true, false, cond, List, [], ◌∷◌, ◌++◌}
use Rattle.std.proofs.Common.{map, Option, Some, None, refl, ap, length}
use Rattle.std.specs.Prelude.{ℤ, replicate}
use Rattle.std.specs.List.{list_any}
use Rattle.cell_refs.specs.declared.dimensions.Dimensions.{Dimensions}
use Rattle.formula_shift.specs.Words.{area_between, moved}
use Rattle.formula_shift.specs.References.{shifted_corner}
use Rattle.formula_shift.specs.declared.corner.Corner.{Corner}
use Rattle.formula_shift.proofs.Joining.{both_true}
use Rattle.formula_tokens.specs.Tokens.{tokens}
use Rattle.formula_tokens.specs.Items.{PlaceText, here, on_sheet, on_sheets, in_book, elsewhere}
use Rattle.formula_tokens.specs.Items.{NamedText, cells, lost_cells, name, table, own_table}
use Rattle.formula_tokens.specs.Items.{ItemText, says, calls, opens, closes, colon, apart, unread}
use Rattle.formula_tokens.specs.Items.{formula_items}
use Rattle.book_names.specs.Book.{Book}
use Rattle.xlsx_graph.specs.Naming.{Found, MeaningText, means_nothing, means_area, means_open}
use Rattle.xlsx_graph.specs.Naming.{means_name, SheetsText, from_to, unknown_sheet, other_file}
use Rattle.xlsx_graph.specs.Naming.{sheets_of_place, cells_on, mention_meaning, function_meaning}
use Rattle.xlsx_graph.specs.Naming.{meaning_found, unvalued, place_alone, closes_next}
use Rattle.xlsx_graph.specs.Naming.{is_place_asked, ranged_on, range_length, item_found}
use Rattle.xlsx_graph.specs.Naming.{items_belonging, before_next, found_along, found_within}
use Rattle.xlsx_graph.specs.Naming.{named_in, OpenText}
use Rattle.xlsx_graph.specs.NamingLaws.{formula_reader, is_name, is_name_item, says_name}
use Rattle.xlsx_graph.specs.declared.named.BookArea.{BookArea}
use Rattle.xlsx_graph.specs.declared.named.Standing.{Standing}
use Rattle.graph_naming_laws.specs.MovedItems.{cells_or_lost, moved_item, are_hashes_apart}
use Rattle.graph_naming_laws.specs.MovedItems.{moves_plainly}
use Rattle.graph_naming_laws.specs.MovedNaming.{item_meaning, valued, meant_areas, meant_words}
use Rattle.graph_naming_laws.specs.MovedNaming.{areas_meant, words_meant}
use Rattle.graph_naming_laws.specs.OwnSheet.{is_plain}
use Rattle.graph_naming_laws.proofs.OwnAreas.{plain_parts}
use Rattle.graph_naming_laws.proofs.OwnItems.{moved_items, no_colons}
use Rattle.graph_naming_laws.proofs.WordItems.{is_colon}
use Rattle.graph_naming_laws.proofs.Tests.{neither}

valued_both : (xs ys : List BookArea) → map valued (xs ++ ys) ≡ map valued xs ++ map valued ys
valued_both [] ys = refl
valued_both (x ∷ xs) ys = ap (λ areas. valued x ∷ areas) (valued_both xs ys)

valued_alone : (xs : List BookArea) → map valued (map unvalued xs) ≡ map valued xs
valued_alone [] = refl
valued_alone (x ∷ xs) = ap (λ areas. valued x ∷ areas) (valued_alone xs)

-- where no colon follows a mention it is no range
range_alone : (is : List ItemText) → list_any is_colon is ≡ false → range_length is ≡ 0
range_alone [] none = refl
range_alone (says p n ∷ is) none = refl
range_alone (calls p w ∷ is) none = refl
range_alone (opens ∷ is) none = refl
range_alone (closes ∷ is) none = refl
range_alone (colon ∷ is) none = absurd (cc)
range_alone (apart ∷ is) none = refl
range_alone (unread text ∷ is) none = refl

ranged_alone : (find : PlaceText → NamedText → Found) (f : Found) (is : List ItemText) →
    list_any is_colon is ≡ false → ranged_on find f is ≡ f
ranged_alone find f [] none = refl
ranged_alone find f (says p n ∷ is) none = refl
ranged_alone find f (calls p w ∷ is) none = refl
ranged_alone find f (opens ∷ is) none = refl
ranged_alone find f (closes ∷ is) none = refl
ranged_alone find f (colon ∷ is) none = absurd (cc)
ranged_alone find f (apart ∷ is) none = refl
ranged_alone find f (unread text ∷ is) none = refl

-- what is found is these areas and these words
record Finds (f : Found) (areas : List BookArea) (words : List OpenText) : Type 0 where
  pub areas_are : map valued f.areas ≡ areas
  pub words_are : f.words ≡ words

-- items of a formula in a cell, which read no defined name
module _ (book : Book) (cell : Standing) (opened : List Bool) where
  abbrev find : PlaceText → NamedText → Found
  find p n = meaning_found (found_within (length book.names) book) book (formula_reader cell) opened
      (mention_meaning book (formula_reader cell) p n)

  abbrev call : PlaceText → List ℕ → Found
  call p w = meaning_found (found_within (length book.names) book) book (formula_reader cell) opened
      (function_meaning book (formula_reader cell) p w)

  meaning_finds : (m : MeaningText) → is_name m ≡ false →
      Finds
      (meaning_found (found_within (length book.names) book) book (formula_reader cell) opened m)
      (meant_areas m)
      (meant_words m)
  meaning_finds means_nothing none = record { areas_are = refl; words_are = refl }
  meaning_finds (means_area area) none = record { areas_are = refl; words_are = refl }
  meaning_finds (means_open cause text) none = record { areas_are = refl; words_are = refl }
  meaning_finds (means_name n sheet w) none = absurd (cc)

  mention_finds : (before : _) (p : PlaceText) (n : NamedText) (is : List ItemText) →
      is_name (mention_meaning book (formula_reader cell) p n) ≡ false →
      list_any is_colon is ≡ false →
      Finds (item_found find call before (says p n) is)
      (meant_areas (mention_meaning book (formula_reader cell) p n))
      (meant_words (mention_meaning book (formula_reader cell) p n))
  mention_finds before p n is none plain =
      by_test (is_place_asked before && closes_next is) where
        m : MeaningText
        m = mention_meaning book (formula_reader cell) p n

        found : Finds (find p n) (meant_areas (mention_meaning book (formula_reader cell) p n))
            (meant_words (mention_meaning book (formula_reader cell) p n))
        found = meaning_finds (mention_meaning book (formula_reader cell) p n) none

        by_test : (t : Bool) →
            Finds (cond t (place_alone (find p n)) (ranged_on find (find p n) is))
            (meant_areas (mention_meaning book (formula_reader cell) p n))
            (meant_words (mention_meaning book (formula_reader cell) p n))
        by_test true = record {
          areas_are = valued_alone (find p n).areas ∙ found.areas_are;
          words_are = found.words_are;
        }
        by_test false =
            let alone = ranged_alone find (find p n) is plain in record {
              areas_are = ap (λ (f : Found). map valued f.areas) alone ∙ found.areas_are;
              words_are = ap (λ (f : Found). f.words) alone ∙ found.words_are;
            }

  item_finds : (before : _) (i : ItemText) (is : List ItemText) →
      is_name_item book cell i ≡ false → is_colon i ≡ false → list_any is_colon is ≡ false →
      Finds (item_found find call before i is) (meant_areas (item_meaning book cell i))
      (meant_words (item_meaning book cell i))
  item_finds before (says p n) is none own plain = mention_finds before p n is none plain
  item_finds before (calls p w) is none own plain =
      meaning_finds (function_meaning book (formula_reader cell) p w) none
  item_finds before opens is none own plain = record { areas_are = refl; words_are = refl }
  item_finds before closes is none own plain = record { areas_are = refl; words_are = refl }
  item_finds before colon is none own plain = absurd (cc)
  item_finds before apart is none own plain = record { areas_are = refl; words_are = refl }
  item_finds before (unread text) is none own plain =
      record { areas_are = refl; words_are = refl }

  within_none : (i : ItemText) (is : List ItemText) → list_any is_colon is ≡ false →
      items_belonging i is ≡ 0
  within_none (says p n) is plain = range_alone is plain
  within_none (calls p w) is plain = refl
  within_none opens is plain = refl
  within_none closes is plain = refl
  within_none colon is plain = refl
  within_none apart is plain = refl
  within_none (unread text) is plain = refl

  along_finds : (before : _) (is : List ItemText) →
      list_any (is_name_item book cell) is ≡ false → list_any is_colon is ≡ false →
      Finds (found_along find call before 0 is) (areas_meant book cell is)
      (words_meant book cell is)
  unfolding found_along
  along_finds before [] none plain = record { areas_are = refl; words_are = refl }
  along_finds before (i ∷ is) none plain =
      let names = neither (is_name_item book cell i) (list_any (is_name_item book cell) is) none in
      let colons = neither (is_colon i) (list_any is_colon is) plain in
      let first = item_finds before i is names.0 colons.0 colons.1 in
      let rest = along_finds (before_next before i) is names.1 colons.1 in
      let within = within_none i is colons.1 in
      record {
        areas_are = valued_both (item_found find call before i is).areas
            (found_along find call (before_next before i) (items_belonging i is) is).areas
            ∙ (λ t. first.areas_are t
            ++ map valued (found_along find call (before_next before i) (within t) is).areas)
            ∙ ap (λ areas. meant_areas (item_meaning book cell i) ++ areas) rest.areas_are;
        words_are = (λ t. first.words_are t
            ++ (found_along find call (before_next before i) (within t) is).words)
            ∙ ap (λ words. meant_words (item_meaning book cell i) ++ words) rest.words_are;
      }

-- what a formula names that says no defined name and whose items are these
named_finds : (book : Book) (cell : Standing) (text : List ℕ) → says_name book cell text ≡ false →
    list_any is_colon (formula_items text) ≡ false →
    Finds (named_in book cell text) (areas_meant book cell (formula_items text))
    (words_meant book cell (formula_items text))
unfolding named_in found_within
named_finds book cell text none plain =
    along_finds book cell
    (replicate (length book.names) false) _ (formula_items text) none plain

plain_finds : (book : Book) (cell : Standing) (text : List ℕ) → is_plain text ≡ true →
    says_name book cell text ≡ false →
    Finds (named_in book cell text) (areas_meant book cell (formula_items text))
    (words_meant book cell (formula_items text))
plain_finds book cell text plain none =
    let parts = plain_parts text plain in
    named_finds book cell text none (no_colons text parts.alike parts.ends parts.marks)

pub plain_areas : (book : Book) (cell : Standing) (text : List ℕ) → is_plain text ≡ true →
    says_name book cell text ≡ false →
    map valued (named_in book cell text).areas ≡ areas_meant book cell (formula_items text)
plain_areas book cell text plain none = (plain_finds book cell text plain none).areas_are

pub plain_words : (book : Book) (cell : Standing) (text : List ℕ) → is_plain text ≡ true →
    says_name book cell text ≡ false →
    (named_in book cell text).words ≡ words_meant book cell (formula_items text)
plain_words book cell text plain none = (plain_finds book cell text plain none).words_are

-- ---- moved formulas

pub items_are_moved : (text : List ℕ) (offset : ℤ × ℤ) → moves_plainly text ≡ true →
    formula_items (moved text offset) ≡ map (moved_item offset) (formula_items text)
unfolding moves_plainly
items_are_moved text offset moves =
    let both = both_true (is_plain text) (are_hashes_apart (tokens text)) moves in
    let parts = plain_parts text both.0 in
    moved_items offset text parts.alike parts.ends parts.marks both.1

pub plainly_plain : (text : List ℕ) → moves_plainly text ≡ true → is_plain text ≡ true
unfolding moves_plainly
plainly_plain text moves =
    (both_true (is_plain text) (are_hashes_apart (tokens text)) moves).0

-- cells are no defined name
cells_on_plain : (sheets : SheetsText) (area : Dimensions) → is_name (cells_on sheets area) ≡ false
cells_on_plain (from_to first last) area = refl
cells_on_plain (unknown_sheet text) area = refl
cells_on_plain (other_file text) area = refl

cells_plain : (book : Book) (cell : Standing) (p : PlaceText) (a b : Corner) →
    is_name_item book cell (says p (cells a b)) ≡ false
cells_plain book cell here a b = refl
cells_plain book cell in_book a b = refl
cells_plain book cell (on_sheet s) a b =
    cells_on_plain (sheets_of_place book cell.sheet (on_sheet s)) (area_between a b)
cells_plain book cell (on_sheets s t) a b =
    cells_on_plain (sheets_of_place book cell.sheet (on_sheets s t)) (area_between a b)
cells_plain book cell (elsewhere s) a b = refl

lost_plain : (book : Book) (cell : Standing) (p : PlaceText) →
    is_name_item book cell (says p lost_cells) ≡ false
lost_plain book cell here = refl
lost_plain book cell in_book = refl
lost_plain book cell (on_sheet s) = refl
lost_plain book cell (on_sheets s t) = refl
lost_plain book cell (elsewhere s) = refl

corners_plain : (book : Book) (cell : Standing) (p : PlaceText) (a b : Option Corner) →
    is_name_item book cell (says p (cells_or_lost a b)) ≡ false
corners_plain book cell p (Some a) (Some b) = cells_plain book cell p a b
corners_plain book cell p (Some a) None = lost_plain book cell p
corners_plain book cell p None b = lost_plain book cell p

-- an item that moves is no defined name
item_plain : (book : Book) (cell : Standing) (offset : ℤ × ℤ) (i : ItemText) →
    is_name_item book cell i ≡ false → is_name_item book cell (moved_item offset i) ≡ false
item_plain book cell offset (says p (cells a b)) none =
    corners_plain book cell p (shifted_corner offset a) (shifted_corner offset b)
item_plain book cell offset (says p lost_cells) none = none
item_plain book cell offset (says p (name w)) none = none
item_plain book cell offset (says p (table w g)) none = none
item_plain book cell offset (says p (own_table g)) none = none
item_plain book cell offset (calls p w) none = none
item_plain book cell offset opens none = none
item_plain book cell offset closes none = none
item_plain book cell offset colon none = none
item_plain book cell offset apart none = none
item_plain book cell offset (unread text) none = none

items_plain : (book : Book) (cell : Standing) (offset : ℤ × ℤ) (is : List ItemText) →
    list_any (is_name_item book cell) is ≡ false →
    list_any (is_name_item book cell) (map (moved_item offset) is) ≡ false
items_plain book cell offset [] none = refl
items_plain book cell offset (i ∷ is) none =
    let names = neither (is_name_item book cell i) (list_any (is_name_item book cell) is) none in
    λ t. item_plain book cell offset i names.0 t || items_plain book cell offset is names.1 t

colon_kept : (offset : ℤ × ℤ) (i : ItemText) → is_colon (moved_item offset i) ≡ is_colon i
colon_kept offset (says p n) = refl
colon_kept offset (calls p w) = refl
colon_kept offset opens = refl
colon_kept offset closes = refl
colon_kept offset colon = refl
colon_kept offset apart = refl
colon_kept offset (unread text) = refl

colons_kept : (offset : ℤ × ℤ) (is : List ItemText) →
    list_any is_colon (map (moved_item offset) is) ≡ list_any is_colon is
colons_kept offset [] = refl
colons_kept offset (i ∷ is) = λ t. colon_kept offset i t || colons_kept offset is t

moved_finds : (book : Book) (there : Standing) (text : List ℕ) (offset : ℤ × ℤ) →
    moves_plainly text ≡ true → says_name book there text ≡ false →
    Finds (named_in book there (moved text offset))
    (areas_meant book there (map (moved_item offset) (formula_items text)))
    (words_meant book there (map (moved_item offset) (formula_items text)))
moved_finds book there text offset moves none =
    let are = items_are_moved text offset moves in
    let parts = plain_parts text (plainly_plain text moves) in
    let colons : list_any is_colon (formula_items (moved text offset)) ≡ false =
    ap (list_any is_colon) are ∙ colons_kept offset (formula_items text)
    ∙ no_colons text parts.alike parts.ends parts.marks in
    let names : says_name book there (moved text offset) ≡ false =
    ap (list_any (is_name_item book there)) are
    ∙ items_plain book there offset (formula_items text) none in
    let found = named_finds book there (moved text offset) names colons in
    record {
      areas_are = found.areas_are ∙ ap (areas_meant book there) are;
      words_are = found.words_are ∙ ap (words_meant book there) are;
    }

pub moved_areas_are : (book : Book) (there : Standing) (text : List ℕ) (offset : ℤ × ℤ) →
    moves_plainly text ≡ true → says_name book there text ≡ false →
    map valued (named_in book there (moved text offset)).areas
    ≡ areas_meant book there (map (moved_item offset) (formula_items text))
moved_areas_are book there text offset moves none =
    (moved_finds book there text offset moves none).areas_are

pub moved_words_are : (book : Book) (there : Standing) (text : List ℕ) (offset : ℤ × ℤ) →
    moves_plainly text ≡ true → says_name book there text ≡ false →
    (named_in book there (moved text offset)).words
    ≡ words_meant book there (map (moved_item offset) (formula_items text))
moved_words_are book there text offset moves none =
    (moved_finds book there text offset moves none).words_are
