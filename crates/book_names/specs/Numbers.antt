-- For names the number of the first of each.
use Rattle.std.specs.Prelude.{◌≡◌, ℕ, ◌+◌, ◌<◌, ◌==◌, ◌&&◌, List, length, map, Option, None, Some}
use Rattle.std.specs.Prelude.{Vec}
use Rattle.std.specs.List.{position_from, slice_get}
use Rattle.std.specs.BTreeMap.{BTreeMap, get_by}
use Rattle.std.specs.Cmp.Lexicographic.{slice_cmp}
use Rattle.std.specs.Ordering.{nat_cmp}
use Rattle.std.specs.Str.{bytes_eq}
use Rattle.std.specs.declared.alloc.Global.{Global}
use Rattle.book_names.specs.Book.{Book, BookName, BookTable, lowered, scope_place}

-- the number that is kept for a name as it is looked up
abbrev pub kept_number : BTreeMap (Vec ℕ Global) ℕ → List ℕ → Option ℕ
kept_number numbers key = get_by (λ kept. slice_cmp nat_cmp key kept.items) numbers

-- the number of the first name that is looked up so, where they are counted from this on
abbrev pub first_from : ℕ → List (List ℕ) → List ℕ → Option ℕ
first_from number names key = position_from (λ n. bytes_eq (lowered n) key) number names

-- each name has the number of the first that is looked up as it is
abbrev pub FindsFirstNumbers : BTreeMap (Vec ℕ Global) ℕ → ℕ → List (List ℕ) → Type 0
FindsFirstNumbers numbers number names =
    (key : List ℕ) → kept_number numbers key ≡ first_from number names key

-- the number that is kept in a map, if there is one
abbrev pub kept_in : Option (BTreeMap (Vec ℕ Global) ℕ) → List ℕ → Option ℕ
kept_in None key = None
kept_in (Some numbers) key = kept_number numbers key

-- the number that is kept at the place of a scope
abbrev pub kept_at : List (BTreeMap (Vec ℕ Global) ℕ) → ℕ → List ℕ → Option ℕ
kept_at scopes place key = kept_in (slice_get scopes place) key

-- the number of the first defined name of the scope at a place that is looked up so, where they are
-- counted from this on
abbrev pub first_at : ℕ → List BookName → ℕ → List ℕ → Option ℕ
first_at number names place key =
    position_from (λ n. (scope_place n.scope == place) && bytes_eq (lowered n.called) key) number
    names

-- each defined name of these scopes has the number of the first that is looked up as it is
abbrev pub FindsAt : List (BTreeMap (Vec ℕ Global) ℕ) → ℕ → List BookName → Type 0
FindsAt scopes number names =
    (place : ℕ) (key : List ℕ) → place < length scopes →
    kept_at scopes place key ≡ first_at number names place key

-- numbers of a table's columns, where there are both
abbrev pub FindsColumnsOf : Option (BTreeMap (Vec ℕ Global) ℕ) → Option BookTable → Type 0
FindsColumnsOf (Some numbers) (Some t) = FindsFirstNumbers numbers 0 t.columns
FindsColumnsOf (Some numbers) None = Unit {0}
FindsColumnsOf None t = Unit {0}

-- the columns of each table are found by their names, each by the number of the first of its name
pub record FindsColumns (found : List (BTreeMap (Vec ℕ Global) ℕ)) (tables : List BookTable)
    : Type 0 where
  pub size : length found ≡ length tables
  pub each : (n : ℕ) → FindsColumnsOf (slice_get found n) (slice_get tables n)

-- all names are found by their numbers, those of sheets, of tables and of columns by the first of
-- them, defined names by the first of their scopes
pub record IsIndexed (book : Book) (sheets tables : BTreeMap (Vec ℕ Global) ℕ)
    (names columns : List (BTreeMap (Vec ℕ Global) ℕ)) : Type 0 where
  pub sheets_found : FindsFirstNumbers sheets 0 book.sheets
  pub scopes : length names ≡ length book.sheets + 1
  pub names_found : FindsAt names 0 book.names
  pub tables_found : FindsFirstNumbers tables 0 (map (λ t. t.called) book.tables)
  pub columns_found : FindsColumns columns book.tables
