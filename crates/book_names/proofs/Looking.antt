-- What is kept of a book's names is what is looked up.
use Rattle.std.proofs.Common.{◌≡◌, ℕ, zero, suc, ◌+◌, ◌<◌, List, [], ◌∷◌, length, get_or, Bool}
use Rattle.std.proofs.Common.{cond, Option, Some, None, refl, sym, ap, ◌∙◌, arith}
use Rattle.std.specs.Prelude.{Vec, map, string_bytes}
use Rattle.std.specs.List.{slice_get, position_from}
use Rattle.std.specs.BTreeMap.{BTreeMap}
use Rattle.std.specs.declared.alloc.Global.{Global}
use Rattle.book_names.specs.declared.book.TableShape.{TableShape}
use Rattle.book_names.specs.Book.{Book, BookName, lowered, name_in_scope, or_else}
use Rattle.book_names.specs.Numbers.{kept_number, kept_in, first_at, FindsAt}
use Rattle.book_names.specs.Told.{table_told}

slice_get_is : {A : Type 0} (xs : List A) (n : ℕ) (d : A) → n < length xs →
    slice_get xs n ≡ Some (get_or xs n d)
slice_get_is [] n d lt = absurd (omega (arith, lt))
slice_get_is (x ∷ xs) zero d lt = refl
slice_get_is (x ∷ xs) (suc n) d lt = slice_get_is xs n d (omega (arith, lt))

-- the number that the map of a scope keeps is that of the first name of the scope
pub scoped_is : (names : List BookName) (scopes : List (BTreeMap (Vec ℕ Global) ℕ)) (place : ℕ)
    (numbers : BTreeMap (Vec ℕ Global) ℕ) (text key : List ℕ) → FindsAt scopes 0 names →
    place < length scopes → numbers ≡ get_or scopes place numbers → key ≡ lowered text →
    kept_number numbers key ≡ first_at 0 names place (lowered text)
scoped_is names scopes place numbers text key found lt is lower =
    ap (λ o. kept_in (Some o) key) is
    ∙ ap (λ o. kept_in o key) (sym (slice_get_is scopes place numbers lt))
    ∙ found place key lt ∙ ap (first_at 0 names place) lower

-- what the map of a sheet keeps is a name of the sheet
pub own_is : (book : Book) (scopes : List (BTreeMap (Vec ℕ Global) ℕ)) (sheet : ℕ)
    (numbers : BTreeMap (Vec ℕ Global) ℕ) (text key : List ℕ) → FindsAt scopes 0 book.names →
    length scopes ≡ length book.sheets + 1 → sheet < length book.sheets →
    numbers ≡ get_or scopes (sheet + 1) numbers → key ≡ lowered text →
    kept_number numbers key ≡ name_in_scope book (Some sheet) text
own_is book scopes sheet numbers text key found size lt is lower =
    scoped_is book.names scopes (sheet + 1) numbers text key found (omega (arith, size, lt)) is
    lower

-- a sheet's own name goes before the workbook's
pub own_first : (own other : Option ℕ) (n : ℕ) → Some n ≡ own → Some n ≡ or_else own other
own_first own other n is = ap (λ o. or_else o other) is

pub book_second : (own other found : Option ℕ) → None ≡ own → found ≡ other →
    found ≡ or_else own other
book_second own other found none is = is ∙ ap (λ o. or_else o other) none

-- a place among mapped things is that among the things
pub position_from-map : {A B : Type 0} (f : A → B) (p : B → Bool) (n : ℕ) (xs : List A) →
    position_from p n (map f xs) ≡ position_from (λ x. p (f x)) n xs
position_from-map f p n [] = refl
position_from-map f p n (x ∷ xs) =
    ap (cond (p (f x)) (Some n)) (position_from-map f p (n + 1) xs)

-- the names of tables
pub names_of_tables : (tables : List TableShape) →
    map (λ t. t.called) (map table_told tables) ≡ map (λ t. string_bytes t.name) tables
names_of_tables [] = refl
names_of_tables (t ∷ ts) = ap (λ ns. string_bytes t.name ∷ ns) (names_of_tables ts)
