-- The text of a defined name is read while it is open.
use Rattle.std.proofs.Common.{◌≡◌, ℕ, zero, suc, ◌+◌, Bool, true, false, List, [], ◌∷◌, ◌++◌, refl}
use Rattle.std.proofs.Common.{sym, ap, ◌∙◌, arith, append-nil, get_or, set, length, inl, inr, cond}
use Rattle.std.proofs.Common.{nat_lt, not, ◌<◌, ◌≤◌, take, drop}
use Rattle.std.specs.Prelude.{Some, None, map, position, slice_get, Result, Ok, Err, OnErr}
use Rattle.std.specs.List.{position_or_len}
use Rattle.book_names.specs.declared.book.TableShape.{TableShape}
use Rattle.book_names.specs.Told.{table_told}
use Rattle.xlsx_graph.specs.declared.named.BookArea.{BookArea}
use Rattle.xlsx_graph.specs.declared.named.Standing.{Standing}
use Rattle.book_names.specs.Book.{Book, BookName}
use Rattle.xlsx_graph.specs.declared.reader.Reader.{Reader}
use Rattle.xlsx_graph.specs.declared.named.Cause.TheVariants.{NoName, Endless}
use Rattle.xlsx_graph.specs.Naming.{word_found, numbered_found, name_found, found_within, stands_in}
use Rattle.xlsx_graph.specs.Naming.{unvalued, Found, nothing_found, read_more}
use Rattle.xlsx_graph.specs.Kept.{Kept, Adds, KeepsInFront, Gives, IsBeyond, MarksOpen}
use Rattle.xlsx_graph.specs.declared.error.NamingError.{NamingError}
use Rattle.xlsx_graph.specs.declared.error.NamingError.TheVariants.{TooLarge, OutOfMemory}

-- a name that wasn't open is opened and closed
pub closed_again : (xs : List Bool) (n : ℕ) → get_or xs n false ≡ false →
    set (set xs n true) n false ≡ xs
closed_again [] n h = refl
closed_again (x ∷ xs) zero h = ap (λ y. y ∷ xs) (sym h)
closed_again (x ∷ xs) (suc n) h = ap (λ ys. x ∷ ys) (closed_again xs n h)

-- a name's text is counted, and what it names is put behind what was kept
pub adds_name : (a b c d e : Kept) (n bytes : ℕ) (f : Found) → get_or a.opened n false ≡ false →
    Adds a b (read_more bytes nothing_found) → MarksOpen b c n true → Adds c d f →
    MarksOpen d e n false → Adds a e (read_more bytes f)
adds_name a b c d e n bytes f closed read opens adds closes = record {
  areas =
      closes.areas ∙ adds.areas
      ∙ ap (λ xs. xs ++ f.areas) (opens.areas ∙ read.areas ∙ append-nil a.areas);
  words =
      closes.words ∙ adds.words
      ∙ ap (λ xs. xs ++ f.words) (opens.words ∙ read.words ∙ append-nil a.words);
  named = omega (arith, closes.named, adds.named, opens.named, read.named);
  read = omega (arith, closes.read, adds.read, opens.read, read.read);
  opened =
      closes.opened ∙ ap (λ xs. set xs n false) (adds.opened ∙ opens.opened)
      ∙ ap (λ xs. set (set xs n true) n false) read.opened ∙ closed_again a.opened n closed;
}

-- there is no room for what the text names
pub beyond_name : (a b c : Kept) (n bytes : ℕ) (f : Found) →
    Adds a b (read_more bytes nothing_found) → MarksOpen b c n true → IsBeyond c f →
    IsBeyond a (read_more bytes f)
beyond_name a b c n bytes f read opens (inl lt) =
    inl (omega (arith, opens.named, read.named, lt))
beyond_name a b c n bytes f read opens (inr lt) =
    inr (omega (arith, opens.read, read.read, lt))

-- so what the call answers that reads the text is what is answered of the name
pub gives_name : {T : Type 0} (answer : Result T NamingError) (a b c d e : Kept) (n bytes : ℕ)
    (f : Found) → get_or a.opened n false ≡ false → Adds a b (read_more bytes nothing_found) →
    MarksOpen b c n true → Gives answer c d f → MarksOpen d e n false →
    Gives answer a e (read_more bytes f)
gives_name (Ok value) a b c d e n bytes f closed read opens gives closes =
    adds_name a b c d e n bytes f closed read opens gives closes
gives_name (Err TooLarge) a b c d e n bytes f closed read opens gives closes =
    beyond_name a b c n bytes f read opens gives
gives_name (Err OutOfMemory) a b c d e n bytes f closed read opens gives closes = tt

-- and what was kept stands in front, with the same names open
pub front_name : {T : Type 0} (answer : Result T NamingError) (a b c d e : Kept) (n bytes : ℕ) →
    get_or a.opened n false ≡ false → Adds a b (read_more bytes nothing_found) →
    MarksOpen b c n true → OnErr answer (KeepsInFront c d) → MarksOpen d e n false →
    OnErr answer (KeepsInFront a e)
front_name (Ok value) a b c d e n bytes closed read opens more closes = tt
front_name (Err error) a b c d e n bytes closed read opens more closes = record {
  more_areas = more.more_areas;
  more_words = more.more_words;
  areas =
      closes.areas ∙ more.areas
      ∙ ap (λ xs. xs ++ more.more_areas) (opens.areas ∙ read.areas ∙ append-nil a.areas);
  words =
      closes.words ∙ more.words
      ∙ ap (λ xs. xs ++ more.more_words) (opens.words ∙ read.words ∙ append-nil a.words);
  opened =
      closes.opened ∙ ap (λ xs. set xs n false) (more.opened ∙ opens.opened)
      ∙ ap (λ xs. set (set xs n true) n false) read.opened ∙ closed_again a.opened n closed;
}

-- ---- places in lists

place-map : {A B : Type 0} (f : A → B) (p : B → Bool) (xs : List A) →
    position_or_len p (map f xs) ≡ position_or_len (λ x. p (f x)) xs
place-map f p [] = refl
place-map f p (x ∷ xs) = ap (λ n. cond (not (p (f x))) (1 + n) 0) (place-map f p xs)

-- as many things are mapped
pub length_of_map : {A B : Type 0} (f : A → B) (xs : List A) → length (map f xs) ≡ length xs
length_of_map f [] = refl
length_of_map f (x ∷ xs) = ap suc (length_of_map f xs)

-- the first table around a cell stands where the first shape does
pub position_told : (cell : Standing) (tables : List TableShape) →
    position (stands_in cell) (map table_told tables)
    ≡ position (λ t. stands_in cell (table_told t)) tables
position_told cell tables =
    ap (λ n. cond (nat_lt n (length (map table_told tables))) (Some n) None)
    (place-map table_told (stands_in cell) tables)
    ∙ ap (λ k. cond (nat_lt (position_or_len (λ t. stands_in cell (table_told t)) tables) k)
    (Some (position_or_len (λ t. stands_in cell (table_told t)) tables)) None)
    (length_of_map table_told tables)

-- ---- places alone

-- areas, those from one place to another asked for their places alone
pub alone_between : ℕ → ℕ → List BookArea → List BookArea
alone_between c n [] = []
alone_between zero zero (x ∷ xs) = x ∷ xs
alone_between zero (suc n) (x ∷ xs) = unvalued x ∷ alone_between zero n xs
alone_between (suc c) zero (x ∷ xs) = x ∷ xs
alone_between (suc c) (suc n) (x ∷ xs) = x ∷ alone_between c n xs

pub alone_start : (c : ℕ) (xs : List BookArea) → alone_between c c xs ≡ xs
unfolding alone_between
alone_start c [] = refl
alone_start zero (x ∷ xs) = refl
alone_start (suc c) (x ∷ xs) = ap (λ ys. x ∷ ys) (alone_start c xs)

pub alone_step : (c n : ℕ) (xs : List BookArea) (d : BookArea) → c ≤ n → n < length xs →
    set (alone_between c n xs) n (unvalued (get_or (alone_between c n xs) n d))
    ≡ alone_between c (suc n) xs
unfolding alone_between
alone_step c n [] d le lt = absurd (omega (arith, lt))
alone_step zero zero (x ∷ []) d le lt = refl
alone_step zero zero (x ∷ y ∷ xs) d le lt = refl
alone_step zero (suc n) (x ∷ xs) d le lt =
    ap (λ ys. unvalued x ∷ ys) (alone_step zero n xs d (omega arith) (omega (arith, lt)))
alone_step (suc c) zero (x ∷ xs) d le lt = absurd (omega (arith, le))
alone_step (suc c) (suc n) (x ∷ xs) d le lt =
    ap (λ ys. x ∷ ys) (alone_step c n xs d (omega (arith, le)) (omega (arith, lt)))

pub alone_end : (c n : ℕ) (xs : List BookArea) → c ≤ n → length xs ≤ n →
    alone_between c n xs ≡ take c xs ++ map unvalued (drop c xs)
unfolding alone_between
alone_end zero n [] le end = refl
alone_end (suc c) n [] le end = refl
alone_end zero zero (x ∷ xs) le end = absurd (omega (arith, end))
alone_end zero (suc n) (x ∷ xs) le end =
    ap (λ ys. unvalued x ∷ ys) (alone_end zero n xs (omega arith) (omega (arith, end)))
alone_end (suc c) zero (x ∷ xs) le end = absurd (omega (arith, le))
alone_end (suc c) (suc n) (x ∷ xs) le end =
    ap (λ ys. x ∷ ys) (alone_end c n xs (omega (arith, le)) (omega (arith, end)))

-- ---- defined names

pub numbered_none : (turns : ℕ) (book : Book) (r : Reader) (opened : List Bool) (n : ℕ)
    (w : List ℕ) → slice_get book.names n ≡ None →
    word_found NoName w ≡ numbered_found turns book r opened n w
numbered_none turns book r opened n w e =
    sym (ap (name_found (found_within turns book) r opened n w) e)

pub numbered_open : (turns : ℕ) (book : Book) (r : Reader) (opened : List Bool) (n : ℕ)
    (w : List ℕ) (d : BookName) → slice_get book.names n ≡ Some d → get_or opened n false ≡ true →
    word_found Endless w ≡ numbered_found turns book r opened n w
numbered_open turns book r opened n w d e is =
    sym (ap (name_found (found_within turns book) r opened n w) e
    ∙ ap (λ t. cond t (word_found Endless w) (read_more (length d.text)
    (found_within turns book r (set opened n true) d.text))) is)

pub numbered_closed : (turns : ℕ) (book : Book) (r : Reader) (opened : List Bool) (n : ℕ)
    (w : List ℕ) (d : BookName) → slice_get book.names n ≡ Some d → get_or opened n false ≡ false →
    read_more (length d.text) (found_within turns book r (set opened n true) d.text)
    ≡ numbered_found turns book r opened n w
numbered_closed turns book r opened n w d e is =
    sym (ap (name_found (found_within turns book) r opened n w) e
    ∙ ap (λ t. cond t (word_found Endless w) (read_more (length d.text)
    (found_within turns book r (set opened n true) d.text))) is)
