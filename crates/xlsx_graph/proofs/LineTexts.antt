-- The texts of lines, piece by piece.
use Rattle.std.proofs.Common.{◌≡◌, ◌∙◌, ℕ, zero, suc, ◌+◌, ◌-◌, ◌/◌, ◌%◌, ◌<◌, ◌≤◌, true, false}
use Rattle.std.proofs.Common.{List, [], ◌∷◌, ◌++◌, ap, append_assoc, append-nil, arith, cond, drop}
use Rattle.std.proofs.Common.{flat_map, inl, inr, length, not, refl, sym, take, add-one}
use Rattle.std.specs.Prelude.{◌==◌, codes, is_ok, Err, Ok, OnOk, Result, Some}
use Rattle.std.specs.List.{after_first, before_first, position_or_len, slice_get}
use Rattle.std.proofs.lemmas.Bool.{cases_Bool}
use Rattle.std.proofs.lemmas.Grind.{flat_map-append}
use Rattle.book_names.specs.Book.{Book}
use Rattle.cell_refs.specs.Words.{capitals_with_fuel}
use Rattle.escaped_text.proofs.Extending.{Extends-push, Extends-trans}
use Rattle.escaped_text.specs.Escaped.{AddsBehind, escaped, escaped_byte}
use Rattle.list_lines.specs.Fields.{next_field}
use Rattle.xlsx_graph.proofs.Asking.{formula_at}
use Rattle.xlsx_graph.specs.Graph.{GraphFormula}
use Rattle.xlsx_graph.specs.GraphLines.{book_area_field, cell_text, doubled, graph_line}
use Rattle.xlsx_graph.specs.GraphLines.{graph_lines, cell_numbered, one_of, open_field}
use Rattle.xlsx_graph.specs.Naming.{OpenText}
use Rattle.xlsx_graph.specs.Told.{is_apostrophe}
use Rattle.xlsx_graph.specs.declared.named.BookArea.{BookArea}
use Rattle.xlsx_graph.specs.declared.named.Standing.{Standing}

-- ---- names of columns

capitals_suc : (t n m : ℕ) → n ≡ suc m
    → capitals_with_fuel (suc t) n ≡ capitals_with_fuel t (m / 26) ++ (65 + m % 26) ∷ []
capitals_suc t n m is = ap (capitals_with_fuel (suc t)) is

-- the last capital, and those before it
pub capitals_more : (turns n : ℕ) → 0 < n → n ≤ turns
    → capitals_with_fuel turns n
    ≡ capitals_with_fuel (turns - 1) ((n - 1) / 26) ++ (65 + (n - 1) % 26) ∷ []
capitals_more zero n some enough = absurd (omega arith)
capitals_more (suc t) n some enough =
    let one : n ≡ suc (n - 1) = omega arith in
    let fewer : t ≡ suc t - 1 = omega arith in
    capitals_suc t n (n - 1) one
    ∙ ap (λ k. capitals_with_fuel k ((n - 1) / 26) ++ (65 + (n - 1) % 26) ∷ []) fewer

-- ---- apostrophes

place_here : (b : ℕ) (bs : List ℕ) → (b == 39) ≡ true
    → position_or_len is_apostrophe (b ∷ bs) ≡ 0
place_here b bs e = ap (λ t. cond (not t) (1 + position_or_len is_apostrophe bs) 0) e

place_behind : (b : ℕ) (bs : List ℕ) → (b == 39) ≡ false
    → position_or_len is_apostrophe (b ∷ bs) ≡ suc (position_or_len is_apostrophe bs)
place_behind b bs e =
    ap (λ t. cond (not t) (1 + position_or_len is_apostrophe bs) 0) e ∙ omega arith

doubled_here : (b : ℕ) (bs : List ℕ) → (b == 39) ≡ true → doubled (b ∷ bs) ≡ 39 ∷ 39 ∷ doubled bs
doubled_here b bs e = ap (λ t. cond t (39 ∷ 39 ∷ []) (b ∷ []) ++ doubled bs) e

doubled_other : (b : ℕ) (bs : List ℕ) → (b == 39) ≡ false → doubled (b ∷ bs) ≡ b ∷ doubled bs
doubled_other b bs e = ap (λ t. cond t (39 ∷ 39 ∷ []) (b ∷ []) ++ doubled bs) e

doubled_at : (s : List ℕ) (n : ℕ) → position_or_len is_apostrophe s ≡ n → n < length s
    → doubled s ≡ take n s ++ 39 ∷ 39 ∷ doubled (drop (suc n) s)
doubled_at [] n e lt = absurd (omega (arith, lt))
doubled_at (b ∷ bs) zero e lt =
    elim (cases_Bool (b == 39)) [
      | inl is ↦ doubled_here b bs is
      | inr is ↦ absurd (omega (arith, place_behind b bs is, e))
    ]
doubled_at (b ∷ bs) (suc n) e lt =
    elim (cases_Bool (b == 39)) [
      | inl is ↦ absurd (omega (arith, place_here b bs is, e))
      | inr is ↦ doubled_other b bs is
          ∙ ap (λ xs. b ∷ xs)
          (doubled_at bs n (omega (arith, place_behind b bs is, e)) (omega (arith, lt)))
    ]

-- the text round the first apostrophe
pub doubled_around : (s before behind : List ℕ) → position_or_len is_apostrophe s < length s
    → before ≡ before_first is_apostrophe s → behind ≡ after_first is_apostrophe s
    → escaped (doubled s) ≡ escaped before ++ 39 ∷ 39 ∷ escaped (doubled behind)
doubled_around s before behind lt first last =
    let place = position_or_len is_apostrophe s in
    let told : doubled s ≡ before ++ 39 ∷ 39 ∷ doubled behind =
    doubled_at s place refl lt
    ∙ ap (λ n. take place s ++ 39 ∷ 39 ∷ doubled (drop n s)) (sym (add-one place))
    ∙ ap (λ xs. xs ++ 39 ∷ 39 ∷ doubled (after_first is_apostrophe s)) (sym first)
    ∙ ap (λ xs. before ++ 39 ∷ 39 ∷ doubled xs) (sym last) in
    ap escaped told ∙ flat_map-append escaped_byte before (39 ∷ 39 ∷ doubled behind)

-- a text without apostrophes
pub doubled_whole : (s : List ℕ) → position_or_len is_apostrophe s ≡ length s → doubled s ≡ s
doubled_whole [] e = refl
doubled_whole (b ∷ bs) e =
    elim (cases_Bool (b == 39)) [
      | inl is ↦ absurd (omega (arith, place_here b bs is, e))
      | inr is ↦ doubled_other b bs is
          ∙ ap (λ xs. b ∷ xs) (doubled_whole bs (omega (arith, place_behind b bs is, e)))
    ]

-- ---- lines of formulas

-- the line of a formula, put together
pub formula_line : (book : Book) (f : GraphFormula) (cell : Standing) (areas : List BookArea)
    (words : List OpenText) (v w x y z : List ℕ) → cell ≡ f.cell → areas ≡ f.found.areas
    → words ≡ f.found.words → w ≡ v ++ cell_text book cell
    → x ≡ w ++ flat_map (λ a. next_field (book_area_field book a)) areas
    → y ≡ x ++ flat_map (λ o. next_field (open_field o)) words → z ≡ y ++ codes "\n"
    → z ≡ v ++ graph_line book f
formula_line book f cell areas words v w x y z cell_is areas_are words_are first second third last =
    let a = cell_text book f.cell in
    let b = flat_map (λ area. next_field (book_area_field book area)) f.found.areas in
    let d = flat_map (λ o. next_field (open_field o)) f.found.words in
    let one : w ≡ v ++ a = first ∙ ap (λ s. v ++ cell_text book s) cell_is in
    let two : x ≡ (v ++ a) ++ b =
    second ∙ ap (λ s. w ++ flat_map (λ area. next_field (book_area_field book area)) s) areas_are
    ∙ ap (λ s. s ++ b) one in
    let three : y ≡ ((v ++ a) ++ b) ++ d =
    third ∙ ap (λ s. x ++ flat_map (λ o. next_field (open_field o)) s) words_are
    ∙ ap (λ s. s ++ d) two in
    last ∙ ap (λ s. s ++ codes "\n") three
    ∙ append_assoc ((v ++ a) ++ b) d (codes "\n")
    ∙ append_assoc (v ++ a) b (d ++ codes "\n")
    ∙ append_assoc v a (b ++ (d ++ codes "\n"))

drop_get : (fs : List GraphFormula) (n : ℕ) (f : GraphFormula) → slice_get fs n ≡ Some f
    → drop n fs ≡ f ∷ drop (suc n) fs
drop_get [] n f at = absurd (cc)
drop_get (g ∷ gs) zero f at = let e : g ≡ f = cc in ap (λ h. h ∷ gs) e
drop_get (g ∷ gs) (suc n) f at = drop_get gs n f at

-- one line more
pub lines_step : (book : Book) (fs : List GraphFormula) (n : ℕ) (out new all : List ℕ)
    → n < length fs → out ++ flat_map (graph_line book) (drop n fs) ≡ all
    → ((f : GraphFormula) → slice_get fs n ≡ Some f → new ≡ out ++ graph_line book f)
    → new ++ flat_map (graph_line book) (drop (n + 1) fs) ≡ all
lines_step book fs n out new all within before pushed =
    let found = formula_at fs n within in
    let f = found.0 in
    let rest = flat_map (graph_line book) (drop (suc n) fs) in
    ap (λ k. new ++ flat_map (graph_line book) (drop k fs)) (add-one n)
    ∙ ap (λ s. s ++ rest) (pushed f found.1)
    ∙ append_assoc out (graph_line book f) rest
    ∙ ap (λ gs. out ++ flat_map (graph_line book) gs) (sym (drop_get fs n f found.1))
    ∙ before

drop_all : (fs : List GraphFormula) (n : ℕ) → length fs ≤ n → drop n fs ≡ []
drop_all [] zero past = refl
drop_all [] (suc n) past = refl
drop_all (g ∷ gs) zero past = absurd (omega arith)
drop_all (g ∷ gs) (suc n) past = drop_all gs n (omega arith)

-- all lines
pub lines_all : (book : Book) (fs : List GraphFormula) (n : ℕ) (out start : List ℕ)
    → length fs ≤ n
    → out ++ flat_map (graph_line book) (drop n fs) ≡ start ++ flat_map (graph_line book) fs
    → out ≡ start ++ graph_lines book fs
unfolding graph_lines
lines_all book fs n out start past lines =
    sym (append-nil out)
    ∙ ap (λ gs. out ++ flat_map (graph_line book) gs) (sym (drop_all fs n past)) ∙ lines

-- what follows where a text was appended
pub on_pushed : {T E : Type 0} (r : Result T E) (was now own : List ℕ)
    → now ≡ cond (is_ok r) (was ++ own) was → (P : Type 0) → (now ≡ was ++ own → P) → OnOk r P
on_pushed (Ok value) was now own told P follows = follows told
on_pushed (Err error) was now own told P follows = tt

-- a text with one line more has what the text had in front
pub line_extends : (book : Book) (fs : List GraphFormula) (n : ℕ) (start out new : List ℕ)
    → n < length fs → AddsBehind start out
    → ((f : GraphFormula) → slice_get fs n ≡ Some f → new ≡ out ++ graph_line book f)
    → AddsBehind start new
line_extends book fs n start out new within before pushed =
    let found = formula_at fs n within in
    Extends-trans start out new before
    (Extends-push out new (graph_line book found.0) (pushed found.0 found.1))

-- ---- formulas by their numbers

pub one_own : (fs : List GraphFormula) (n : ℕ) (f : GraphFormula) → slice_get fs n ≡ Some f
    → one_of fs n ≡ f ∷ []
one_own [] n f at = absurd (cc)
one_own (g ∷ gs) zero f at = let e : g ≡ f = cc in ap (λ h. h ∷ []) e
one_own (g ∷ gs) (suc n) f at = one_own gs n f at

pub one_none : (fs : List GraphFormula) (n : ℕ) → length fs ≤ n → one_of fs n ≡ []
one_none [] n past = refl
one_none (g ∷ gs) zero past = absurd (omega arith)
one_none (g ∷ gs) (suc n) past = one_none gs n (omega arith)

-- the cell of a formula that there is
pub numbered_own : (book : Book) (fs : List GraphFormula) (n : ℕ) (cell : Standing)
    → n < length fs → ((f : GraphFormula) → slice_get fs n ≡ Some f → cell ≡ f.cell)
    → cell_text book cell ≡ cell_numbered book fs n
numbered_own book fs n cell within is =
    let found = formula_at fs n within in
    ap (cell_text book) (is found.0 found.1) ∙ sym (append-nil (cell_text book found.0.cell))
    ∙ ap (flat_map (λ (f : GraphFormula). cell_text book f.cell))
    (sym (one_own fs n found.0 found.1))

-- and none behind the last
pub numbered_none : (book : Book) (fs : List GraphFormula) (n : ℕ) (out : List ℕ)
    → length fs ≤ n → out ≡ out ++ cell_numbered book fs n
numbered_none book fs n out past =
    sym (append-nil out)
    ∙ ap (λ gs. out ++ flat_map (λ (f : GraphFormula). cell_text book f.cell) gs)
    (sym (one_none fs n past))
