-- The lines of an order, formula by formula.
use Rattle.std.proofs.Common.{◌≡◌, ◌∙◌, ℕ, ◌+◌, ◌<◌, ◌≤◌, ◌||◌, Bool, true, false, List, [], ◌∷◌}
use Rattle.std.proofs.Common.{◌++◌, ap, append_assoc, append-nil, cond, filter, flat_map, get_or}
use Rattle.std.proofs.Common.{length, map, not, refl, sym}
use Rattle.std.specs.Prelude.{Some}
use Rattle.std.specs.List.{list_any, slice_get}
use Rattle.std.proofs.Math.Bool.{or-false}
use Rattle.std.proofs.lemmas.Grind.{flat_map-append}
use Rattle.std.proofs.lemmas.List.{length-map}
use Rattle.std.proofs.lemmas.List.Elements.{filter-append}
use Rattle.book_names.specs.Book.{Book}
use Rattle.calculation_order.proofs.InRounds.{filter_same}
use Rattle.calculation_order.proofs.Members.{of_below}
use Rattle.calculation_order.specs.Edges.{is_number_of, numbers_below}
use Rattle.xlsx_graph.proofs.Asking.{formula_at}
use Rattle.xlsx_graph.proofs.LineTexts.{one_none, one_own}
use Rattle.xlsx_graph.proofs.Numbers.{one_more}
use Rattle.xlsx_graph.specs.Graph.{GraphFormula, needed, numbers_needed}
use Rattle.xlsx_graph.specs.GraphLines.{is_open, left_line, left_mark, may_name, order_line}
use Rattle.xlsx_graph.specs.GraphLines.{order_lines_by}
use Rattle.xlsx_graph.specs.Told.{open_told}
use Rattle.xlsx_graph.specs.declared.named.OpenWord.{OpenWord}

-- ---- marks of formulas

any_told : (words : List OpenWord)
    → list_any may_name (map open_told words) ≡ list_any (λ word. may_name (open_told word)) words
any_told [] = refl
any_told (w ∷ ws) = ap (λ t. may_name (open_told w) || t) (any_told ws)

-- a formula that there is may name more cells where one of its words may
pub open_own : (fs : List GraphFormula) (n : ℕ) (words : List OpenWord) → n < length fs
    → ((f : GraphFormula) → slice_get fs n ≡ Some f → map open_told words ≡ f.found.words)
    → list_any (λ word. may_name (open_told word)) words ≡ is_open fs n
open_own fs n words within are =
    let found = formula_at fs n within in
    let f = found.0 in
    sym (any_told words) ∙ ap (list_any may_name) (are f found.1)
    ∙ sym (or-false (list_any may_name f.found.words))
    ∙ ap (list_any (λ (g : GraphFormula). list_any may_name g.found.words))
    (sym (one_own fs n f found.1))

-- and none behind the last
pub open_none : (fs : List GraphFormula) (n : ℕ) → length fs ≤ n → false ≡ is_open fs n
open_none fs n past =
    ap (list_any (λ (g : GraphFormula). list_any may_name g.found.words)) (sym (one_none fs n past))

-- ---- lines

-- the lines of chosen formulas, and what stands for one more
lines_more : (line : ℕ → List ℕ) (p : ℕ → Bool) (n : ℕ)
    → flat_map line (filter p (numbers_below (n + 1)))
    ≡ flat_map line (filter p (numbers_below n)) ++ flat_map line (filter p (n ∷ []))
lines_more line p n =
    ap (λ ns. flat_map line (filter p ns)) (one_more n)
    ∙ ap (flat_map line) (filter-append p (numbers_below n) (n ∷ []))
    ∙ flat_map-append line (filter p (numbers_below n)) (filter p (n ∷ []))

-- what stands for a formula that is chosen or not
chosen : (line : ℕ → List ℕ) (passed : Bool) (n : ℕ)
    → cond passed [] (line n) ≡ flat_map line (cond (not passed) (n ∷ []) [])
chosen line true n = refl
chosen line false n = sym (append-nil (line n))

-- the line of a formula that has no place in the order
pub left_own : (book : Book) (fs : List GraphFormula) (marks : List Bool) (n : ℕ)
    (mark out new : List ℕ) → get_or marks n false ≡ false → mark ≡ left_mark (needed fs) n
    → new ≡ out ++ order_line book fs mark n
    → new ≡ out ++ cond (get_or marks n false) [] (left_line book fs (needed fs) n)
left_own book fs marks n mark out new is told pushed =
    pushed ∙ ap (λ m. out ++ order_line book fs m n) told
    ∙ ap (λ t. out ++ cond t [] (left_line book fs (needed fs) n)) (sym is)

-- one formula more
pub left_more : (line : ℕ → List ℕ) (marks : List Bool) (n : ℕ) (start out new : List ℕ)
    → out ≡ start
    ++ flat_map line (filter (λ m. not (get_or marks m false)) (numbers_below n))
    → new ≡ out ++ cond (get_or marks n false) [] (line n)
    → new ≡ start
    ++ flat_map line (filter (λ m. not (get_or marks m false)) (numbers_below (n + 1)))
left_more line marks n start out new before pushed =
    let is_left : ℕ → Bool = λ m. not (get_or marks m false) in
    let lines = flat_map line (filter is_left (numbers_below n)) in
    pushed ∙ ap (λ s. s ++ cond (get_or marks n false) [] (line n)) before
    ∙ append_assoc start lines (cond (get_or marks n false) [] (line n))
    ∙ ap (λ s. start ++ (lines ++ s)) (chosen line (get_or marks n false) n)
    ∙ ap (λ s. start ++ s) (sym (lines_more line is_left n))

-- as many formulas have needs as there are
count_needed : (fs : List GraphFormula) → length (needed fs) ≡ length fs
unfolding needed
count_needed fs = length-map fs (numbers_needed 0 fs)

-- the lines of an order, and those of the formulas that aren't marked
pub lines_by : (book : Book) (fs : List GraphFormula) (order : List ℕ) (marks : List Bool)
    (start middle new : List ℕ)
    → ((n : ℕ) → n < length fs → get_or marks n false ≡ is_number_of order n)
    → middle ≡ start ++ flat_map (order_line book fs []) order
    → new ≡ middle ++ flat_map (left_line book fs (needed fs))
    (filter (λ n. not (get_or marks n false)) (numbers_below (length fs)))
    → new ≡ start ++ order_lines_by book fs (needed fs) order
lines_by book fs order marks start middle new marked first second =
    let ordered = flat_map (order_line book fs []) order in
    let left = left_line book fs (needed fs) in
    let others : filter (λ n. not (get_or marks n false)) (numbers_below (length fs))
    ≡ filter (λ n. not (is_number_of order n)) (numbers_below (length (needed fs))) =
    filter_same (λ n. not (get_or marks n false)) (λ n. not (is_number_of order n))
    (numbers_below (length fs)) (λ n is. ap not (marked n (of_below (length fs) n is)))
    ∙ ap (λ k. filter (λ n. not (is_number_of order n)) (numbers_below k))
    (sym (count_needed fs)) in
    second ∙ ap (λ ns. middle ++ flat_map left ns) others
    ∙ ap (λ s. s ++ flat_map left
    (filter (λ n. not (is_number_of order n)) (numbers_below (length (needed fs))))) first
    ∙ append_assoc start ordered _
