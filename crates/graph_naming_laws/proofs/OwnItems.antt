-- What items say on the formula's own sheet is what its Words name there, and the items of a moved
-- formula are the moved items.
use Rattle.std.proofs.Common.{◌≡◌, ◌∙◌, ◌≤◌, ◌||◌, ℕ, zero, suc, true, false, List, [], ◌∷◌, ◌++◌}
use Rattle.std.proofs.Common.{map, not, ◌&&◌, length, Option, None, refl, sym, ap, arith}
use Rattle.std.specs.Prelude.{ℤ}
use Rattle.std.specs.List.{flat_map, list_any}
use Rattle.formula_shift.specs.Words.{is_elsewhere, moved}
use Rattle.formula_tokens.specs.Tokens.{tokens}
use Rattle.formula_tokens.specs.Items.{first_item, items_behind, formula_items}
use Rattle.formula_tokens.proofs.Cutting.{tokens-nil, items_behind-nil, items_behind-cons}
use Rattle.graph_naming_laws.specs.MovedItems.{moved_item, are_hashes_apart}
use Rattle.graph_naming_laws.specs.OwnSheet.{own_areas, are_errors_apart, are_marks_placed}
use Rattle.graph_naming_laws.proofs.MovedWords.{marks_behind}
use Rattle.graph_naming_laws.proofs.Moves.{moved_none}
use Rattle.graph_naming_laws.proofs.Passing.{word_area, areas_in, AreAlike}
use Rattle.graph_naming_laws.proofs.ReadItems.{MovesItem}
use Rattle.graph_naming_laws.proofs.Standing.{words_none}
use Rattle.graph_naming_laws.proofs.TokenItems.{FirstItem, item_read, left_ends, left_hashes}
use Rattle.graph_naming_laws.proofs.TokenItems.{behind_marks, left_marks}
use Rattle.graph_naming_laws.proofs.WordItems.{is_colon}

-- ---- the areas of the formula's own sheet

-- an item more
item_more : (before : Option ℕ) (text : List ℕ) (first : FirstItem before text) →
    own_areas (items_behind 0 (tokens first.read.left))
    ≡ areas_in first.read.after first.read.left →
    own_areas (items_behind 0 (tokens text)) ≡ areas_in before text
item_more before text first rest =
    ap (λ ts. own_areas (items_behind 0 ts)) first.tokens_are
    ∙ ap own_areas (items_behind-cons first.token first.behind)
    ∙ (λ i. first.read.said i ++ own_areas (items_behind 0 (first.read.left_is i)))
    ∙ ap (λ areas. first.read.areas ++ areas) rest ∙ sym first.read.passes.sums

items_own : (turns : ℕ) (before : Option ℕ) (text : List ℕ) → length text ≤ turns →
    is_elsewhere before ≡ false → AreAlike before text →
    are_errors_apart (tokens text) ≡ true → are_marks_placed 0 (tokens text) ≡ true →
    own_areas (items_behind 0 (tokens text)) ≡ areas_in before text
items_own turns before [] short own alike ends marks =
    ap (λ ts. own_areas (items_behind 0 ts)) tokens-nil ∙ ap own_areas items_behind-nil
    ∙ sym (ap (λ ws. flat_map word_area ws) (words_none before))
items_own zero before (b ∷ bs) short own alike ends marks = absurd (omega arith)
items_own (suc turns) before (b ∷ bs) short own alike ends marks =
    let first = item_read before b bs own alike ends marks in
    item_more before (b ∷ bs) first
    (items_own turns first.read.after first.read.left (omega (arith, short, first.read.shorter))
    first.read.own (first.read.passes.alike alike) (left_ends before (b ∷ bs) first ends)
    (left_marks before (b ∷ bs) first marks))

-- the areas that items say are those that the Words name
pub said_are_named : (text : List ℕ) → AreAlike None text →
    are_errors_apart (tokens text) ≡ true → are_marks_placed 0 (tokens text) ≡ true →
    own_areas (formula_items text) ≡ areas_in None text
unfolding formula_items
said_are_named text alike ends marks =
    items_own (length text) None text (omega arith) refl alike ends marks

-- ---- the moved formula

-- an item more
moved_more : (offset : ℤ × ℤ) (before : Option ℕ) (text : List ℕ) (first : FirstItem before text) →
    MovesItem offset text first.read.left (first_item first.token first.behind).item →
    items_behind 0 (tokens (moved first.read.left offset))
    ≡ map (moved_item offset) (items_behind 0 (tokens first.read.left)) →
    items_behind 0 (tokens (moved text offset))
    ≡ map (moved_item offset) (items_behind 0 (tokens text))
moved_more offset before text first goes rest =
    ap (items_behind 0) goes.tokens_are
    ∙ items_behind-cons goes.token goes.behind
    ∙ (λ i. goes.item_is i ∷ items_behind 0 (goes.left_is i))
    ∙ ap (λ is. moved_item offset (first_item first.token first.behind).item ∷ is) rest
    ∙ sym (ap (map (moved_item offset)) (ap (items_behind 0) first.tokens_are
    ∙ items_behind-cons first.token first.behind
    ∙ ap (λ ts. (first_item first.token first.behind).item ∷ items_behind 0 ts)
    first.read.left_is))

items_moved : (offset : ℤ × ℤ) (turns : ℕ) (before : Option ℕ) (text : List ℕ) →
    length text ≤ turns → is_elsewhere before ≡ false → AreAlike before text →
    are_errors_apart (tokens text) ≡ true → are_marks_placed 0 (tokens text) ≡ true →
    are_hashes_apart (tokens text) ≡ true →
    items_behind 0 (tokens (moved text offset))
    ≡ map (moved_item offset) (items_behind 0 (tokens text))
items_moved offset turns before [] short own alike ends marks hashes =
    ap (λ t. items_behind 0 (tokens t)) (moved_none offset)
    ∙ ap (items_behind 0) tokens-nil ∙ items_behind-nil
    ∙ sym (ap (map (moved_item offset)) (ap (items_behind 0) tokens-nil ∙ items_behind-nil))
items_moved offset zero before (b ∷ bs) short own alike ends marks hashes = absurd (omega arith)
items_moved offset (suc turns) before (b ∷ bs) short own alike ends marks hashes =
    let first = item_read before b bs own alike ends marks in
    moved_more offset before (b ∷ bs) first
    (first.read.moves offset hashes (behind_marks before (b ∷ bs) first marks))
    (items_moved offset turns first.read.after first.read.left
    (omega (arith, short, first.read.shorter)) first.read.own (first.read.passes.alike alike)
    (left_ends before (b ∷ bs) first ends) (left_marks before (b ∷ bs) first marks)
    (left_hashes before (b ∷ bs) first hashes))

-- the items of a moved formula are its items, moved
pub moved_items : (offset : ℤ × ℤ) (text : List ℕ) → AreAlike None text →
    are_errors_apart (tokens text) ≡ true → are_marks_placed 0 (tokens text) ≡ true →
    are_hashes_apart (tokens text) ≡ true →
    formula_items (moved text offset) ≡ map (moved_item offset) (formula_items text)
unfolding formula_items
moved_items offset text alike ends marks hashes =
    items_moved offset (length text) None text (omega arith) refl alike ends marks hashes

-- ---- colons

items_no_colon : (turns : ℕ) (before : Option ℕ) (text : List ℕ) → length text ≤ turns →
    is_elsewhere before ≡ false → AreAlike before text →
    are_errors_apart (tokens text) ≡ true → are_marks_placed 0 (tokens text) ≡ true →
    list_any is_colon (items_behind 0 (tokens text)) ≡ false
items_no_colon turns before [] short own alike ends marks =
    ap (λ ts. list_any is_colon (items_behind 0 ts)) tokens-nil
    ∙ ap (list_any is_colon) items_behind-nil
items_no_colon zero before (b ∷ bs) short own alike ends marks = absurd (omega arith)
items_no_colon (suc turns) before (b ∷ bs) short own alike ends marks =
    let first = item_read before b bs own alike ends marks in
    ap (λ ts. list_any is_colon (items_behind 0 ts)) first.tokens_are
    ∙ ap (list_any is_colon) (items_behind-cons first.token first.behind)
    ∙ (λ i. first.read.no_colon i
    || list_any is_colon (items_behind 0 (first.read.left_is i)))
    ∙ items_no_colon turns first.read.after first.read.left
    (omega (arith, short, first.read.shorter)) first.read.own (first.read.passes.alike alike)
    (left_ends before (b ∷ bs) first ends) (left_marks before (b ∷ bs) first marks)

-- no item is a colon
pub no_colons : (text : List ℕ) → AreAlike None text → are_errors_apart (tokens text) ≡ true →
    are_marks_placed 0 (tokens text) ≡ true → list_any is_colon (formula_items text) ≡ false
unfolding formula_items
no_colons text alike ends marks =
    items_no_colon (length text) None text (omega arith) refl alike ends marks

-- ---- places in the moved formula

marks_moved : (offset : ℤ × ℤ) (turns : ℕ) (before : Option ℕ) (text : List ℕ) →
    length text ≤ turns → is_elsewhere before ≡ false → AreAlike before text →
    are_errors_apart (tokens text) ≡ true → are_marks_placed 0 (tokens text) ≡ true →
    are_hashes_apart (tokens text) ≡ true →
    are_marks_placed 0 (tokens (moved text offset)) ≡ true
marks_moved offset turns before [] short own alike ends marks hashes =
    ap (λ t. are_marks_placed 0 (tokens t)) (moved_none offset)
    ∙ ap (are_marks_placed 0) tokens-nil
marks_moved offset zero before (b ∷ bs) short own alike ends marks hashes = absurd (omega arith)
marks_moved offset (suc turns) before (b ∷ bs) short own alike ends marks hashes =
    let first = item_read before b bs own alike ends marks in
    let goes = first.read.moves offset hashes (behind_marks before (b ∷ bs) first marks) in
    let rest = marks_moved offset turns first.read.after first.read.left
    (omega (arith, short, first.read.shorter)) first.read.own (first.read.passes.alike alike)
    (left_ends before (b ∷ bs) first ends) (left_marks before (b ∷ bs) first marks)
    (left_hashes before (b ∷ bs) first hashes) in
    ap (are_marks_placed 0) goes.tokens_are
    ∙ (λ i. not (goes.no_mark i)
    && marks_behind (first_item goes.token goes.behind).size goes.behind i)
    ∙ ap (are_marks_placed 0) goes.left_is ∙ rest

-- each `!` of the moved formula has its place before it
pub moved_marks : (offset : ℤ × ℤ) (text : List ℕ) → AreAlike None text →
    are_errors_apart (tokens text) ≡ true → are_marks_placed 0 (tokens text) ≡ true →
    are_hashes_apart (tokens text) ≡ true →
    are_marks_placed 0 (tokens (moved text offset)) ≡ true
moved_marks offset text alike ends marks hashes =
    marks_moved offset (length text) None text (omega arith) refl alike ends marks hashes
