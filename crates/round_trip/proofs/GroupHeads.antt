-- The heads of formulas: where they stand, and that a head's text, moved, is the formula.
use Rattle.std.proofs.Common.{◌≡◌, ℕ, zero, suc, ◌<◌, ◌≤◌, ◌⊎◌, inl, inr, Bool, true, false, cond}
use Rattle.std.proofs.Common.{◌&&◌, List, [], ◌∷◌, map, Some, None, Option, refl, ap, ◌∙◌, arith}
use Rattle.std.proofs.Common.{subst}
use Rattle.std.specs.Prelude.{nat_le, nat_lt}
use Rattle.std.specs.FinMap.{find}
use Rattle.std.specs.FinMap.Entries.{below_all}
use Rattle.std.specs.List.{filter, list_all}
use Rattle.std.specs.Ordering.{nat_cmp, ordering_then, is_lt, eq_by_cmp}
use Rattle.std.specs.declared.cmp.Ordering.{Ordering}
use Rattle.std.specs.declared.cmp.Ordering.TheVariants.{Less, Equal, Greater}
use Rattle.std.proofs.lemmas.Bool.Decides.{nat_tests}
use Rattle.std.proofs.lemmas.Slice.Eq.{bytes_eq-Decides}
use Rattle.cell_refs.specs.Words.{position_cmp, is_rising}
use Rattle.cell_refs.proofs.PositionOrder.{tied_same, and_both, less_from}
use Rattle.formula_shift.specs.Words.{moved, offset_between}
use Rattle.xlsx_writer.specs.Words.{PlacedFormulas, formula_held, is_moved_from, is_placed}
use Rattle.xlsx_writer.specs.Words.{head_row, group_head, is_same_position, last_group_row}
use Rattle.xlsx_writer.specs.Words.{group_end, is_master}

-- ---- a head and its formula

-- where a formula's head is another: the head's text, and that the formula is this text, moved
pub record IsMovedFrom (formulas : PlacedFormulas) (head position : ℕ × ℕ) (formula : List ℕ)
    : Type 0
  where
    pub text : List ℕ
    pub placed : formula_held formulas head ≡ Some text
    pub moves : formula ≡ moved text (offset_between head position)

moved_from : (formulas : PlacedFormulas) (head position : ℕ × ℕ) (formula : List ℕ)
    (o : Option (List ℕ)) → formula_held formulas head ≡ o →
    is_moved_from o head (Some formula) position ≡ true → IsMovedFrom formulas head position formula
moved_from formulas head position formula None is tells = absurd (cc)
moved_from formulas head position formula (Some text) is tells = record {
  text = text;
  placed = is;
  moves = (bytes_eq-Decides formula (moved text (offset_between head position))).0 tells;
}

module _ (formulas : PlacedFormulas) (column : ℕ) where
  -- the group of a row's formula goes on in the next row
  abbrev goes_on : ℕ → Bool
  goes_on row =
      is_placed (formula_held formulas (row, column))
      && is_moved_from (formula_held formulas (head_row formulas column row, column))
      (head_row formulas column row, column)
      (formula_held formulas (suc row, column)) (suc row, column)

  pub head_above : (row : ℕ) → head_row formulas column row ≤ row
  head_above zero = omega arith
  head_above (suc row) = by (goes_on row) (head_above row) where
    by : (t : Bool) → head_row formulas column row ≤ row →
        cond t (head_row formulas column row) (suc row) ≤ suc row
    by true above = omega arith
    by false above = omega arith

  -- the head of a head is itself
  pub head_of_head : (row : ℕ) →
      head_row formulas column (head_row formulas column row) ≡ head_row formulas column row
  head_of_head zero = refl
  head_of_head (suc row) = by (goes_on row) refl (head_of_head row) where
    by : (t : Bool) → goes_on row ≡ t →
        head_row formulas column (head_row formulas column row) ≡ head_row formulas column row →
        head_row formulas column (cond t (head_row formulas column row) (suc row))
        ≡ cond t (head_row formulas column row) (suc row)
    by true is further = further
    by false is further =
        ap (λ (t : Bool). cond t (head_row formulas column row) (suc row)) is

  -- a formula is its own head, or its head's text, moved
  pub head_moves : (row : ℕ) (formula : List ℕ) →
      formula_held formulas (row, column) ≡ Some formula →
      (head_row formulas column row ≡ row)
      ⊎ IsMovedFrom formulas (head_row formulas column row, column) (row, column) formula
  head_moves zero formula placed = inl refl
  head_moves (suc row) formula placed = by (goes_on row) refl where
    by : (t : Bool) → goes_on row ≡ t →
        (cond t (head_row formulas column row) (suc row) ≡ suc row)
        ⊎ IsMovedFrom formulas (cond t (head_row formulas column row) (suc row), column)
        (suc row, column) formula
    by false is = inl refl
    by true is =
        let tells = (and_both (is_placed (formula_held formulas (row, column))) _ is).1 in
        inr (moved_from formulas (head_row formulas column row, column) (suc row, column) formula
        (formula_held formulas (head_row formulas column row, column)) refl
        (subst (λ (o : Option (List ℕ)). is_moved_from
        (formula_held formulas (head_row formulas column row, column))
        (head_row formulas column row, column) o (suc row, column) ≡ true) placed tells))

-- ---- the last row of a group

-- no formula stands above this row
abbrev start_from : ℕ → PlacedFormulas → Bool
start_from row entries = list_all (λ entry. nat_le row entry.0.0) entries

less_row : (p q : ℕ × ℕ) → is_lt (position_cmp p q) ≡ true → p.0 ≤ q.0
less_row p q less = by (nat_cmp p.0 q.0) refl (less_from _ less) where
  by : (o : Ordering) → nat_cmp p.0 q.0 ≡ o → ordering_then o (nat_cmp p.1 q.1) ≡ Less →
      p.0 ≤ q.0
  by Less is less = grind (arith, nat_tests)
  by Equal is less = grind (arith, nat_tests)
  by Greater is less = absurd (cc)

rows_below : (p : ℕ × ℕ) (entries : PlacedFormulas) → below_all position_cmp p entries ≡ true →
    start_from p.0 entries ≡ true
rows_below p [] below = refl
rows_below p (entry ∷ entries) below =
    let (first, rest) =
    and_both (is_lt (position_cmp p entry.0)) (below_all position_cmp p entries) below in
    let row = less_row p entry.0 first in
    let others = rows_below p entries rest in
    by (nat_le p.0 entry.0.0) refl row others where
      by : (t : Bool) → nat_le p.0 entry.0.0 ≡ t → p.0 ≤ entry.0.0 →
          start_from p.0 entries ≡ true → (t && start_from p.0 entries) ≡ true
      by true is row others = others
      by false is row others = absurd (grind (arith, nat_tests))

-- the rows of the formulas of a head among these
abbrev pub rows_among : PlacedFormulas → ℕ × ℕ → PlacedFormulas → List ℕ
rows_among formulas head entries =
    map (λ entry. entry.0.0)
    (filter (λ entry. is_same_position (group_head formulas entry.0) head) entries)

module _ (formulas : PlacedFormulas) (head : ℕ × ℕ) where
  last_from : (start : ℕ) (entries : PlacedFormulas) → is_rising entries ≡ true →
      start_from start entries ≡ true → start ≤ last_group_row start (rows_among formulas head
      entries)
  last_from start [] rising from = omega arith
  last_from start (entry ∷ entries) rising from =
      let (below, rise) =
      and_both (below_all position_cmp entry.0 entries) (is_rising entries) rising in
      let (first, rest) =
      and_both (nat_le start entry.0.0) (start_from start entries) from in
      by (is_same_position (group_head formulas entry.0) head) first
      (last_from entry.0.0 entries rise (rows_below entry.0 entries below))
      (last_from start entries rise rest) where
        by : (t : Bool) → nat_le start entry.0.0 ≡ true →
            entry.0.0 ≤ last_group_row entry.0.0 (rows_among formulas head entries) →
            start ≤ last_group_row start (rows_among formulas head entries) →
            start ≤ last_group_row start (map (λ e. e.0.0) (cond t (entry ∷ filter
            (λ e. is_same_position (group_head formulas e.0) head) entries)
            (filter (λ e. is_same_position (group_head formulas e.0) head) entries)))
        by true first here further = grind (arith, nat_tests)
        by false first here further = further

  last_behind : (start : ℕ) (entries : PlacedFormulas) (position : ℕ × ℕ) (formula : List ℕ) →
      is_rising entries ≡ true → find position_cmp position entries ≡ Some formula →
      is_same_position (group_head formulas position) head ≡ true →
      position.0 ≤ last_group_row start (rows_among formulas head entries)
  last_behind start [] position formula rising found same = absurd (cc)
  last_behind start (entry ∷ entries) position formula rising found same =
      let (below, rise) =
      and_both (below_all position_cmp entry.0 entries) (is_rising entries) rising in
      at (eq_by_cmp position_cmp position entry.0) refl found
      (is_same_position (group_head formulas entry.0) head) refl
      (last_from entry.0.0 entries rise (rows_below entry.0 entries below))
      (λ (row : ℕ) (behind : find position_cmp position entries ≡ Some formula).
      last_behind row entries position formula rise behind same) where
        at : (t : Bool) → eq_by_cmp position_cmp position entry.0 ≡ t →
            cond t (Some entry.1) (find position_cmp position entries) ≡ Some formula →
            (u : Bool) → is_same_position (group_head formulas entry.0) head ≡ u →
            entry.0.0 ≤ last_group_row entry.0.0 (rows_among formulas head entries) →
            ((row : ℕ) → find position_cmp position entries ≡ Some formula →
            position.0 ≤ last_group_row row (rows_among formulas head entries)) →
            position.0 ≤ last_group_row start (map (λ e. e.0.0) (cond u (entry ∷ filter
            (λ e. is_same_position (group_head formulas e.0) head) entries)
            (filter (λ e. is_same_position (group_head formulas e.0) head) entries)))
        at true ties found true is here further =
            let place = tied_same position entry.0 ties in
            omega (arith, ap (λ (p : ℕ × ℕ). p.0) place)
        at true ties found false is here further =
            let place = tied_same position entry.0 ties in
            let e = ap (λ (p : ℕ × ℕ). is_same_position (group_head formulas p) head) place in
            absurd (cc)
        at false ties found true is here further =
            further entry.0.0 found
        at false ties found false is here further =
            further start found

-- a head that has another formula is a master
pub head_is_master : (formulas : PlacedFormulas) (position : ℕ × ℕ) (formula : List ℕ) →
    is_rising formulas ≡ true → formula_held formulas position ≡ Some formula →
    head_row formulas position.1 position.0 < position.0 →
    is_master formulas (group_head formulas position) ≡ true
head_is_master formulas position formula rising placed above =
    let head = group_head formulas position in
    let own = head_of_head formulas position.1 position.0 in
    let last = last_behind formulas head head.0 formulas position formula rising placed
    (same_itself head) in
    both (same_from (group_head formulas head) head own refl)
    (less_is head.0 (group_end formulas head) (omega arith)) where
      same_from : (p q : ℕ × ℕ) → p.0 ≡ q.0 → p.1 ≡ q.1 → is_same_position p q ≡ true
      same_from p q rows columns = grind (arith, nat_tests)

      same_itself : (p : ℕ × ℕ) → is_same_position p p ≡ true
      same_itself p = same_from p p refl refl

      less_is : (a b : ℕ) → a < b → nat_lt a b ≡ true
      less_is a b less = grind (arith, nat_tests)

      both : {a b : Bool} → a ≡ true → b ≡ true → (a && b) ≡ true
      both {a} {b} one two = ap (λ (t : Bool). t && b) one ∙ two
