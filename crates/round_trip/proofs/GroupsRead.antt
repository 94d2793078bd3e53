-- Formulas that are written in groups read back: along the positions a derived formula finds the
-- master of its group, and is its text, moved.
use Rattle.std.proofs.Common.{◌≡◌, ℕ, ◌<◌, ◌≤◌, ◌⊎◌, inl, inr, Bool, true, false, cond, ◌&&◌, ◌||◌}
use Rattle.std.proofs.Common.{List, [], ◌∷◌, length, Some, None, Option, refl, sym, ap, ◌∙◌, arith}
use Rattle.std.specs.Prelude.{◌==◌, not}
use Rattle.std.specs.List.{list_all, list_any}
use Rattle.std.specs.FinMap.{find}
use Rattle.std.specs.Cmp.{eq_by_cmp_equiv}
use Rattle.std.specs.Ordering.{is_lt, is_eq, eq_by_cmp, nat_cmp, ordering_then}
use Rattle.std.specs.declared.cmp.Ordering.{Ordering}
use Rattle.std.specs.declared.cmp.Ordering.TheVariants.{Less, Equal, Greater}
use Rattle.std.proofs.lemmas.Bool.Decides.{nat_tests}
use Rattle.cell_refs.specs.Words.{position_cmp, is_rising}
use Rattle.cell_refs.proofs.PositionOrder.{position_total, tied_same, and_both, less_from}
use Rattle.cell_refs.proofs.PositionOrder.{positions_rise}
use Rattle.xlsx_cells.specs.Words.{formulas_along, used_formulas, is_empty}
use Rattle.xlsx_formulas.specs.Words.{FormulaText, GroupFormula, master_of, or_further, formula_of}
use Rattle.xlsx_formulas.specs.Words.{moved_to, cell_formula, behind_formulas}
use Rattle.xlsx_writer.specs.Words.{PlacedFormulas, formula_held, is_placed, is_same_position}
use Rattle.xlsx_writer.specs.Words.{is_master, head_row, group_head, group_end, group_index}
use Rattle.xlsx_writer.specs.Words.{grouped_formula, plain, written_formula, master, derived}
use Rattle.xlsx_writer.specs.Words.{are_writable_formulas}
use Rattle.xlsx_writer.specs.declared.form.WrittenForm.{WrittenForm}
use Rattle.xlsx_writer.specs.declared.form.WrittenForm.TheVariants.{PackageText, WorkbookFile}
use Rattle.round_trip.specs.ReadFormulas.{written_formula_read, formulas_read, formulas_read_by}
use Rattle.round_trip.specs.ReadFormulas.{formulas_read_along, is_derived}
use Rattle.round_trip.proofs.GroupHeads.{IsMovedFrom, head_above, head_moves, head_is_master}
use Rattle.round_trip.proofs.GroupIndices.{indices_differ}
use Rattle.round_trip.proofs.PlacedAmong.{is_among, placed_among, entry_before, have_all}
use Rattle.round_trip.proofs.PlacedAmong.{all_placed}

-- the formula of a group as its master says it
abbrev kept_master : ℕ × ℕ → List ℕ → GroupFormula
kept_master position text = record { text = text; corner = position }

strictly : (a b c : ℕ) → a ≤ b → ((a == b) && (c == c)) ≡ false → a < b
strictly a b c above other = grind (arith, nat_tests)

lower_in_row : (a b c : ℕ) → a < b → position_cmp (a, c) (b, c) ≡ Less
lower_in_row a b c lower = by (nat_cmp a b) refl where
  by : (o : Ordering) → nat_cmp a b ≡ o → ordering_then o (nat_cmp c c) ≡ Less
  by Less is = refl
  by Equal is = absurd (grind (arith, nat_tests))
  by Greater is = absurd (grind (arith, nat_tests))

-- a position above those that rise from another isn't among them
above_others : (a p : ℕ × ℕ) (positions : List (ℕ × ℕ)) → position_cmp a p ≡ Less →
    list_all (λ q. is_lt (position_cmp p q)) positions ≡ true → is_among a positions ≡ false
above_others a p [] lower below = refl
above_others a p (q ∷ qs) lower below =
    let (first, rest) = and_both (is_lt (position_cmp p q))
    (list_all (λ r. is_lt (position_cmp p r)) qs) below in
    let less = position_total.trans a p q lower (less_from _ first) in
    ap (λ (o : Ordering). is_eq o || is_among a qs) less ∙ above_others a p qs lower rest

above_all : (a p : ℕ × ℕ) (positions : List (ℕ × ℕ)) → position_cmp a p ≡ Less →
    positions_rise (p ∷ positions) ≡ true → is_among a (p ∷ positions) ≡ false
above_all a p positions lower rise =
    let (below, rest) = and_both (list_all (λ q. is_lt (position_cmp p q)) positions)
    (positions_rise positions) rise in
    ap (λ (o : Ordering). is_eq o || is_among a positions) lower
    ∙ above_others a p positions lower below

same_texts : {A : Type 0} (a b : A) (o : Option A) → o ≡ Some a → o ≡ Some b → a ≡ b
same_texts a b o one two = cc

module _ (formulas : PlacedFormulas) where
  -- each master that isn't among the positions ahead was passed, and is the one of its index
  abbrev ArePassed : List FormulaText → List (ℕ × ℕ) → Type 0
  ArePassed earlier positions =
      (head : ℕ × ℕ) (text : List ℕ) → formula_held formulas head ≡ Some text →
      is_master formulas head ≡ true → is_among head positions ≡ false →
      master_of (group_index formulas head) earlier ≡ Some (kept_master head text)

  -- ---- what is found

  -- where a formula isn't its own head, its group's formula, moved, is the formula
  derived_is : (earlier : List FormulaText) (position : ℕ × ℕ) (positions : List (ℕ × ℕ))
      (formula : List ℕ) → is_rising formulas ≡ true →
      positions_rise (position ∷ positions) ≡ true →
      formula_held formulas position ≡ Some formula →
      ArePassed earlier (position ∷ positions) →
      is_same_position (group_head formulas position) position ≡ false →
      moved_to position
      (master_of (group_index formulas (group_head formulas position)) earlier) ≡ formula
  derived_is earlier position positions formula rising rise placed passed other =
      by (head_moves formulas position.1 position.0 formula placed) where
        by : (head_row formulas position.1 position.0 ≡ position.0)
            ⊎ IsMovedFrom formulas (group_head formulas position) position formula →
            moved_to position
            (master_of (group_index formulas (group_head formulas position)) earlier) ≡ formula
        by (inl same) = absurd (grind (arith, nat_tests))
        by (inr moves) =
            let above : head_row formulas position.1 position.0 < position.0 =
            strictly (head_row formulas position.1 position.0) position.0 position.1
            (head_above formulas position.1 position.0) other in
            let lower = lower_in_row (head_row formulas position.1 position.0) position.0 position.1
            above in
            ap (moved_to position)
            (passed (group_head formulas position) moves.text moves.placed
            (head_is_master formulas position formula rising placed above)
            (above_all (group_head formulas position) position positions lower rise))
            ∙ sym moves.moves

  -- the formula that is found of one that is written
  found_is : (earlier : List FormulaText) (position : ℕ × ℕ) (positions : List (ℕ × ℕ))
      (formula : List ℕ) → is_rising formulas ≡ true →
      positions_rise (position ∷ positions) ≡ true →
      formula_held formulas position ≡ Some formula →
      ArePassed earlier (position ∷ positions) →
      formula_of earlier position
      (written_formula_read position (grouped_formula formulas position formula)) ≡ formula
  found_is earlier position positions formula rising rise placed passed =
      by (is_same_position (group_head formulas position) position) refl (is_master formulas
      position) where
        by : (t : Bool) → is_same_position (group_head formulas position) position ≡ t
            → (u : Bool) →
            formula_of earlier position (written_formula_read position (cond t (cond u
            (master formula (group_end formulas position) (group_index formulas position))
            (plain formula))
            (derived (group_index formulas (group_head formulas position))))) ≡ formula
        by true same true = refl
        by true same false = refl
        by false other u =
            derived_is earlier position positions formula rising rise placed passed other

  -- ---- what is passed

  -- behind a master its index finds it
  master_found : (earlier : List FormulaText) (position : ℕ × ℕ) (formula : List ℕ) →
      is_master formulas position ≡ true →
      master_of (group_index formulas position)
      (written_formula_read position (grouped_formula formulas position formula) ∷ earlier)
      ≡ Some (kept_master position formula)
  master_found earlier position formula own =
      by (is_same_position (group_head formulas position) position)
      (and_both (is_same_position (group_head formulas position) position) _ own).0
      (is_master formulas position) own where
        itself : (n : ℕ) → (n == n) ≡ true
        itself n = grind (arith, nat_tests)

        by : (t : Bool) → t ≡ true → (u : Bool) → u ≡ true →
            master_of (group_index formulas position)
            (written_formula_read position (cond t (cond u
            (master formula (group_end formulas position) (group_index formulas position))
            (plain formula))
            (derived (group_index formulas (group_head formulas position)))) ∷ earlier)
            ≡ Some (kept_master position formula)
        by true same true own =
            ap (λ (t : Bool). or_further (cond t (Some (kept_master position formula)) None)
            (master_of (group_index formulas position) earlier))
            (itself (group_index formulas position))
        by true same false own = absurd (cc)
        by false same u own = absurd (cc)

  -- and another index what it found before
  other_found : (earlier : List FormulaText) (position head : ℕ × ℕ) (formula text : List ℕ) →
      formula_held formulas position ≡ Some formula → formula_held formulas head ≡ Some text →
      is_master formulas head ≡ true → eq_by_cmp position_cmp head position ≡ false →
      master_of (group_index formulas head)
      (written_formula_read position (grouped_formula formulas position formula) ∷ earlier)
      ≡ master_of (group_index formulas head) earlier
  other_found earlier position head formula text placed first own apart =
      by (is_same_position (group_head formulas position) position) (is_master formulas position)
      refl where
        differ : (t : Bool) → (group_index formulas position == group_index formulas head) ≡ t →
            is_master formulas position ≡ true →
            or_further (cond t (Some (kept_master position formula)) None)
            (master_of (group_index formulas head) earlier)
            ≡ master_of (group_index formulas head) earlier
        differ false is other = refl
        differ true is other =
            let same : group_index formulas head ≡ group_index formulas position =
            grind (arith, nat_tests) in
            let place = indices_differ formulas head position text formula first placed own other
            same in
            absurd (let e = (eq_by_cmp_equiv position_total).refl position in
            let f = ap (λ (p : ℕ × ℕ). eq_by_cmp position_cmp p position) place in cc)

        by : (t u : Bool) → is_master formulas position ≡ u →
            master_of (group_index formulas head)
            (written_formula_read position (cond t (cond u
            (master formula (group_end formulas position) (group_index formulas position))
            (plain formula))
            (derived (group_index formulas (group_head formulas position)))) ∷ earlier)
            ≡ master_of (group_index formulas head) earlier
        by true true other =
            differ (group_index formulas position == group_index formulas head) refl other
        by true false other = refl
        by false u other = refl

  passed_further : (earlier : List FormulaText) (position : ℕ × ℕ) (positions : List (ℕ × ℕ))
      (o : Option (List ℕ)) → formula_held formulas position ≡ o →
      ArePassed earlier (position ∷ positions) →
      ArePassed (behind_formulas (formulas_read_by PackageText formulas position o) earlier)
      positions
  passed_further earlier position positions None is passed head text placed own ahead =
      passed head text placed own (by (eq_by_cmp position_cmp head position) refl) where
        by : (t : Bool) → eq_by_cmp position_cmp head position ≡ t →
            (t || is_among head positions) ≡ false
        by false apart = ahead
        by true ties =
            absurd (let e = ap (formula_held formulas) (tied_same head position ties) in cc)
  passed_further earlier position positions (Some formula) is passed head text placed own ahead =
      by (eq_by_cmp position_cmp head position) refl where
        by : (t : Bool) → eq_by_cmp position_cmp head position ≡ t →
            master_of (group_index formulas head)
            (written_formula_read position (grouped_formula formulas position formula) ∷ earlier)
            ≡ Some (kept_master head text)
        by true ties =
            let place = tied_same head position ties in
            let same = same_texts formula text (formula_held formulas position) is
            (ap (formula_held formulas) (sym place) ∙ placed) in
            ap (λ (p : ℕ × ℕ). master_of (group_index formulas p)
            (written_formula_read position (grouped_formula formulas position formula)
            ∷ earlier)) place
            ∙ (master_found earlier position formula
            (ap (is_master formulas) (sym place) ∙ own)
            ∙ (ap (λ (p : ℕ × ℕ). Some (kept_master p formula)) (sym place)
            ∙ ap (λ (w : List ℕ). Some (kept_master head w)) same))
        by false apart =
            other_found earlier position head formula text is placed own apart
            ∙ passed head text placed own
            (ap (λ (t : Bool). t || is_among head positions) apart ∙ ahead)

-- ---- along the positions

-- what is kept of the positions that were passed, so that each formula behind them is found
record Finds (form : WrittenForm) (formulas : PlacedFormulas)
    (passed : List FormulaText → List (ℕ × ℕ) → Type 0) : Type 0 where
  found : (earlier : List FormulaText) (position : ℕ × ℕ) (positions : List (ℕ × ℕ))
      (formula : List ℕ) → positions_rise (position ∷ positions) ≡ true →
      formula_held formulas position ≡ Some formula → passed earlier (position ∷ positions) →
      formula_of earlier position
      (written_formula_read position (written_formula form formulas position formula)) ≡ formula
  further : (earlier : List FormulaText) (position : ℕ × ℕ) (positions : List (ℕ × ℕ))
      (o : Option (List ℕ)) → formula_held formulas position ≡ o →
      passed earlier (position ∷ positions) →
      passed (behind_formulas (formulas_read_by form formulas position o) earlier) positions

-- those of groups are found by their masters
finds_grouped : (formulas : PlacedFormulas) → is_rising formulas ≡ true →
    Finds PackageText formulas (ArePassed formulas)
finds_grouped formulas rising = record {
  found = λ earlier position positions formula rise placed passed.
      found_is formulas earlier position positions formula rising rise placed passed;
  further = passed_further formulas;
}

-- and those that are written by themselves by their texts
finds_alone : (formulas : PlacedFormulas) →
    Finds WorkbookFile formulas (λ earlier positions. Unit {0})
finds_alone formulas = record {
  found = λ earlier position positions formula rise placed passed. refl;
  further = λ earlier position positions o is passed. tt;
}

module _ (form : WrittenForm) (formulas : PlacedFormulas)
    (passed : List FormulaText → List (ℕ × ℕ) → Type 0) (finds : Finds form formulas passed) where
  not_empty : (formula : List ℕ) (others kept : PlacedFormulas) (entry : (ℕ × ℕ) × List ℕ) →
      is_empty formula ≡ false → cond (is_empty formula) others (entry ∷ kept) ≡ entry ∷ kept
  not_empty formula others kept entry some = rw some

  read_along :
      ((q : ℕ × ℕ) (x : List ℕ) → formula_held formulas q ≡ Some x → is_empty x ≡ false) →
      (earlier : List FormulaText) (positions : List (ℕ × ℕ)) → positions_rise positions ≡ true →
      passed earlier positions →
      used_formulas (formulas_along earlier (formulas_read_along form formulas positions))
      ≡ placed_among (formula_held formulas) positions
  read_along some earlier [] rise kept = refl
  read_along some earlier (position ∷ positions) rise kept =
      by (formula_held formulas position) refl
      (λ (o : Option (List ℕ)) (is : formula_held formulas position ≡ o).
      read_along some (behind_formulas (formulas_read_by form formulas position o) earlier)
      positions (and_both (list_all (λ q. is_lt (position_cmp position q)) positions)
      (positions_rise positions) rise).1
      (finds.further earlier position positions o is kept)) where
        by : (o : Option (List ℕ)) → formula_held formulas position ≡ o →
            ((o : Option (List ℕ)) → formula_held formulas position ≡ o →
            used_formulas (formulas_along
            (behind_formulas (formulas_read_by form formulas position o) earlier)
            (formulas_read_along form formulas positions))
            ≡ placed_among (formula_held formulas) positions) →
            used_formulas
            ((
              position,
              cell_formula earlier position
                  (formulas_read_by form formulas position o),
            )
            ∷ formulas_along (behind_formulas (formulas_read_by form formulas position o) earlier)
            (formulas_read_along form formulas positions))
            ≡ entry_before position o (placed_among (formula_held formulas) positions)
        by None is further = further None is
        by (Some formula) is further =
            let found = finds.found earlier position positions formula rise is kept in
            let rest = used_formulas (formulas_along
            (behind_formulas (formulas_read_by form formulas position (Some formula)) earlier)
            (formulas_read_along form formulas positions)) in
            ap (λ (w : List ℕ). cond (is_empty w) rest ((position, w) ∷ rest)) found
            ∙ (not_empty formula rest rest (position, formula) (some position formula is)
            ∙ ap (λ (es : PlacedFormulas). (position, formula) ∷ es) (further (Some formula) is))

full : (formula : List ℕ) → not (length formula == 0) ≡ true → is_empty formula ≡ false
full [] some = absurd (cc)
full (b ∷ bs) some = refl

one : (y x : List ℕ) (o : Option (List ℕ)) (t : Bool) → cond t (Some y) o ≡ Some x →
    is_empty y ≡ false → (o ≡ Some x → is_empty x ≡ false) → is_empty x ≡ false
one y x o true found first rest =
    ap is_empty (same_texts x y (Some y) found refl) ∙ first
one y x o false found first rest = rest found

some : (entries : PlacedFormulas) (q : ℕ × ℕ) (x : List ℕ) → are_writable_formulas entries ≡ true →
    find position_cmp q entries ≡ Some x → is_empty x ≡ false
some [] q x writable found = absurd (cc)
some (entry ∷ entries) q x writable found =
    let (first, rest) = and_both (not (length entry.1 == 0))
    (are_writable_formulas entries) writable in
    one entry.1 x (find position_cmp q entries) (eq_by_cmp position_cmp q entry.0) found
    (full entry.1 first)
    (λ (behind : find position_cmp q entries ≡ Some x). some entries q x rest behind)

-- what is written reads back
pub formulas_read_back : (form : WrittenForm) (formulas : PlacedFormulas)
    (positions : List (ℕ × ℕ)) →
    is_rising formulas ≡ true → positions_rise positions ≡ true → have_all positions formulas →
    are_writable_formulas formulas ≡ true →
    used_formulas (formulas_along [] (formulas_read_along form formulas positions)) ≡ formulas
formulas_read_back PackageText formulas positions rising rise all writable =
    read_along PackageText formulas (ArePassed formulas) (finds_grouped formulas rising)
    (λ q x found. some formulas q x writable found) [] positions rise
    (λ head text placed own ahead.
    absurd (let e = all head text placed in cc))
    ∙ all_placed positions formulas rise rising all
formulas_read_back WorkbookFile formulas positions rising rise all writable =
    read_along WorkbookFile formulas (λ earlier positions. Unit {0}) (finds_alone formulas)
    (λ q x found. some formulas q x writable found) [] positions rise tt
    ∙ all_placed positions formulas rise rising all

-- a formula is read as a derived one exactly where its head is another
pub derived_by_head : (formulas : PlacedFormulas) (position : ℕ × ℕ) →
    list_any is_derived (formulas_read PackageText formulas position)
    ≡ (is_placed (formula_held formulas position)
    && not (is_same_position (group_head formulas position) position))
derived_by_head formulas position = by (formula_held formulas position) where
  by : (o : Option (List ℕ)) →
      list_any is_derived (formulas_read_by PackageText formulas position o)
      ≡ (is_placed o && not (is_same_position (group_head formulas position) position))
  by None = refl
  by (Some formula) =
      shared (is_same_position (group_head formulas position) position) (is_master formulas
      position)
    where
      shared : (t u : Bool) →
          list_any is_derived (written_formula_read position (cond t (cond u
          (master formula (group_end formulas position) (group_index formulas position))
          (plain formula))
          (derived (group_index formulas (group_head formulas position)))) ∷ [])
          ≡ not t
      shared true true = refl
      shared true false = refl
      shared false u = refl
