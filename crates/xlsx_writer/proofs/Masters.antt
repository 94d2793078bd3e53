-- Masters before a formula, and how it is written by what was found.
use Rattle.std.proofs.Common.{◌≡◌, ℕ, zero, suc, ◌+◌, ◌<◌, ◌≤◌, Bool, true, false, ◌&&◌, cond, List}
use Rattle.std.proofs.Common.{[], ◌∷◌, ◌++◌, length, get_or, take, refl, sym, ap, ◌∙◌, arith, inl}
use Rattle.std.proofs.Common.{inr, ◌⊎◌, length-append, subst}
use Rattle.std.specs.Prelude.{map, slice_index, ◌==◌, nat_lt, All}
use Rattle.std.specs.List.{filter}
use Rattle.std.specs.Cmp.{tied_itself}
use Rattle.std.specs.FinMap.Entries.{below_all}
use Rattle.std.specs.Ordering.{is_lt}
use Rattle.std.proofs.lemmas.Bool.{cases_eq, ne_eqb, eq-eqb}
use Rattle.std.proofs.lemmas.List.{take_more, map-append}
use Rattle.std.proofs.lemmas.List.Elements.{filter-append}
use Rattle.cell_refs.specs.Words.{position_cmp, is_rising}
use Rattle.cell_refs.specs.declared.TheConstants.{MAX_ROWS}
use Rattle.cell_refs.proofs.PositionOrder.{position_total, and_both, less_from}
use Rattle.cell_data.specs.Words.{AreInSheet}
use Rattle.xlsx_writer.specs.Groups.{PlacedFormulas, is_same_position, group_head, group_end}
use Rattle.xlsx_writer.specs.Groups.{group_index, is_master, plain, master, derived}
use Rattle.xlsx_writer.specs.Groups.{grouped_formula}
use Rattle.xlsx_writer.specs.Grouping.{formula_at_place, AreHeads, AreLastRows, form_by}
use Rattle.xlsx_writer.specs.Grouping.{master_count}
use Rattle.xlsx_writer.specs.Writing.{PlacedForms, written_as, IsLastInSheet}
use Rattle.xlsx_writer.specs.declared.groups.FormulaForm.{FormulaForm}
use Rattle.xlsx_writer.specs.declared.groups.FormulaForm.TheVariants as form
use Rattle.xlsx_writer.proofs.Places.{below_at, greater_from}
use Rattle.xlsx_writer.proofs.Heads.{same_to}
use Rattle.xlsx_writer.proofs.LastRows.{same_apart, not_led, end_in_sheet}

-- ---- how many stand before

module _ {X : Type 0} (test : (ℕ × ℕ) × X → Bool) where
  none_before : (q : ℕ × ℕ) (es : List ((ℕ × ℕ) × X)) → below_all position_cmp q es ≡ true →
      filter (λ e. is_lt (position_cmp e.0 q) && test e) es ≡ []
  none_before q [] below = refl
  none_before q (e ∷ es) below =
      let parts = and_both (is_lt (position_cmp q e.0)) (below_all position_cmp q es) below in
      ap (λ (t : Bool). cond (t && test e)
      (e ∷ filter (λ e. is_lt (position_cmp e.0 q) && test e) es)
      (filter (λ e. is_lt (position_cmp e.0 q) && test e) es))
      (ap is_lt (greater_from q e.0 (less_from _ parts.0)))
      ∙ none_before q es parts.1

  -- those before the entry at a place that pass are those up to the place
  before_place : (es : List ((ℕ × ℕ) × X)) (k : ℕ) (d : (ℕ × ℕ) × X) → is_rising es ≡ true →
      k < length es →
      filter (λ e. is_lt (position_cmp e.0 (get_or es k d).0) && test e) es
      ≡ filter test (take k es)
  before_place [] k d rising inside = absurd (omega arith)
  before_place (e ∷ es) zero d rising inside =
      let parts = and_both (below_all position_cmp e.0 es) (is_rising es) rising in
      ap (λ (t : Bool). cond (t && test e)
      (e ∷ filter (λ c. is_lt (position_cmp c.0 e.0) && test c) es)
      (filter (λ c. is_lt (position_cmp c.0 e.0) && test c) es))
      (ap is_lt (tied_itself position_total e.0))
      ∙ none_before e.0 es parts.0
  before_place (e ∷ es) (suc k) d rising inside =
      let parts = and_both (below_all position_cmp e.0 es) (is_rising es) rising in
      let q = (get_or es k d).0 in
      ap (λ (t : Bool). cond (t && test e)
      (e ∷ filter (λ c. is_lt (position_cmp c.0 q) && test c) es)
      (filter (λ c. is_lt (position_cmp c.0 q) && test c) es))
      (ap is_lt (below_at e.0 es k d parts.0 (omega arith)))
      ∙ ap (λ (rest : List ((ℕ × ℕ) × X)). cond (test e) (e ∷ rest) rest)
      (before_place es k d parts.1 (omega arith))

-- how many masters are among some of the formulas
abbrev pub masters_among : PlacedFormulas → PlacedFormulas → ℕ
masters_among F some = length (filter (λ entry. is_master F entry.0) some)

-- a test as a number
abbrev pub one_if : Bool → ℕ
one_if test = cond test 1 0

pub index_at : (F : PlacedFormulas) (k : ℕ) → is_rising F ≡ true → k < length F →
    group_index F (formula_at_place F k).0 ≡ masters_among F (take k F)
index_at F k rising inside =
    ap length (before_place (λ entry. is_master F entry.0) F k ((0, 0), []) rising inside)

pub masters_more : (F : PlacedFormulas) (i : ℕ) → i < length F →
    masters_among F (take (i + 1) F)
    ≡ masters_among F (take i F) + one_if (is_master F (formula_at_place F i).0)
masters_more F i inside =
    ap (masters_among F) (take_more F i ((0, 0), []) inside)
    ∙ ap length (filter-append (λ (entry : (ℕ × ℕ) × List ℕ). is_master F entry.0) (take i F)
    (formula_at_place F i ∷ []))
    ∙ length-append (filter (λ entry. is_master F entry.0) (take i F))
    (filter (λ entry. is_master F entry.0) (formula_at_place F i ∷ []))
    ∙ ap (λ (n : ℕ). masters_among F (take i F) + n) (by (is_master F (formula_at_place F i).0))
  where
    by : (test : Bool) → length (cond test (formula_at_place F i ∷ []) []) ≡ one_if test
    by true = refl
    by false = refl

-- ---- how a formula is written

chosen : (test : Bool) (last idx : ℕ) (t : List ℕ) →
    written_as (cond test (form.Master last idx) form.Plain) t
    ≡ cond test (master t last idx) (plain t)
chosen true last idx t = refl
chosen false last idx t = refl

counted : (test : Bool) (last idx : ℕ) →
    master_count (cond test (form.Master last idx) form.Plain) ≡ one_if test
counted true last idx = refl
counted false last idx = refl

on_sheet : (own test : Bool) (last idx : ℕ) → last < MAX_ROWS →
    IsLastInSheet (cond own (cond test (form.Master last idx) form.Plain) (form.Derived idx))
on_sheet true true last idx fits = fits
on_sheet true false last idx fits = tt
on_sheet false test last idx fits = tt

module _ (F : PlacedFormulas) (H rows : List ℕ) (rising : is_rising F ≡ true) (heads : AreHeads F H)
    (count : length H ≡ length F) (last_rows : AreLastRows F rows) (i idx : ℕ)
    (inside : i < length F)
    (is_index : idx ≡ group_index F (formula_at_place F (slice_index H i)).0) where
  abbrev found_form : FormulaForm
  found_form =
      form_by (slice_index H i == i) (formula_at_place F i).0.0 (slice_index rows i) idx

  record IsOwn : Type 0 where
    at : slice_index H i ≡ i
    test : (slice_index H i == i) ≡ true
    same : is_same_position (group_head F (formula_at_place F i).0) (formula_at_place F i).0 ≡ true

  record IsOthers : Type 0 where
    test : (slice_index H i == i) ≡ false
    same : is_same_position (group_head F (formula_at_place F i).0) (formula_at_place F i).0 ≡ false

  either : IsOwn ⊎ IsOthers
  either = elim (cases_eq (slice_index H i) i) [
    | inl here ↦ inl (record {
      at = here;
      test = eq-eqb (slice_index H i) i here;
      same = same_to (group_head F (formula_at_place F i).0) (formula_at_place F i).0
          (sym (heads.head i (omega (arith, count)))
          ∙ ap (λ (j : ℕ). (formula_at_place F j).0) here);
    })
    | inr other ↦ inr (record {
      test = ne_eqb (slice_index H i) i other;
      same = same_apart (group_head F (formula_at_place F i).0) (formula_at_place F i).0
          (not_led F H rising heads count i i inside inside (λ here. other (sym here)));
    })
  ]

  pub written_found : written_as found_form (formula_at_place F i).1
      ≡ grouped_formula F (formula_at_place F i).0 (formula_at_place F i).1
  written_found = elim either [
    | inl own ↦
        let row = (formula_at_place F i).0.0 in
        let t = (formula_at_place F i).1 in
        let last_is = last_rows i inside in
        let index_is : idx ≡ group_index F (formula_at_place F i).0 =
        is_index ∙ ap (λ (j : ℕ). group_index F (formula_at_place F j).0) own.at in
        ap (λ (test : Bool). written_as (form_by test row (slice_index rows i) idx) t) own.test
        ∙ chosen (nat_lt row (slice_index rows i)) (slice_index rows i) idx t
        ∙ (λ j. cond (nat_lt row (last_is j)) (master t (last_is j) (index_is j)) (plain t))
        ∙ ap (λ (test : Bool).
        cond test (cond (test && nat_lt row (group_end F (formula_at_place F i).0))
        (master t (group_end F (formula_at_place F i).0) (group_index F (formula_at_place F i).0))
        (plain t))
        (derived (group_index F (group_head F (formula_at_place F i).0)))) (sym own.same)
    | inr others ↦
        let row = (formula_at_place F i).0.0 in
        let t = (formula_at_place F i).1 in
        ap (λ (test : Bool). written_as (form_by test row (slice_index rows i) idx) t) others.test
        ∙ ap derived (is_index ∙ ap (group_index F) (heads.head i (omega (arith, count))))
        ∙ ap (λ (test : Bool).
        cond test (cond (test && nat_lt row (group_end F (formula_at_place F i).0))
        (master t (group_end F (formula_at_place F i).0) (group_index F (formula_at_place F i).0))
        (plain t))
        (derived (group_index F (group_head F (formula_at_place F i).0)))) (sym others.same)
  ]

  pub masters_found : master_count found_form ≡ one_if (is_master F (formula_at_place F i).0)
  masters_found = elim either [
    | inl own ↦
        let row = (formula_at_place F i).0.0 in
        ap (λ (test : Bool). master_count (form_by test row (slice_index rows i) idx)) own.test
        ∙ counted (nat_lt row (slice_index rows i)) (slice_index rows i) idx
        ∙ ap (λ (n : ℕ). one_if (nat_lt row n)) (last_rows i inside)
        ∙ ap (λ (test : Bool). one_if (test && nat_lt row (group_end F (formula_at_place F i).0)))
        (sym own.same)
    | inr others ↦
        let row = (formula_at_place F i).0.0 in
        ap (λ (test : Bool). master_count (form_by test row (slice_index rows i) idx)) others.test
        ∙ ap (λ (test : Bool). one_if (test && nat_lt row (group_end F (formula_at_place F i).0)))
        (sym others.same)
  ]

  pub sheet_found : AreInSheet F → IsLastInSheet found_form
  sheet_found sheet =
      on_sheet (slice_index H i == i) (nat_lt (formula_at_place F i).0.0 (slice_index rows i))
      (slice_index rows i) idx
      (subst (λ (n : ℕ). n < MAX_ROWS) (sym (last_rows i inside)) (end_in_sheet F i sheet inside))

-- ---- one formula more

-- what is found of the first formulas
abbrev pub written_first : PlacedFormulas → ℕ → PlacedForms
written_first F i = map (λ entry. (entry.0, grouped_formula F entry.0 entry.1)) (take i F)

pub written_more : (F : PlacedFormulas) (i : ℕ) → i < length F →
    written_first F (i + 1)
    ≡ written_first F i
    ++ (
      (formula_at_place F i).0,
      grouped_formula F (formula_at_place F i).0 (formula_at_place F
          i).1,
    ) ∷ []
written_more F i inside =
    ap (map (λ (entry : (ℕ × ℕ) × List ℕ). (entry.0, grouped_formula F entry.0 entry.1)))
    (take_more F i ((0, 0), []) inside)
    ∙ map-append (λ (entry : (ℕ × ℕ) × List ℕ). (entry.0, grouped_formula F entry.0 entry.1))
    (take i F) (formula_at_place F i ∷ [])

pub one_at_most : (found : FormulaForm) → master_count found ≤ 1
one_at_most (form.Master last index) = omega arith
one_at_most form.Plain = omega arith
one_at_most (form.Derived index) = omega arith

pub All-one : {X : Type 0} (P : X → Type 0) (x : X) → P x → All P (x ∷ [])
All-one P x holds zero d inside = holds
All-one P x holds (suc k) d inside = absurd (omega arith)
