-- The values that are read at the positions that are written, without those that are nothing, are
-- the values.
use Rattle.std.proofs.Common.{◌≡◌, ℕ, Bool, true, false, cond, ◌&&◌, ◌||◌, List, [], ◌∷◌, Some}
use Rattle.std.proofs.Common.{None, Option, refl, sym, ap, ap₂, ◌∙◌}
use Rattle.std.specs.Prelude.{not}
use Rattle.std.specs.List.{list_all, list_any}
use Rattle.std.specs.FinMap.{find}
use Rattle.std.specs.Option.{unwrap_or}
use Rattle.std.specs.Ordering.{eq_by_cmp}
use Rattle.cell_refs.specs.Words.{position_cmp, is_rising}
use Rattle.cell_refs.proofs.PositionOrder.{and_both, and_from}
use Rattle.cell_data.specs.Words.{CellValue, nothing, integer, number, text, shared_text, truth}
use Rattle.cell_data.specs.Words.{time, iso_time, failure}
use Rattle.xlsx_values.specs.Words.{resolved}
use Rattle.xlsx_cells.specs.Words.{is_nothing, used_values, with_texts}
use Rattle.xlsx_writer.specs.Words.{PlacedFormulas, is_writable_value, counts_from, have_one_epoch}
use Rattle.xlsx_writer.specs.Words.{PlacedValues, written_positions, is_from_1904}
use Rattle.round_trip.specs.ReadSheet.{values_read_along}
use Rattle.round_trip.proofs.PlacedAmong.{placed_among, entry_before, all_placed}
use Rattle.round_trip.proofs.WrittenPositions.{written_rise, values_among}

written_is_some : (value : CellValue) → is_writable_value value ≡ true → is_nothing value ≡ false
written_is_some nothing is = absurd (cc)
written_is_some (integer n) is = absurd (cc)
written_is_some (number n) is = refl
written_is_some (text bytes) is = refl
written_is_some (shared_text place) is = absurd (cc)
written_is_some (truth holds) is = refl
written_is_some (time days kind is_1904) is = refl
written_is_some (iso_time bytes) is = refl
written_is_some (failure error) is = refl

written_is_resolved : (strings : List (List ℕ)) (value : CellValue) → is_writable_value value
    ≡ true →
    resolved strings value ≡ value
written_is_resolved strings nothing is = refl
written_is_resolved strings (integer n) is = refl
written_is_resolved strings (number n) is = refl
written_is_resolved strings (text bytes) is = refl
written_is_resolved strings (shared_text place) is = absurd (cc)
written_is_resolved strings (truth holds) is = refl
written_is_resolved strings (time days kind is_1904) is = refl
written_is_resolved strings (iso_time bytes) is = refl
written_is_resolved strings (failure error) is = refl

-- what holds of each entry holds of what is found
pub found_passes : {X : Type 0} (passes : X → Bool) (es : List ((ℕ × ℕ) × X)) (q : ℕ × ℕ) (x : X) →
    list_all (λ e. passes e.1) es ≡ true → find position_cmp q es ≡ Some x → passes x ≡ true
found_passes passes [] q x all found = absurd (cc)
found_passes {X} passes (e ∷ es) q x all found =
    let (first, rest) = and_both (passes e.1) (list_all (λ d. passes d.1) es) all in
    by (eq_by_cmp position_cmp q e.0) found first
    (λ (further : find position_cmp q es ≡ Some x). found_passes passes es q x rest further) where
      same : (y : X) → Some y ≡ Some x → y ≡ x
      same y is = cc

      by : (t : Bool) → cond t (Some e.1) (find position_cmp q es) ≡ Some x → passes e.1 ≡ true →
          (find position_cmp q es ≡ Some x → passes x ≡ true) → passes x ≡ true
      by true found first further = ap passes (sym (same e.1 found)) ∙ first
      by false found first further = further found

module _ (values : PlacedValues) where
  counted : (p : ℕ × ℕ) (value : CellValue) (others : PlacedValues) → is_nothing value ≡ false →
      cond (is_nothing value) others ((p, value) ∷ others) ≡ (p, value) ∷ others
  counted p value others is = rw is

  counted_along : list_all (λ e. is_writable_value e.1) values ≡ true → (positions : List (ℕ × ℕ)) →
      used_values (values_read_along values positions)
      ≡ placed_among (λ p. find position_cmp p values) positions
  counted_along all [] = refl
  counted_along all (p ∷ ps) =
      by (find position_cmp p values) refl (counted_along all ps) where
        by : (o : Option CellValue) → find position_cmp p values ≡ o →
            used_values (values_read_along values ps)
            ≡ placed_among (λ q. find position_cmp q values) ps →
            used_values ((p, unwrap_or o nothing) ∷ values_read_along values ps)
            ≡ entry_before p o (placed_among (λ q. find position_cmp q values) ps)
        by None is further = further
        by (Some value) is further =
            counted p value (used_values (values_read_along values ps))
            (written_is_some value (found_passes is_writable_value values p value all is))
            ∙ ap (λ (es : PlacedValues). (p, value) ∷ es) further

-- the values that count are the values
pub values_read_back : (values : PlacedValues) (formulas : PlacedFormulas) → is_rising values
    ≡ true →
    list_all (λ e. is_writable_value e.1) values ≡ true →
    used_values (values_read_along values (written_positions values formulas)) ≡ values
values_read_back values formulas rising all =
    counted_along values all (written_positions values formulas)
    ∙ all_placed (written_positions values formulas) values (written_rise values formulas) rising
    (values_among values formulas)

-- and none is a shared string
pub values_resolved : (strings : List (List ℕ)) (values : PlacedValues) →
    list_all (λ e. is_writable_value e.1) values ≡ true → with_texts strings values ≡ values
values_resolved strings [] all = refl
values_resolved strings (e ∷ es) all =
    let (first, rest) = and_both (is_writable_value e.1) (list_all (λ d. is_writable_value d.1)
    es) all in
    ap₂ (λ (d : (ℕ × ℕ) × CellValue) (ds : PlacedValues). d ∷ ds)
    (ap (λ (v : CellValue). (e.0, v)) (written_is_resolved strings e.1 first))
    (values_resolved strings es rest)

-- ---- the first year

none_from_1904 : (values : PlacedValues) →
    list_all (λ e. counts_from false e.1) values ≡ true →
    list_any (λ e. is_from_1904 e.1) values ≡ false
none_from_1904 [] all = refl
none_from_1904 (e ∷ es) all =
    let (first, rest) =
    and_both (counts_from false e.1) (list_all (λ d. counts_from false d.1) es) all in
    ap (λ (t : Bool). t || list_any (λ d. is_from_1904 d.1) es) (by e.1 first)
    ∙ none_from_1904 es rest where
      turned : (t : Bool) → not t ≡ true → t ≡ false
      turned true is = absurd (cc)
      turned false is = refl

      by : (value : CellValue) → counts_from false value ≡ true → is_from_1904 value ≡ false
      by nothing is = refl
      by (integer n) is = refl
      by (number n) is = refl
      by (text bytes) is = refl
      by (shared_text place) is = refl
      by (truth holds) is = refl
      by (time days kind is_1904) is = turned is_1904 is
      by (iso_time bytes) is = refl
      by (failure error) is = refl

all_from_1900 : (values : PlacedValues) →
    list_any (λ e. is_from_1904 e.1) values ≡ false →
    list_all (λ e. counts_from false e.1) values ≡ true
all_from_1900 [] none = refl
all_from_1900 (e ∷ es) none =
    by e.1 (is_from_1904 e.1) refl none (λ (rest : list_any (λ d. is_from_1904 d.1) es ≡ false).
    all_from_1900 es rest) where
      counts : (value : CellValue) → is_from_1904 value ≡ false → counts_from false value ≡ true
      counts nothing is = refl
      counts (integer n) is = refl
      counts (number n) is = refl
      counts (text bytes) is = refl
      counts (shared_text place) is = refl
      counts (truth holds) is = refl
      counts (time days kind is_1904) is = ap not is
      counts (iso_time bytes) is = refl
      counts (failure error) is = refl

      by : (value : CellValue) (t : Bool) → is_from_1904 value ≡ t →
          (t || list_any (λ d. is_from_1904 d.1) es) ≡ false →
          (list_any (λ d. is_from_1904 d.1) es ≡ false →
          list_all (λ d. counts_from false d.1) es ≡ true) →
          (counts_from false value && list_all (λ d. counts_from false d.1) es) ≡ true
      by value true is none further = absurd (cc)
      by value false is none further = and_from _ _ (counts value is) (further none)

-- the first year that is written is that of each time
pub epoch_is_read : (values : PlacedValues) → have_one_epoch values ≡ true →
    list_all (λ e. counts_from (list_any (λ d. is_from_1904 d.1) values) e.1) values ≡ true
epoch_is_read values one =
    by (list_any (λ d. is_from_1904 d.1) values) refl
    (list_all (λ e. counts_from true e.1) values) refl one where
      by : (t : Bool) → list_any (λ d. is_from_1904 d.1) values ≡ t → (u : Bool) →
          list_all (λ e. counts_from true e.1) values ≡ u →
          cond u true (list_all (λ e. counts_from false e.1) values) ≡ true →
          list_all (λ e. counts_from t e.1) values ≡ true
      by false is u all one = all_from_1900 values is
      by true is true all one = all
      by true is false all one = absurd (let e = none_from_1904 values one in cc)
