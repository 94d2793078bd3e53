-- The positions that are written rise, and have each value and each formula among them.
use Rattle.std.proofs.Common.{◌≡◌, ℕ, Bool, true, false, cond, List, [], ◌∷◌, ◌++◌, Some, refl, sym}
use Rattle.std.proofs.Common.{ap, ◌∙◌}
use Rattle.std.specs.FinMap.{find, from_entries, entries, entries_sorted, get-from_entries}
use Rattle.std.specs.FinMap.{contains_key-keys}
use Rattle.std.specs.Option.{is_some}
use Rattle.std.specs.Ordering.{eq_by_cmp}
use Rattle.cell_refs.specs.Words.{position_cmp}
use Rattle.cell_refs.proofs.PositionOrder.{position_total, from_T, positions_rise, rising_positions}
use Rattle.cell_data.specs.Words.{positions_alone}
use Rattle.xlsx_writer.specs.Words.{PlacedFormulas, PlacedValues, written_positions}
use Rattle.round_trip.proofs.PlacedAmong.{is_among, have_all}

-- both lists' positions, with nothing at them
abbrev all_entries : PlacedValues → PlacedFormulas → List ((ℕ × ℕ) × Unit {0})
all_entries values formulas =
    positions_alone values ++ positions_alone formulas

pub written_rise : (values : PlacedValues) (formulas : PlacedFormulas) →
    positions_rise (written_positions values formulas) ≡ true
written_rise values formulas =
    let all = from_entries {R = position_cmp} (all_entries values formulas) in
    sym (rising_positions (entries all)) ∙ from_T _ (entries_sorted all)

-- what is found in a list has its position among those of that list and others
found_bare : {X : Type 0} (q : ℕ × ℕ) (x : X) (es : List ((ℕ × ℕ) × X)) →
    find position_cmp q es ≡ Some x →
    find position_cmp q (positions_alone es) ≡ Some tt
found_bare q x [] found = absurd (cc)
found_bare {X} q x (e ∷ es) found =
    by (eq_by_cmp position_cmp q e.0) found (λ (further : find position_cmp q es ≡ Some x).
    found_bare q x es further) where
      by : (t : Bool) → cond t (Some e.1) (find position_cmp q es) ≡ Some x →
          (find position_cmp q es ≡ Some x →
          find position_cmp q (positions_alone es) ≡ Some tt) →
          cond t (Some tt) (find position_cmp q (positions_alone es)) ≡ Some tt
      by true found further = refl
      by false found further = further found

found_in_front : (q : ℕ × ℕ) (es fs : List ((ℕ × ℕ) × Unit {0})) →
    find position_cmp q es ≡ Some tt → find position_cmp q (es ++ fs) ≡ Some tt
found_in_front q [] fs found = absurd (cc)
found_in_front q (e ∷ es) fs found =
    by (eq_by_cmp position_cmp q e.0) found (λ (further : find position_cmp q es ≡ Some tt).
    found_in_front q es fs further) where
      by : (t : Bool) → cond t (Some e.1) (find position_cmp q es) ≡ Some tt →
          (find position_cmp q es ≡ Some tt → find position_cmp q (es ++ fs) ≡ Some tt) →
          cond t (Some e.1) (find position_cmp q (es ++ fs)) ≡ Some tt
      by true found further = refl
      by false found further = further found

found_behind : (q : ℕ × ℕ) (es fs : List ((ℕ × ℕ) × Unit {0})) →
    find position_cmp q fs ≡ Some tt → find position_cmp q (es ++ fs) ≡ Some tt
found_behind q [] fs found = found
found_behind q (e ∷ es) fs found =
    by (eq_by_cmp position_cmp q e.0) (found_behind q es fs found) where
      by : (t : Bool) → find position_cmp q (es ++ fs) ≡ Some tt →
          cond t (Some e.1) (find position_cmp q (es ++ fs)) ≡ Some tt
      by true further = refl
      by false further = further

among_written : (values : PlacedValues) (formulas : PlacedFormulas) (q : ℕ × ℕ) →
    find position_cmp q (all_entries values formulas) ≡ Some tt →
    is_among q (written_positions values formulas) ≡ true
among_written values formulas q found =
    let all = from_entries {R = position_cmp} (all_entries values formulas) in
    sym (contains_key-keys all q)
    ∙ ap is_some (get-from_entries position_total (all_entries values formulas) q ∙ found)

pub values_among : (values : PlacedValues) (formulas : PlacedFormulas) →
    have_all (written_positions values formulas) values
values_among values formulas q x found =
    among_written values formulas q
    (found_in_front q (positions_alone values) (positions_alone formulas)
    (found_bare q x values found))

pub formulas_among : (values : PlacedValues) (formulas : PlacedFormulas) →
    have_all (written_positions values formulas) formulas
formulas_among values formulas q x found =
    among_written values formulas q
    (found_behind q (positions_alone values) (positions_alone formulas)
    (found_bare q x formulas found))
