-- Which formulas ask for the value of a cell.
use Rattle.std.proofs.Common.{◌≡◌, ◌∙◌, ℕ, zero, suc, ◌<◌, ◌≤◌, Bool, false, List, [], ◌∷◌, ◌||◌}
use Rattle.std.proofs.Common.{ap, arith, get_or, length, map, refl, sym, inl, inr}
use Rattle.std.specs.Prelude.{Some}
use Rattle.std.specs.List.{list_any, range_with_len, slice_get}
use Rattle.std.proofs.lemmas.Bool.{cases_lt}
use Rattle.std.proofs.lemmas.List.FromFn.{get_or-map-range_with_len, length-map-range_with_len}
use Rattle.std.proofs.Math.ListN.{get_or-eq_default}
use Rattle.calculation_order.proofs.InRounds.{filter_same}
use Rattle.calculation_order.specs.Edges.{dependents_of, depends_on, numbers_below, reached}
use Rattle.xlsx_graph.specs.Graph.{GraphFormula, asks_for_cell, asks_for, dependents_at, needed}
use Rattle.xlsx_graph.specs.declared.named.Standing.{Standing}

-- the formula of a number
pub asks_own : (s : Standing) (fs : List GraphFormula) (n : ℕ) (f : GraphFormula)
    → slice_get fs n ≡ Some f → asks_for_cell s fs n ≡ asks_for s f
asks_own s [] n f at = absurd (cc)
asks_own s (g ∷ gs) zero f at = let e : g ≡ f = cc in ap (asks_for s) e
asks_own s (g ∷ gs) (suc n) f at = asks_own s gs n f at

pub formula_at : (fs : List GraphFormula) (n : ℕ) → n < length fs
    → (f : GraphFormula) × (slice_get fs n ≡ Some f)
formula_at [] n within = absurd (omega arith)
formula_at (g ∷ gs) zero within = (g, refl)
formula_at (g ∷ gs) (suc n) within = formula_at gs n (omega arith)

-- none behind the last
asks_none : (s : Standing) (fs : List GraphFormula) (n : ℕ) → length fs ≤ n
    → asks_for_cell s fs n ≡ false
asks_none s [] n past = refl
asks_none s (g ∷ gs) zero past = absurd (omega arith)
asks_none s (g ∷ gs) (suc n) past = asks_none s gs n (omega arith)

-- a list of all answers has each
pub asking_at : (s : Standing) (fs : List GraphFormula) (count n : ℕ) (asking : List Bool)
    → count ≡ length fs → asking ≡ map (asks_for_cell s fs) (range_with_len 0 count)
    → get_or asking n false ≡ asks_for_cell s fs n
asking_at s fs count n asking size is =
    elim (cases_lt n count) [
      | inl below ↦ ap (λ bs. get_or bs n false) is
          ∙ get_or-map-range_with_len (asks_for_cell s fs) 0 count n n false below (omega arith)
      | inr past ↦ (let long = length-map-range_with_len (asks_for_cell s fs) 0 count in
          ap (λ bs. get_or bs n false) is
          ∙ get_or-eq_default (map (asks_for_cell s fs) (range_with_len 0 count)) false
          (omega arith)
          ∙ sym (asks_none s fs n (omega arith)))
    ]

any_same : (p q : ℕ → Bool) → ((n : ℕ) → p n ≡ q n) → (ns : List ℕ) → list_any p ns ≡ list_any q ns
any_same p q same [] = refl
any_same p q same (n ∷ ns) =
    ap (λ t. t || list_any p ns) (same n) ∙ ap (λ t. q n || t) (any_same p q same ns)

-- formulas that ask alike have the same dependents
pub dependents_same : (p q : ℕ → Bool) (edges : List (List ℕ)) → ((n : ℕ) → p n ≡ q n)
    → dependents_of p edges ≡ dependents_of q edges
dependents_same p q edges same =
    filter_same (depends_on p edges) (depends_on q edges) (numbers_below (length edges))
    (λ n is. ap (λ t. t || list_any p (reached edges n)) (same n)
    ∙ ap (λ t. q n || t) (any_same p q same (reached edges n)))

-- so do those of a cell
pub dependents_are : (p : ℕ → Bool) (s : Standing) (fs : List GraphFormula)
    → ((n : ℕ) → p n ≡ asks_for_cell s fs n) → dependents_of p (needed fs) ≡ dependents_at fs s
unfolding dependents_at
dependents_are p s fs same = dependents_same p (asks_for_cell s fs) (needed fs) same
