-- The edges of a workbook's graph have the numbers of its formulas alone.
use Rattle.std.proofs.Common.{◌≡◌, ◌∙◌, ℕ, suc, ◌+◌, ◌≤◌, true, List, [], ◌∷◌, length, refl, arith}
use Rattle.std.proofs.Common.{map, lt-ltb}
use Rattle.std.specs.Prelude.{nat_lt}
use Rattle.std.specs.List.{list_all}
use Rattle.std.proofs.lemmas.Bool.{and_from, cond_both}
use Rattle.std.proofs.lemmas.List.{length-map}
use Rattle.std.proofs.lemmas.List.Folds.{list_all-map}
use Rattle.std.proofs.lemmas.List.Sums.{list_all-from_AllPass}
use Rattle.xlsx_graph.specs.Graph.{GraphFormula, needed, needs, numbers_needed}
use Rattle.calculation_order.specs.OrderLaws.{are_within}

all_below : (most from : ℕ) (formulas : List GraphFormula) (f : GraphFormula)
    → from + length formulas ≤ most
    → list_all (λ n. nat_lt n most) (numbers_needed from formulas f) ≡ true
all_below most from [] f within = refl
all_below most from (g ∷ gs) f within =
    let others = all_below most (suc from) gs f (omega arith) in
    cond_both (needs f g) (from ∷ numbers_needed (suc from) gs f) (numbers_needed (suc from) gs f)
    (λ (ns : List ℕ). list_all (λ n. nat_lt n most) ns ≡ true)
    (λ e. and_from _ _ (lt-ltb from most (omega arith)) others) (λ e. others)

pub needed_are_within : (formulas : List GraphFormula) → are_within (needed formulas) ≡ true
unfolding needed
needed_are_within formulas =
    let count = length (map (numbers_needed 0 formulas) formulas) in
    let same : count ≡ length formulas = length-map formulas (numbers_needed 0 formulas) in
    list_all-map (list_all (λ n. nat_lt n count)) (numbers_needed 0 formulas) formulas
    ∙ list_all-from_AllPass (λ f. list_all (λ n. nat_lt n count) (numbers_needed 0 formulas f))
    formulas (λ k d at. all_below count 0 formulas _ (omega arith))
