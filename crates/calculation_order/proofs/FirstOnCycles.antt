-- The first formulas on cycles, by the components of links.
use Rattle.std.proofs.Common.{◌≡◌, ◌∙◌, inl, inr, ℕ, ◌<◌, ◌&&◌, Bool, true, List, length, sym, ap}
use Rattle.std.proofs.Common.{arith, cond, filter, Option, None}
use Rattle.std.proofs.lemmas.Bool.{and_from, and_parts, cases_Bool, eqb-true}
use Rattle.calculation_order.specs.Components.{FoundComponents, are_certain, first_among}
use Rattle.calculation_order.specs.Components.{first_around, have_one_rank, head_from, is_around}
use Rattle.calculation_order.specs.Components.{leads_around, rank_of}
use Rattle.calculation_order.specs.Edges.{are_together, cycle_of, first_of, first_together}
use Rattle.calculation_order.specs.Edges.{numbers_below}
use Rattle.calculation_order.specs.Links.{AreGrouped, AreLinked, Linked}
use Rattle.calculation_order.proofs.Bridging.{same_together}
use Rattle.calculation_order.proofs.Certain.{around_alike, together_by_rank}
use Rattle.calculation_order.proofs.SameNeeds.{leads_within}
use Rattle.calculation_order.proofs.Members.{both_false, filter_none, filter_same, of_below}
use Rattle.calculation_order.proofs.Members.{same_tests}

module _ (linked : Linked) (so : AreGrouped linked) (found : FoundComponents)
    (certain : are_certain linked.links found ≡ true) (edges : List (List ℕ))
    (same : AreLinked edges linked) where
  vertex : (n : ℕ) → n < linked.formulas → n < length linked.links
  vertex n below = let within = so.formulas in omega arith

  cycle_by : (n : ℕ) → n < linked.formulas
      → cycle_of edges n
      ≡ filter (λ m. have_one_rank found n m && leads_around linked.links found n)
      (numbers_below linked.formulas)
  cycle_by n below =
      ap (λ (k : ℕ). filter (are_together edges n) (numbers_below k)) same.size
      ∙ filter_same (are_together edges n)
      (λ m. have_one_rank found n m && leads_around linked.links found n)
      (numbers_below linked.formulas) (λ m is. let to = of_below linked.formulas m is in
      sym (same_together linked so edges same n m below to)
      ∙ together_by_rank linked.links (leads_within linked so) found certain n m
      (vertex n below) (vertex m to))

  alike : (n m : ℕ) → n < linked.formulas → m < linked.formulas
      → leads_around linked.links found n ≡ true
      → (have_one_rank found n m && leads_around linked.links found n)
      ≡ is_around linked.links found (rank_of found n) m
  alike n m from to some =
      same_tests _ _
      (λ is. let parts = and_parts (have_one_rank found n m) _ is in and_from _ _ parts.0
      (around_alike linked.links (leads_within linked so) found certain n m (vertex n from)
      (vertex m to) (eqb-true (rank_of found m) (rank_of found n) parts.0) some))
      (λ is. and_from _ _ (and_parts (have_one_rank found n m) _ is).0 some)

  pub first_is : (n : ℕ) → n < linked.formulas
      → first_together edges n ≡ first_around linked.links found linked.formulas n
  first_is n below =
      let all = numbers_below linked.formulas in
      let by : ℕ → Bool = λ m. have_one_rank found n m && leads_around linked.links found n in
      let head : Option ℕ = head_from linked.links found 0 linked.formulas (rank_of found n) in
      ap first_of (cycle_by n below)
      ∙ elim (cases_Bool (leads_around linked.links found n)) [
        | inl e ↦
            ap first_of (filter_same by (is_around linked.links found (rank_of found n)) all
            (λ m is. alike n m below (of_below linked.formulas m is) e))
            ∙ sym (ap (λ (b : Bool). cond b head None) e)
        | inr e ↦
            ap first_of (filter_none by all (λ m is. both_false (have_one_rank found n m) _ e))
            ∙ sym (ap (λ (b : Bool). cond b head None) e)
      ]

-- the first formula on cycles with one is the first that reaches it and that it reaches
pub first_plainly : (linked : Linked) → AreGrouped linked → (edges : List (List ℕ))
    → AreLinked edges linked → (n : ℕ) → n < linked.formulas
    → first_together edges n ≡ first_among linked n
first_plainly linked so edges same n below =
    ap first_of (ap (λ (k : ℕ). filter (are_together edges n) (numbers_below k)) same.size
    ∙ filter_same (are_together edges n) (are_together linked.links n)
    (numbers_below linked.formulas) (λ m is. sym (same_together linked so edges same n m below
    (of_below linked.formulas m is))))
