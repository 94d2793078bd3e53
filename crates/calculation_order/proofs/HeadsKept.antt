-- The first formulas of components, one formula after the other, the last one first.
use Rattle.std.proofs.Common.{◌≡◌, ◌∙◌, inl, inr, ℕ, ◌+◌, ◌-◌, ◌<◌, ◌==◌, ◌&&◌, Bool, true, false}
use Rattle.std.proofs.Common.{List, length, sym, ap, subst, arith, cond, Option, None, Some}
use Rattle.std.proofs.Common.{slice_set}
use Rattle.std.specs.List.{slice_index_or}
use Rattle.std.proofs.lemmas.Bool.{and_from, cases_Bool, eqb-false, eqb-true}
use Rattle.std.proofs.lemmas.List.{get_or-set_same, get_or-set_other, length-set}
use Rattle.calculation_order.specs.Components.{FoundComponents, HasHeads, head_from, is_around}
use Rattle.calculation_order.specs.Components.{leads_around, rank_of}
use Rattle.calculation_order.specs.Links.{Linked}
use Rattle.calculation_order.proofs.Members.{both_false, first_step}

module _ (linked : Linked) (found : FoundComponents) where
  -- with one formula more before them
  head_step : (start rank : ℕ) → start < linked.formulas
      → head_from linked.links found start (linked.formulas - start) rank
      ≡ cond (is_around linked.links found rank start) (Some start)
      (head_from linked.links found (start + 1) (linked.formulas - (start + 1)) rank)
  head_step start rank below =
      first_step (is_around linked.links found rank) start linked.formulas below

  module _ (start : ℕ) (heads : List (Option ℕ)) (below : start < linked.formulas)
      (has : HasHeads linked found (start + 1) heads) where
    -- one that doesn't lead around
    pub kept_heads : leads_around linked.links found start ≡ false
        → HasHeads linked found start heads
    kept_heads off = record {
      size = has.size;
      head = λ rank within. has.head rank within
          ∙ sym (head_step start rank below
          ∙ ap (λ (b : Bool). cond b (Some start)
          (head_from linked.links found (start + 1) (linked.formulas - (start + 1)) rank))
          (both_false (rank_of found start == rank) _ off));
    }

    abbrev rest_of : ℕ → Option ℕ
    rest_of rank =
        head_from linked.links found (start + 1) (linked.formulas - (start + 1)) rank

    -- one that leads around is the first of its component
    new_head : leads_around linked.links found start ≡ true
        → rank_of found start < length found.roots → (rank : ℕ) → rank < length found.roots
        → slice_index_or (slice_set heads (rank_of found start) (Some start)) rank None
        ≡ head_from linked.links found start (linked.formulas - start) rank
    new_head on root rank within =
        let own = rank_of found start in
        let size : own < length heads = let same = has.size in omega arith in
        elim (cases_Bool (own == rank)) [
          | inl e ↦
              subst (λ (r : ℕ). slice_index_or (slice_set heads own (Some start)) r None
              ≡ Some start) (eqb-true own rank e) (get_or-set_same heads own (Some start) None size)
              ∙ sym (head_step start rank below
              ∙ ap (λ (b : Bool). cond b (Some start) (rest_of rank)) (and_from _ _ e on))
          | inr e ↦
              get_or-set_other heads own rank (Some start) None
              (λ same. eqb-false own rank e (sym same))
              ∙ has.head rank within
              ∙ sym (head_step start rank below
              ∙ ap (λ (b : Bool). cond b (Some start) (rest_of rank))
              (ap (λ (b : Bool). b && leads_around linked.links found start) e))
        ]

    pub new_heads : leads_around linked.links found start ≡ true
        → rank_of found start < length found.roots
        → HasHeads linked found start (slice_set heads (rank_of found start) (Some start))
    new_heads on root = record {
      size = length-set heads (rank_of found start) (Some start) ∙ has.size;
      head = new_head on root;
    }
