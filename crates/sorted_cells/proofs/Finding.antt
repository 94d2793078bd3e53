-- What a search finds among entries in the order of their keys.
use Rattle.std.proofs.Common.{◌≡◌, ℕ, zero, suc, ◌<◌, ◌≤◌, Bool, true, false, cond, List, [], ◌∷◌}
use Rattle.std.proofs.Common.{◌++◌, length, map, get_or, Some, None, Option, Ok, Err, refl, sym, ap}
use Rattle.std.proofs.Common.{◌∙◌, subst, inl, inr, arith}
use Rattle.std.specs.declared.cmp.Ordering.{Ordering}
use Rattle.std.specs.declared.cmp.Ordering.TheVariants.{Less, Equal, Greater}
use Rattle.std.specs.Cmp.{IsTotalOrder}
use Rattle.std.specs.FinMap.{find, is_sorted, IsAntisymmetric}
use Rattle.std.specs.FinMap.Entries.{below_all}
use Rattle.std.specs.List.Sorted.{IsBinarySearchResult, IsNonDecreasingBy}
use Rattle.std.specs.Ordering.{ordering_reverse, ordering_index, is_eq, is_lt, eq_by_cmp}
use Rattle.std.specs.Option.{option_or}
use Rattle.std.proofs.lemmas.Bool.{cases_lt}
use Rattle.cell_refs.proofs.PositionOrder.{and_both, less_from}

reversed_eq : (o : Ordering) → is_eq (ordering_reverse o) ≡ is_eq o
reversed_eq Less = refl
reversed_eq Equal = refl
reversed_eq Greater = refl

index_le : (o : Ordering) → ordering_index o ≤ 2
index_le Less = omega arith
index_le Equal = omega arith
index_le Greater = omega arith

or_found : {X : Type 0} (test : Bool) (v : X) (o p : Option X) →
    option_or (cond test (Some v) o) p ≡ cond test (Some v) (option_or o p)
or_found true v o p = refl
or_found false v o p = refl

module _ {K X : Type 0} (cmp : K → K → Ordering) where
  pub found_in_two : (q : K) (es fs : List (K × X)) →
      find cmp q (es ++ fs) ≡ option_or (find cmp q es) (find cmp q fs)
  found_in_two q [] fs = refl
  found_in_two q (e ∷ es) fs =
      ap (λ o. cond (eq_by_cmp cmp q e.0) (Some e.1) o) (found_in_two q es fs)
      ∙ sym (or_found (eq_by_cmp cmp q e.0) e.1 (find cmp q es) (find cmp q fs))

-- a list searched by the keys of its elements
module _ {E K X : Type 0} (cmp : K → K → Ordering) (total : IsTotalOrder cmp)
    (same : IsAntisymmetric cmp) (entry : E → K × X) where
  turned_eq : (p q : K) → eq_by_cmp cmp q p ≡ is_eq (cmp p q)
  turned_eq p q = ap is_eq (total.antisymm q p) ∙ reversed_eq (cmp p q)

  index_rises : (p r q : K) (o : Ordering) → cmp p r ≡ Less → cmp r q ≡ o →
      ordering_index (cmp p q) ≤ ordering_index o
  index_rises p r q Less before at =
      omega (arith, ap ordering_index (total.trans p r q before at))
  index_rises p r q Equal before at =
      let less : cmp p q ≡ Less = subst (λ s. cmp p s ≡ Less) (same r q at) before in
      omega (arith, ap ordering_index less)
  index_rises p r q Greater before at = index_le (cmp p q)

  behind_first : (p : K) (es : List E) (k : ℕ) (d : E) → below_all cmp p (map entry es) ≡ true →
      k < length es → cmp p (entry (get_or es k d)).0 ≡ Less
  behind_first p [] k d below within = absurd (omega arith)
  behind_first p (e ∷ es) zero d below within =
      less_from _ (and_both (is_lt (cmp p (entry e).0)) (below_all cmp p (map entry es)) below).0
  behind_first p (e ∷ es) (suc k) d below within =
      behind_first p es k d
      (and_both (is_lt (cmp p (entry e).0)) (below_all cmp p (map entry es)) below).1 (omega arith)

  pub rising_at : (es : List E) (i j : ℕ) (d : E) → is_sorted cmp (map entry es) ≡ true → i < j →
      j < length es → cmp (entry (get_or es i d)).0 (entry (get_or es j d)).0 ≡ Less
  rising_at [] i j d sorted before within = absurd (omega arith)
  rising_at (e ∷ es) i zero d sorted before within = absurd (omega arith)
  rising_at (e ∷ es) zero (suc j) d sorted before within =
      behind_first (entry e).0 es j d
      (and_both (below_all cmp (entry e).0 (map entry es)) (is_sorted cmp (map entry es)) sorted).0
      (omega arith)
  rising_at (e ∷ es) (suc i) (suc j) d sorted before within =
      rising_at es i j d
      (and_both (below_all cmp (entry e).0 (map entry es)) (is_sorted cmp (map entry es)) sorted).1
      (omega arith) (omega arith)

  -- the entry with the key is the one that is found
  found_at : (q : K) (es : List E) (k : ℕ) (d : E) → is_sorted cmp (map entry es) ≡ true →
      k < length es → cmp (entry (get_or es k d)).0 q ≡ Equal →
      find cmp q (map entry es) ≡ Some (entry (get_or es k d)).1
  found_at q [] k d sorted within at = absurd (omega arith)
  found_at q (e ∷ es) zero d sorted within at =
      ap (λ t. cond t (Some (entry e).1) (find cmp q (map entry es)))
      (turned_eq (entry e).0 q ∙ ap is_eq at)
  found_at q (e ∷ es) (suc k) d sorted within at =
      let (below, rest) =
      and_both (below_all cmp (entry e).0 (map entry es)) (is_sorted cmp (map entry es)) sorted in
      let before : cmp (entry e).0 (entry (get_or es k d)).0 ≡ Less =
      behind_first (entry e).0 es k d below (omega arith) in
      let here : cmp (entry e).0 q ≡ Less =
      subst (λ p. cmp (entry e).0 p ≡ Less) (same (entry (get_or es k d)).0 q at) before in
      ap (λ t. cond t (Some (entry e).1) (find cmp q (map entry es)))
      (turned_eq (entry e).0 q ∙ ap is_eq here)
      ∙ found_at q es k d rest (omega arith) at

  -- where no entry has the key, none is found
  found_nowhere : (q : K) (es : List E) →
      ((k : ℕ) (d : E) → k < length es → is_eq (cmp (entry (get_or es k d)).0 q) ≡ false) →
      find cmp q (map entry es) ≡ None
  found_nowhere q [] none = refl
  found_nowhere q (e ∷ es) none =
      ap (λ t. cond t (Some (entry e).1) (find cmp q (map entry es)))
      (turned_eq (entry e).0 q ∙ none 0 e (omega arith))
      ∙ found_nowhere q es (λ k d within. none (suc k) d (omega arith))

  comparisons_rise : (q : K) (es : List E) → is_sorted cmp (map entry es) ≡ true →
      IsNonDecreasingBy (λ (e : E). ordering_index (cmp (entry e).0 q)) es
  comparisons_rise q es sorted i j d before within = elim (cases_lt i j) [
    | inl less ↦ index_rises (entry (get_or es i d)).0 (entry (get_or es j d)).0 q _
        (rising_at es i j d sorted less within) refl
    | inr more ↦
        let tied : i ≡ j = omega arith in
        rw tied (omega arith)
  ]

  -- what a binary search says of a key
  pub searched : (q : K) (es : List E) (place : ℕ) (d : E) → is_sorted cmp (map entry es) ≡ true →
      place < length es →
      IsBinarySearchResult (λ (e : E). cmp (entry e).0 q) es (Ok place) →
      find cmp q (map entry es) ≡ Some (entry (get_or es place d)).1
  searched q es place d sorted within at = found_at q es place d sorted within (at d)

  pub not_searched : (q : K) (es : List E) (place : ℕ) → is_sorted cmp (map entry es) ≡ true →
      IsBinarySearchResult (λ (e : E). cmp (entry e).0 q) es (Err place) →
      find cmp q (map entry es) ≡ None
  not_searched q es place sorted parted =
      let (before, behind) = parted (comparisons_rise q es sorted) in
      found_nowhere q es (λ k d within. elim (cases_lt k place) [
        | inl less ↦ ap is_eq (before k d (omega arith) less)
        | inr more ↦ ap is_eq (behind k d more within)
      ])
