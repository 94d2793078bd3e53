-- Entries in the order of their keys.
use Rattle.std.proofs.Common.{◌≡◌, Bool, true, ◌&&◌, List, [], ◌∷◌, ◌++◌, Some, refl, ap, ◌∙◌}
use Rattle.std.specs.declared.cmp.Ordering.{Ordering}
use Rattle.std.specs.declared.cmp.Ordering.TheVariants.{Less}
use Rattle.std.specs.Cmp.{IsTotalOrder}
use Rattle.std.specs.FinMap.{is_sorted}
use Rattle.std.specs.FinMap.Entries.{below_all}
use Rattle.std.specs.Ordering.{is_lt}
use Rattle.cell_refs.proofs.PositionOrder.{and_both, and_from, less_from}
use Rattle.sorted_cells.specs.Last.{last_key, comes_after}

module _ {K X : Type 0} where
  -- the last entry
  pub last_push : (es : List (K × X)) (e : K × X) → last_key (es ++ e ∷ []) ≡ Some e.0
  last_push [] e = refl
  last_push (first ∷ []) e = refl
  last_push (first ∷ next ∷ es) e = last_push (next ∷ es) e

  pub last_append : (es fs : List (K × X)) (k : K) → last_key fs ≡ Some k →
      last_key (es ++ fs) ≡ Some k
  last_append [] fs k last = last
  last_append (e ∷ []) [] k last = absurd (cc)
  last_append (e ∷ []) (f ∷ fs) k last = last
  last_append (e ∷ next ∷ es) fs k last = last_append (next ∷ es) fs k last

  module _ (cmp : K → K → Ordering) (total : IsTotalOrder cmp) where
    below_push : (x : K) (e : K × X) (es : List (K × X)) (k : K) (v : X) →
        below_all cmp x (e ∷ es) ≡ true → comes_after cmp (last_key (e ∷ es)) k ≡ true →
        below_all cmp x (e ∷ es ++ (k, v) ∷ []) ≡ true
    below_push x e [] k v below after =
        let less = and_both (is_lt (cmp x e.0)) true below in
        let further : cmp x k ≡ Less =
        total.trans x e.0 k (less_from _ less.0) (less_from _ after) in
        and_from (is_lt (cmp x e.0)) (is_lt (cmp x k) && true) less.0
        (and_from (is_lt (cmp x k)) true (ap is_lt further) refl)
    below_push x e (f ∷ es) k v below after =
        let less = and_both (is_lt (cmp x e.0)) (below_all cmp x (f ∷ es)) below in
        and_from (is_lt (cmp x e.0)) (below_all cmp x (f ∷ es ++ (k, v) ∷ [])) less.0
        (below_push x f es k v less.1 after)

    -- one entry more, behind the others
    pub sorted_push : (es : List (K × X)) (k : K) (v : X) → is_sorted cmp es ≡ true →
        comes_after cmp (last_key es) k ≡ true → is_sorted cmp (es ++ (k, v) ∷ []) ≡ true
    sorted_push [] k v sorted after = refl
    sorted_push (e ∷ []) k v sorted after =
        and_from (is_lt (cmp e.0 k) && true) true (and_from (is_lt (cmp e.0 k)) true after refl)
        refl
    sorted_push (e ∷ f ∷ es) k v sorted after =
        let parts = and_both (below_all cmp e.0 (f ∷ es)) (is_sorted cmp (f ∷ es)) sorted in
        and_from (below_all cmp e.0 (f ∷ es ++ (k, v) ∷ []))
        (is_sorted cmp (f ∷ es ++ (k, v) ∷ [])) (below_push e.0 f es k v parts.0 after)
        (sorted_push (f ∷ es) k v parts.1 after)

-- in order, an entry comes after those before it
pub after_sorted : {K X : Type 0} (cmp : K → K → Ordering) (es : List (K × X)) (e : K × X)
    (fs : List (K × X)) → is_sorted cmp (es ++ e ∷ fs) ≡ true →
    comes_after cmp (last_key es) e.0 ≡ true
after_sorted cmp [] e fs sorted = refl
after_sorted cmp (d ∷ []) e fs sorted =
    (and_both (is_lt (cmp d.0 e.0)) (below_all cmp d.0 fs)
    (and_both (below_all cmp d.0 (e ∷ fs)) (is_sorted cmp (e ∷ fs)) sorted).0).0
after_sorted cmp (d ∷ next ∷ es) e fs sorted =
    after_sorted cmp (next ∷ es) e fs
    (and_both (below_all cmp d.0 (next ∷ es ++ e ∷ fs)) (is_sorted cmp (next ∷ es ++ e ∷ fs))
    sorted).1

pub sorted_parts : {K X : Type 0} (cmp : K → K → Ordering) (es fs : List (K × X)) →
    is_sorted cmp (es ++ fs) ≡ true → (is_sorted cmp es ≡ true) × (is_sorted cmp fs ≡ true)
sorted_parts cmp [] fs sorted = (refl, sorted)
sorted_parts {K} {X} cmp (e ∷ es) fs sorted =
    let (below, rest) = and_both (below_all cmp e.0 (es ++ fs)) (is_sorted cmp (es ++ fs)) sorted in
    let (front, back) = sorted_parts cmp es fs rest in
    (ap (λ (t : Bool). t && is_sorted cmp es) (below_front e.0 es fs below) ∙ front, back)
  where
    below_front : (x : K) (es fs : List (K × X)) → below_all cmp x (es ++ fs) ≡ true →
        below_all cmp x es ≡ true
    below_front x [] fs below = refl
    below_front x (e ∷ es) fs below =
        let (first, rest) = and_both (is_lt (cmp x e.0)) (below_all cmp x (es ++ fs)) below in
        ap (λ (t : Bool). t && below_all cmp x es) first ∙ below_front x es fs rest
