-- Elements that pass tests.
use Rattle.std.proofs.Common.{◌≡◌, ℕ, zero, suc, ◌<◌, ◌≤◌, Bool, true, false, cond, List, [], ◌∷◌}
use Rattle.std.proofs.Common.{length, take, drop, get_or, refl, ap, ◌∙◌, arith}
use Rattle.std.specs.Prelude.{◌&&◌}
use Rattle.std.specs.List.{filter}

module _ {A : Type 0} where
  -- elements that pass one test and then another pass both
  pub filter_both : (p q r : A → Bool) → ((x : A) → (p x && q x) ≡ r x) → (xs : List A) →
      filter p (filter q xs) ≡ filter r xs
  filter_both p q r same [] = refl
  filter_both p q r same (x ∷ xs) =
      by (p x) (q x) refl (filter_both p q r same xs)
      ∙ ap (λ (t : Bool). cond t (x ∷ filter r xs) (filter r xs)) (same x)
    where
      by : (t u : Bool) → p x ≡ t → filter p (filter q xs) ≡ filter r xs →
          filter p (cond u (x ∷ filter q xs) (filter q xs))
          ≡ cond (t && u) (x ∷ filter r xs) (filter r xs)
      by true true first rest =
          ap (λ (t : Bool). cond t (x ∷ filter p (filter q xs)) (filter p (filter q xs))) first
          ∙ ap (λ (ys : List A). x ∷ ys) rest
      by false true first rest =
          ap (λ (t : Bool). cond t (x ∷ filter p (filter q xs)) (filter p (filter q xs))) first
          ∙ rest
      by true false first rest = rest
      by false false first rest = rest

  module _ (p : A → Bool) where
    keep : (x : A) (xs : List A) → p x ≡ true → filter p (x ∷ xs) ≡ x ∷ filter p xs
    keep x xs passes = ap (λ (t : Bool). cond t (x ∷ filter p xs) (filter p xs)) passes

    leave : (x : A) (xs : List A) → p x ≡ false → filter p (x ∷ xs) ≡ filter p xs
    leave x xs fails = ap (λ (t : Bool). cond t (x ∷ filter p xs) (filter p xs)) fails

    -- elements that pass up to a place, and none from there on
    pub filter_front : (xs : List A) (k : ℕ) →
        ((i : ℕ) (d : A) → i < length xs → i < k → p (get_or xs i d) ≡ true) →
        ((i : ℕ) (d : A) → i < length xs → k ≤ i → p (get_or xs i d) ≡ false) →
        filter p xs ≡ take k xs
    filter_front [] zero pass fail = refl
    filter_front [] (suc k) pass fail = refl
    filter_front (x ∷ xs) zero pass fail =
        leave x xs (fail 0 x (omega arith) (omega arith))
        ∙ filter_front xs zero (λ i d within below. absurd (omega arith))
        (λ i d within behind. fail (suc i) d (omega arith) (omega arith))
    filter_front (x ∷ xs) (suc k) pass fail =
        keep x xs (pass 0 x (omega arith) (omega arith))
        ∙ ap (λ (ys : List A). x ∷ ys)
        (filter_front xs k (λ i d within below. pass (suc i) d (omega arith) (omega arith))
        (λ i d within behind. fail (suc i) d (omega arith) (omega arith)))

    -- elements of which none passes up to a place, and all from there on
    pub filter_back : (xs : List A) (k : ℕ) →
        ((i : ℕ) (d : A) → i < length xs → i < k → p (get_or xs i d) ≡ false) →
        ((i : ℕ) (d : A) → i < length xs → k ≤ i → p (get_or xs i d) ≡ true) →
        filter p xs ≡ drop k xs
    filter_back [] zero fail pass = refl
    filter_back [] (suc k) fail pass = refl
    filter_back (x ∷ xs) zero fail pass =
        keep x xs (pass 0 x (omega arith) (omega arith))
        ∙ ap (λ (ys : List A). x ∷ ys)
        (filter_back xs zero (λ i d within below. absurd (omega arith))
        (λ i d within behind. pass (suc i) d (omega arith) (omega arith)))
    filter_back (x ∷ xs) (suc k) fail pass =
        leave x xs (fail 0 x (omega arith) (omega arith))
        ∙ filter_back xs k (λ i d within below. fail (suc i) d (omega arith) (omega arith))
        (λ i d within behind. pass (suc i) d (omega arith) (omega arith))
