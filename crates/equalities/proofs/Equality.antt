-- A comparison of what has parts holds exactly of equal values where those of its parts do.
use Rattle.std.proofs.Common.{◌≡◌, Bool, true, false, ◌&&◌, refl, ap, sym, ◌∙◌, subst, rules, Some}
use Rattle.std.proofs.Common.{None, nat_eq, ◌⊎◌, inl, inr, ⊎_elim, ap₂, [], ◌∷◌, map}
use Rattle.std.specs.Bool.{beq}
use Rattle.std.specs.Cmp.Lexicographic.{pointwise}
use Rattle.std.specs.Option.{option_eq}
use Rattle.equalities.specs.Equality.{IsEquality, IsEqualityBy}

-- what is true and false at once isn't
pub unequal : false ≡ true → ⊥
unequal same = absurd (cc)

both_true : (p q : Bool) → (p && q) ≡ true → (p ≡ true) × (q ≡ true)
both_true true q h = (refl, h)
both_true false q h = absurd (cc)

and_true : (p q : Bool) → p ≡ true → q ≡ true → (p && q) ≡ true
and_true true q first second = second
and_true false q first second = absurd (cc)

-- a comparison of pairs, by both parts
pub of_pairs : {X Y : Type 0} {eq : X → X → Bool} {eq' : Y → Y → Bool} → IsEquality eq
    → IsEquality eq' → IsEquality (λ (a b : X × Y). eq a.0 b.0 && eq' a.1 b.1)
of_pairs {X} {Y} {eq} {eq'} first second a b =
    (forth, λ h. subst (λ (c : X × Y). (eq a.0 c.0 && eq' a.1 c.1) ≡ true) h back)
  where
    forth : (eq a.0 b.0 && eq' a.1 b.1) ≡ true → a ≡ b
    forth h =
        let tests = both_true (eq a.0 b.0) (eq' a.1 b.1) h in
        λ i. ((first a.0 b.0).0 tests.0 i, (second a.1 b.1).0 tests.1 i)

    back : (eq a.0 a.0 && eq' a.1 a.1) ≡ true
    back = λ i. (first a.0 a.0).1 refl i && (second a.1 a.1).1 refl i

-- a comparison of what a value is made from
pub of_image : {X Y : Type 0} {eq : Y → Y → Bool} (f : X → Y) (back : Y → X)
    → ((x : X) → back (f x) ≡ x)
    → IsEquality eq → IsEquality (λ (a b : X). eq (f a) (f b))
of_image f back same whole a b = (
  λ h. sym (same a) ∙ (ap back ((whole (f a) (f b)).0 h) ∙ same b),
  λ h. (whole (f a) (f b)).1 (ap f h),
)

-- a comparison of options
pub of_options : {X : Type 0} {eq : X → X → Bool} → IsEquality eq → IsEquality (option_eq eq)
of_options whole None None = (λ h. refl, λ h. refl)
of_options whole None (Some y) = (λ h. absurd (cc), λ h. absurd (cc))
of_options whole (Some x) None = (λ h. absurd (cc), λ h. absurd (cc))
of_options whole (Some x) (Some y) = (λ h. ap Some ((whole x y).0 h), λ h. (whole x y).1 cc)

pub of_bool : IsEquality beq
of_bool a b = search rules

pub of_number : IsEquality nat_eq
of_number a b = search rules

pub of_text : IsEquality (pointwise nat_eq)
of_text a b = search rules

-- a comparison of one of two kinds of values, which is false of two of different kinds
abbrev pub sum_eq : {X Y : Type 0} → (X → X → Bool) → (Y → Y → Bool) → X ⊎ Y → X ⊎ Y → Bool
sum_eq eq eq' a b =
    ⊎_elim (λ x. ⊎_elim (λ x'. eq x x') (λ _. false) b)
    (λ y. ⊎_elim (λ _. false) (λ y'. eq' y y') b) a

-- what is seen of one of two kinds of values
abbrev pub sum_seen : {X Y V W : Type 0} → (X → V) → (Y → W) → X ⊎ Y → V ⊎ W
sum_seen seen seen' a = ⊎_elim (λ x. inl (seen x)) (λ y. inr (seen' y)) a

pub of_sums : {X Y V W : Type 0} {seen : X → V} {seen' : Y → W} {eq : X → X → Bool}
    {eq' : Y → Y → Bool} → IsEqualityBy seen eq → IsEqualityBy seen' eq'
    → IsEqualityBy (sum_seen seen seen') (sum_eq eq eq')
of_sums first second (inl x) (inl x') =
    (λ h. ap inl ((first x x').0 h), λ h. (first x x').1 (cc))
of_sums first second (inl x) (inr y') = (λ h. absurd (cc), λ h. absurd (cc))
of_sums first second (inr y) (inl x') = (λ h. absurd (cc), λ h. absurd (cc))
of_sums first second (inr y) (inr y') =
    (λ h. ap inr ((second y y').0 h), λ h. (second y y').1 (cc))

-- a comparison of lists, one value after another
pub of_lists : {X V : Type 0} {seen : X → V} {eq : X → X → Bool} → IsEqualityBy seen eq
    → IsEqualityBy (map seen) (pointwise eq)
of_lists whole [] [] = (λ h. refl, λ h. refl)
of_lists whole [] (y ∷ ys) = (λ h. absurd (cc), λ h. absurd (cc))
of_lists whole (x ∷ xs) [] = (λ h. absurd (cc), λ h. absurd (cc))
of_lists {X} {V} {seen} {eq} whole (x ∷ xs) (y ∷ ys) =
    let rest = of_lists whole xs ys in (
      λ h.
          let tests = both_true (eq x y) (pointwise eq xs ys) h in
          ap₂ (λ first more. first ∷ more) ((whole x y).0 tests.0) (rest.0 tests.1),
      λ h. and_true (eq x y) (pointwise eq xs ys) ((whole x y).1 (cc)) (rest.1 (cc)),
    )

-- what is seen of both parts of a pair
abbrev pub pair_seen : {X Y V W : Type 0} → (X → V) → (Y → W) → X × Y → V × W
pair_seen seen seen' a = (seen a.0, seen' a.1)

pub of_seen_pairs : {X Y V W : Type 0} {seen : X → V} {seen' : Y → W} {eq : X → X → Bool}
    {eq' : Y → Y → Bool} → IsEqualityBy seen eq → IsEqualityBy seen' eq'
    → IsEqualityBy (pair_seen seen seen') (λ a b. eq a.0 b.0 && eq' a.1 b.1)
of_seen_pairs {X} {Y} {V} {W} {seen} {seen'} {eq} {eq'} first second a b = (
  λ h.
      let tests = both_true (eq a.0 b.0) (eq' a.1 b.1) h in
      λ i. ((first a.0 b.0).0 tests.0 i, (second a.1 b.1).0 tests.1 i),
  λ h. and_true (eq a.0 b.0) (eq' a.1 b.1) ((first a.0 b.0).1 (ap (λ p. p.0) h))
      ((second a.1 b.1).1 (ap (λ p. p.1) h)),
)
