-- What is among numbers: those of joined lists, of a filter, of a range.
use Rattle.std.proofs.Common.{◌≡◌, ◌∙◌, ◌⊎◌, inl, inr, ℕ, zero, suc, ◌+◌, ◌<◌, ◌≤◌, ◌==◌, ◌&&◌}
use Rattle.std.proofs.Common.{Bool, true, false, List, [], ◌∷◌, ◌++◌, cond, refl, sym, ap, subst}
use Rattle.std.proofs.Common.{arith, ◌-◌, filter, flat_map, map, Some, true≢false}
use Rattle.std.specs.List.{list_all, list_any, range_with_len}
use Rattle.std.proofs.lemmas.Bool.{or_cases, or_left, or_right, and_parts, and_from, and_cases}
use Rattle.std.proofs.lemmas.Bool.{eqb-true, eqb-false, eq-eqb, false≢true, cases_Bool, cond_both}
use Rattle.std.proofs.lemmas.List.{map-append}
use Rattle.std.proofs.lemmas.List.Folds.{list_any-append}
use Rattle.calculation_order.specs.Edges.{first_of, is_number_of, numbers_below, with_number}
use Rattle.calculation_order.specs.Edges.{with_numbers}

-- tests that pass together are the same
pub same_tests : (a b : Bool) → (a ≡ true → b ≡ true) → (b ≡ true → a ≡ true) → a ≡ b
same_tests true b one other = sym (one refl)
same_tests false true one other = other refl
same_tests false false one other = refl

pub both_false : (a b : Bool) → b ≡ false → (a && b) ≡ false
both_false true b e = e
both_false false b e = refl

pub in_cons : (m : ℕ) (ms : List ℕ) (n : ℕ) → is_number_of (m ∷ ms) n ≡ true
    → (m ≡ n) ⊎ (is_number_of ms n ≡ true)
in_cons m ms n is =
    elim (or_cases _ _ is) [ inl e ↦ inl (eqb-true m n e) | inr e ↦ inr e ]

pub in_head : (n : ℕ) (ns : List ℕ) → is_number_of (n ∷ ns) n ≡ true
in_head n ns = or_left _ _ (eq-eqb n n refl)

pub in_tail : (m : ℕ) (ms : List ℕ) (n : ℕ) → is_number_of ms n ≡ true
    → is_number_of (m ∷ ms) n ≡ true
in_tail m ms n is = or_right _ _ is

-- ---- joined lists

pub in_left : (xs ys : List ℕ) (n : ℕ) → is_number_of xs n ≡ true
    → is_number_of (xs ++ ys) n ≡ true
in_left xs ys n is = list_any-append _ xs ys ∙ or_left _ _ is

pub in_right : (xs ys : List ℕ) (n : ℕ) → is_number_of ys n ≡ true
    → is_number_of (xs ++ ys) n ≡ true
in_right xs ys n is = list_any-append _ xs ys ∙ or_right _ _ is

pub in_either : (xs ys : List ℕ) (n : ℕ) → is_number_of (xs ++ ys) n ≡ true
    → (is_number_of xs n ≡ true) ⊎ (is_number_of ys n ≡ true)
in_either xs ys n is = or_cases _ _ (sym (list_any-append _ xs ys) ∙ is)

-- ---- tests of each

pub all_at : (p : ℕ → Bool) (ns : List ℕ) → list_all p ns ≡ true → (n : ℕ)
    → is_number_of ns n ≡ true → p n ≡ true
all_at p [] all n is = absurd (false≢true is)
all_at p (m ∷ ms) all n is =
    let parts = and_parts (p m) (list_all p ms) all in
    elim (in_cons m ms n is) [
      | inl e ↦ subst (λ (k : ℕ). p k ≡ true) e parts.0
      | inr e ↦ all_at p ms parts.1 n e
    ]

pub all_from : (p : ℕ → Bool) (ns : List ℕ)
    → ((n : ℕ) → is_number_of ns n ≡ true → p n ≡ true) → list_all p ns ≡ true
all_from p [] each = refl
all_from p (m ∷ ms) each =
    and_from _ _ (each m (in_head m ms)) (all_from p ms (λ n is. each n (in_tail m ms n is)))

-- one of those that don't all pass
pub fails_at : (p : ℕ → Bool) (ns : List ℕ) → list_all p ns ≡ false
    → (n : ℕ) × (is_number_of ns n ≡ true) × (p n ≡ false)
fails_at p [] some = absurd (true≢false some)
fails_at p (m ∷ ms) some =
    elim (and_cases (p m) (list_all p ms) some) [
      | inl e ↦ (m, in_head m ms, e)
      | inr e ↦ (let rest = fails_at p ms e in (rest.0, in_tail m ms rest.0 rest.1, rest.2))
    ]

pub any_at : (p : ℕ → Bool) (ns : List ℕ) (n : ℕ) → is_number_of ns n ≡ true → p n ≡ true
    → list_any p ns ≡ true
any_at p [] n is passes = absurd (false≢true is)
any_at p (m ∷ ms) n is passes =
    elim (in_cons m ms n is) [
      | inl e ↦ or_left _ _ (subst (λ (k : ℕ). p k ≡ true) (sym e) passes)
      | inr e ↦ or_right _ _ (any_at p ms n e passes)
    ]

pub any_from : (p : ℕ → Bool) (ns : List ℕ) → list_any p ns ≡ true
    → (n : ℕ) × (is_number_of ns n ≡ true) × (p n ≡ true)
any_from p [] some = absurd (false≢true some)
any_from p (m ∷ ms) some =
    elim (or_cases (p m) (list_any p ms) some) [
      | inl e ↦ (m, in_head m ms, e)
      | inr e ↦ (let rest = any_from p ms e in (rest.0, in_tail m ms rest.0 rest.1, rest.2))
    ]

-- ---- a filter

filter_step : (b : Bool) (m : ℕ) (ms : List ℕ) (n : ℕ) → is_number_of ms n ≡ true
    → is_number_of (cond b (m ∷ ms) ms) n ≡ true
filter_step true m ms n is = in_tail m ms n is
filter_step false m ms n is = is

pub in_filter : (p : ℕ → Bool) (ns : List ℕ) (n : ℕ) → is_number_of ns n ≡ true → p n ≡ true
    → is_number_of (filter p ns) n ≡ true
in_filter p [] n is passes = absurd (false≢true is)
in_filter p (m ∷ ms) n is passes =
    elim (in_cons m ms n is) [
      | inl e ↦ subst (λ (b : Bool). is_number_of (cond b (m ∷ filter p ms) (filter p ms)) n ≡ true)
          (sym (ap p e ∙ passes))
          (subst (λ (k : ℕ). is_number_of (m ∷ filter p ms) k ≡ true) e (in_head m (filter p ms)))
      | inr e ↦ filter_step (p m) m (filter p ms) n (in_filter p ms n e passes)
    ]

pub of_filter : (p : ℕ → Bool) (ns : List ℕ) (n : ℕ) → is_number_of (filter p ns) n ≡ true
    → (is_number_of ns n ≡ true) × (p n ≡ true)
of_filter p [] n is = absurd (false≢true is)
of_filter p (m ∷ ms) n is =
    cond_both (p m) (m ∷ filter p ms) (filter p ms)
    (λ (l : List ℕ). is_number_of l n ≡ true
    → (is_number_of (m ∷ ms) n ≡ true) × (p n ≡ true))
    (λ passes own. elim (in_cons m (filter p ms) n own) [
      | inl e ↦ (
        subst (λ (k : ℕ). is_number_of (m ∷ ms) k ≡ true) e (in_head m ms),
        subst (λ (k : ℕ). p k ≡ true) e passes,
      )
      | inr e ↦ (let rest = of_filter p ms n e in (in_tail m ms n rest.0, rest.1))
    ])
    (λ fails own. let rest = of_filter p ms n own in (in_tail m ms n rest.0, rest.1)) is

-- tests that are the same of each keep the same
pub filter_same : (p q : ℕ → Bool) (ns : List ℕ)
    → ((n : ℕ) → is_number_of ns n ≡ true → p n ≡ q n) → filter p ns ≡ filter q ns
filter_same p q [] same = refl
filter_same p q (n ∷ ns) same =
    ap (λ (b : Bool). cond b (n ∷ filter p ns) (filter p ns)) (same n (in_head n ns))
    ∙ ap (λ (l : List ℕ). cond (q n) (n ∷ l) l)
    (filter_same p q ns (λ m is. same m (in_tail n ns m is)))

-- a test that none passes keeps none
pub filter_none : (p : ℕ → Bool) (ns : List ℕ)
    → ((n : ℕ) → is_number_of ns n ≡ true → p n ≡ false) → filter p ns ≡ []
filter_none p [] fails = refl
filter_none p (n ∷ ns) fails =
    ap (λ (b : Bool). cond b (n ∷ filter p ns) (filter p ns)) (fails n (in_head n ns))
    ∙ filter_none p ns (λ m is. fails m (in_tail n ns m is))

-- ---- a range

in_range : (a len n : ℕ) → a ≤ n → n < a + len → is_number_of (range_with_len a len) n ≡ true
in_range a zero n from below = absurd (omega arith)
in_range a (suc len) n from below =
    elim (cases_Bool (a == n)) [
      | inl e ↦ or_left _ _ e
      | inr e ↦ or_right _ _ (in_range (a + 1) len n
          (let other = eqb-false a n e in omega arith) (omega arith))
    ]

pub of_range : (a len n : ℕ) → is_number_of (range_with_len a len) n ≡ true
    → (a ≤ n) × (n < a + len)
of_range a zero n is = absurd (false≢true is)
of_range a (suc len) n is =
    elim (in_cons a (range_with_len (a + 1) len) n is) [
      | inl e ↦ (omega arith, omega arith)
      | inr e ↦ (let rest = of_range (a + 1) len n e in (omega arith, omega arith))
    ]

pub in_below : (count n : ℕ) → n < count → is_number_of (numbers_below count) n ≡ true
in_below count n below = in_range 0 count n (omega arith) (omega arith)

pub of_below : (count n : ℕ) → is_number_of (numbers_below count) n ≡ true → n < count
of_below count n is = let found = of_range 0 count n is in omega arith

-- one number more stands at the end
range_more : (a len : ℕ) → range_with_len a (suc len) ≡ range_with_len a len ++ (a + len) ∷ []
range_more a zero =
    let here : a ≡ a + 0 = omega arith in ap (λ (n : ℕ). n ∷ []) here
range_more a (suc len) =
    let later : a + 1 + len ≡ a + suc len = omega arith in
    ap (λ (ns : List ℕ). a ∷ ns) (range_more (a + 1) len
    ∙ ap (λ (n : ℕ). range_with_len (a + 1) len ++ n ∷ []) later)

pub below_more : (count : ℕ) → numbers_below (count + 1) ≡ numbers_below count ++ count ∷ []
below_more count =
    let next : count + 1 ≡ suc count = omega arith in
    let last : 0 + count ≡ count = omega arith in
    ap numbers_below next ∙ range_more 0 count
    ∙ ap (λ (n : ℕ). numbers_below count ++ n ∷ []) last

pub map_below_more : {X : Type 0} (f : ℕ → X) (count : ℕ)
    → map f (numbers_below (count + 1)) ≡ map f (numbers_below count) ++ f count ∷ []
map_below_more f count =
    ap (map f) (below_more count) ∙ map-append f (numbers_below count) (count ∷ [])

-- what is the same of each is the same of all
pub map_same : {X : Type 0} (f g : ℕ → X) (ns : List ℕ)
    → ((n : ℕ) → is_number_of ns n ≡ true → f n ≡ g n) → map f ns ≡ map g ns
map_same f g [] same = refl
map_same f g (n ∷ ns) same =
    ap (λ x. x ∷ map f ns) (same n (in_head n ns))
    ∙ ap (λ l. g n ∷ l) (map_same f g ns (λ m is. same m (in_tail n ns m is)))

-- ---- the first that passes

first_by : (b : Bool) (n : ℕ) (ns : List ℕ)
    → first_of (cond b (n ∷ ns) ns) ≡ cond b (Some n) (first_of ns)
first_by true n ns = refl
first_by false n ns = refl

-- from one number on it is that number, or it is the first behind it
pub first_step : (p : ℕ → Bool) (start most : ℕ) → start < most
    → first_of (filter p (range_with_len start (most - start)))
    ≡ cond (p start) (Some start)
    (first_of (filter p (range_with_len (start + 1) (most - (start + 1)))))
first_step p start most below =
    let more : most - start ≡ suc (most - (start + 1)) = omega arith in
    ap (λ (n : ℕ). first_of (filter p (range_with_len start n))) more
    ∙ first_by (p start) start (filter p (range_with_len (start + 1) (most - (start + 1))))

-- ---- lists end to end

pub in_flat_map : (f : ℕ → List ℕ) (ms : List ℕ) (m n : ℕ) → is_number_of ms m ≡ true
    → is_number_of (f m) n ≡ true → is_number_of (flat_map f ms) n ≡ true
in_flat_map f [] m n is own = absurd (false≢true is)
in_flat_map f (k ∷ ks) m n is own =
    elim (in_cons k ks m is) [
      | inl e ↦ in_left (f k) (flat_map f ks) n
          (subst (λ (j : ℕ). is_number_of (f j) n ≡ true) (sym e) own)
      | inr e ↦ in_right (f k) (flat_map f ks) n (in_flat_map f ks m n e own)
    ]

pub of_flat_map : (f : ℕ → List ℕ) (ms : List ℕ) (n : ℕ)
    → is_number_of (flat_map f ms) n ≡ true
    → (m : ℕ) × (is_number_of ms m ≡ true) × (is_number_of (f m) n ≡ true)
of_flat_map f [] n is = absurd (false≢true is)
of_flat_map f (k ∷ ks) n is =
    elim (in_either (f k) (flat_map f ks) n is) [
      | inl e ↦ (k, in_head k ks, e)
      | inr e ↦ (let rest = of_flat_map f ks n e in (rest.0, in_tail k ks rest.0 rest.1, rest.2))
    ]

-- ---- numbers among others, each once

pub in_with_number : (ns : List ℕ) (m n : ℕ) → is_number_of ns n ≡ true
    → is_number_of (with_number ns m) n ≡ true
in_with_number ns m n is =
    cond_both (is_number_of ns m) ns (ns ++ m ∷ []) (λ (l : List ℕ). is_number_of l n ≡ true)
    (λ e. is) (λ e. in_left ns (m ∷ []) n is)

pub new_with_number : (ns : List ℕ) (m : ℕ) → is_number_of (with_number ns m) m ≡ true
new_with_number ns m =
    cond_both (is_number_of ns m) ns (ns ++ m ∷ []) (λ (l : List ℕ). is_number_of l m ≡ true)
    (λ e. e) (λ e. in_right ns (m ∷ []) m (in_head m []))

pub of_with_number : (ns : List ℕ) (m n : ℕ) → is_number_of (with_number ns m) n ≡ true
    → (is_number_of ns n ≡ true) ⊎ (m ≡ n)
of_with_number ns m n =
    cond_both (is_number_of ns m) ns (ns ++ m ∷ [])
    (λ (l : List ℕ). is_number_of l n ≡ true → (is_number_of ns n ≡ true) ⊎ (m ≡ n))
    (λ e is. inl is)
    (λ e is. elim (in_either ns (m ∷ []) n is) [
      | inl old ↦ inl old
      | inr new ↦ elim (in_cons m [] n new) [
        | inl same ↦ inr same
        | inr none ↦ absurd (false≢true none)
      ]
    ])

pub in_with_numbers : (ns ms : List ℕ) (n : ℕ) → is_number_of ns n ≡ true
    → is_number_of (with_numbers ns ms) n ≡ true
in_with_numbers ns [] n is = is
in_with_numbers ns (m ∷ ms) n is =
    in_with_numbers (with_number ns m) ms n (in_with_number ns m n is)

pub new_with_numbers : (ns ms : List ℕ) (n : ℕ) → is_number_of ms n ≡ true
    → is_number_of (with_numbers ns ms) n ≡ true
new_with_numbers ns [] n is = absurd (false≢true is)
new_with_numbers ns (m ∷ ms) n is =
    elim (in_cons m ms n is) [
      | inl e ↦ in_with_numbers (with_number ns m) ms n
          (subst (λ (k : ℕ). is_number_of (with_number ns m) k ≡ true) e (new_with_number ns m))
      | inr e ↦ new_with_numbers (with_number ns m) ms n e
    ]

pub of_with_numbers : (ns ms : List ℕ) (n : ℕ) → is_number_of (with_numbers ns ms) n ≡ true
    → (is_number_of ns n ≡ true) ⊎ (is_number_of ms n ≡ true)
of_with_numbers ns [] n is = inl is
of_with_numbers ns (m ∷ ms) n is =
    elim (of_with_numbers (with_number ns m) ms n is) [
      | inl e ↦ elim (of_with_number ns m n e) [
        | inl old ↦ inl old
        | inr same ↦ inr (subst (λ (k : ℕ). is_number_of (m ∷ ms) k ≡ true) same (in_head m ms))
      ]
      | inr e ↦ inr (in_tail m ms n e)
    ]

-- numbers behind others are added behind them
pub with_both : (ns firsts lasts : List ℕ)
    → with_numbers ns (firsts ++ lasts) ≡ with_numbers (with_numbers ns firsts) lasts
with_both ns [] lasts = refl
with_both ns (m ∷ ms) lasts = with_both (with_number ns m) ms lasts

-- numbers that are there already change nothing
pub same_with_numbers : (ns ms : List ℕ)
    → ((n : ℕ) → is_number_of ms n ≡ true → is_number_of ns n ≡ true) → with_numbers ns ms ≡ ns
same_with_numbers ns [] there = refl
same_with_numbers ns (m ∷ ms) there =
    let kept : with_number ns m ≡ ns = ap (λ (b : Bool). cond b ns (ns ++ m ∷ []))
    (there m (in_head m ms)) in
    ap (λ (l : List ℕ). with_numbers l ms) kept
    ∙ same_with_numbers ns ms (λ n is. there n (in_tail m ms n is))
