-- Steps of which each adds something, or changes nothing: after so many, nothing changes any more.
use Rattle.std.proofs.Common.{◌≡◌, ◌∙◌, ◌⊎◌, inl, inr, ℕ, zero, suc, ◌+◌, ◌<◌, ◌≤◌, Bool, true}
use Rattle.std.proofs.Common.{false, List, [], ◌∷◌, cond, refl, sym, ap, subst, arith, count_by}
use Rattle.std.proofs.lemmas.Bool.{false≢true}
use Rattle.std.proofs.lemmas.List.FromFn.{length-range_with_len}
use Rattle.std.proofs.lemmas.List.Sums.{count_by-le-length, sum_by-cons, sum_by-le-sum_by}
use Rattle.calculation_order.specs.Edges.{is_number_of, numbers_below}
use Rattle.calculation_order.proofs.Members.{in_cons}

-- so many steps
abbrev pub stepped : (List ℕ → List ℕ) → ℕ → List ℕ → List ℕ
stepped step zero ns = ns
stepped step (suc turns) ns = stepped step turns (step ns)

module _ (step : List ℕ → List ℕ) (size : List ℕ → ℕ) (most : ℕ)
    (bound : (ns : List ℕ) → size ns ≤ most)
    (grows : (ns : List ℕ) → (step ns ≡ ns) ⊎ (size ns < size (step ns))) where
  stays : (turns : ℕ) (ns : List ℕ) → step ns ≡ ns → stepped step turns ns ≡ ns
  stays zero ns same = refl
  stays (suc turns) ns same = ap (stepped step turns) same ∙ stays turns ns same

  pub settles : (turns : ℕ) (ns : List ℕ) → most ≤ turns + size ns
      → step (stepped step turns ns) ≡ stepped step turns ns
  settles zero ns enough =
      elim (grows ns) [ inl e ↦ e | inr e ↦ absurd (omega (arith, bound (step ns))) ]
  settles (suc turns) ns enough =
      elim (grows ns) [
        | inl e ↦ (let same = stays (suc turns) ns e in ap step same ∙ e ∙ sym same)
        | inr e ↦ settles turns (step ns) (omega arith)
      ]

-- ---- the size of numbers: how many below one are among them

-- how many numbers below this are among these
abbrev pub size_below : ℕ → List ℕ → ℕ
size_below most ns = count_by (is_number_of ns) (numbers_below most)

pub size_bound : (most : ℕ) (ns : List ℕ) → size_below most ns ≤ most
size_bound most ns =
    subst (λ (n : ℕ). size_below most ns ≤ n) (length-range_with_len 0 most)
    (count_by-le-length (is_number_of ns) (numbers_below most))

-- what a test adds to a count
abbrev pub one_if : Bool → ℕ
one_if b = cond b 1 0

one_le : (a b : Bool) → (a ≡ true → b ≡ true) → one_if a ≤ one_if b
one_le false b more = omega arith
one_le true b more = subst (λ (c : Bool). 1 ≤ one_if c) (sym (more refl)) (omega arith)

-- of numbers that pass more tests there are more, where one passes that didn't
count_lt : (p q : ℕ → Bool) → ((n : ℕ) → p n ≡ true → q n ≡ true) → (ns : List ℕ) (n : ℕ)
    → is_number_of ns n ≡ true → p n ≡ false → q n ≡ true → count_by p ns < count_by q ns
count_lt p q more [] n is fails passes = absurd (false≢true is)
count_lt p q more (m ∷ ms) n is fails passes =
    let own : one_if (p m) ≤ one_if (q m) = one_le (p m) (q m) (more m) in
    let others : count_by p ms ≤ count_by q ms = sum_by-le-sum_by (λ (k : ℕ). one_if (p k))
    (λ k. one_if (q k)) ms (λ k. one_le (p k) (q k) (more k)) in
    let first : count_by p (m ∷ ms) ≡ one_if (p m) + count_by p ms =
    sum_by-cons (λ (k : ℕ). one_if (p k)) m ms in
    let second : count_by q (m ∷ ms) ≡ one_if (q m) + count_by q ms =
    sum_by-cons (λ (k : ℕ). one_if (q k)) m ms in
    elim (in_cons m ms n is) [
      | inl e ↦
          (let none : one_if (p m) ≡ 0 = ap one_if (ap p e ∙ fails) in
          let one : one_if (q m) ≡ 1 = ap one_if (ap q e ∙ passes) in
          omega arith)
      | inr e ↦ (let rest : count_by p ms < count_by q ms = count_lt p q more ms n e fails passes in
          omega arith)
    ]

-- with one more number below the most there are more
pub size_grows : (most : ℕ) (ns ms : List ℕ)
    → ((n : ℕ) → is_number_of ns n ≡ true → is_number_of ms n ≡ true) → (n : ℕ)
    → is_number_of (numbers_below most) n ≡ true → is_number_of ns n ≡ false
    → is_number_of ms n ≡ true → size_below most ns < size_below most ms
size_grows most ns ms more n below fails passes =
    count_lt (is_number_of ns) (is_number_of ms) more (numbers_below most) n below fails passes
