-- Numbers in order are told by how often each of them stands there.
use Rattle.std.proofs.Common.{◌≡◌, ℕ, suc, ◌+◌, ◌≤◌, ◌<◌, Bool, true, false, cond, List, [], ◌∷◌}
use Rattle.std.proofs.Common.{length, map, refl, sym, ap, ◌∙◌, arith, inl, inr, ◌⊎◌, get_or}
use Rattle.std.specs.Prelude.{◌==◌, nat_lt, filter}
use Rattle.std.specs.List.{sum_by}
use Rattle.std.specs.List.Sorted.{IsNonDecreasingBy, IsPermutation}
use Rattle.std.proofs.lemmas.Bool.Decides.{nat_tests}
use Rattle.std.proofs.lemmas.List.Sums.{sum_by-cons}
use Rattle.std.proofs.lemmas.List.Sorted.{sum_by-IsPermutation}
use Rattle.cell_refs.specs.Words.{is_in_area}
use Rattle.cell_refs.specs.declared.dimensions.Dimensions.{Dimensions}
use Rattle.xlsx_precedents.specs.Numbers.{numbers_where}
use Rattle.xlsx_precedents.specs.Spans.{Numbered, numbered_from, numbers_having}

-- ---- numbers that don't fall

-- no number is less than this one
abbrev AtLeast : ℕ → List ℕ → Type 0
AtLeast least [] = Unit {0}
AtLeast least (n ∷ ns) = (least ≤ n) × AtLeast least ns

-- no number is less than one before it
abbrev Rise : List ℕ → Type 0
Rise [] = Unit {0}
Rise (n ∷ ns) = AtLeast n ns × Rise ns

at_least_from : (least : ℕ) (ns : List ℕ) →
    ((j : ℕ) → j < length ns → least ≤ get_or ns j 0) → AtLeast least ns
at_least_from least [] each = tt
at_least_from least (n ∷ ns) each =
    (each 0 (omega arith), at_least_from least ns (λ j below. each (suc j) (omega (arith, below))))

rise_from : (ns : List ℕ) → IsNonDecreasingBy (λ n. n) ns → Rise ns
rise_from [] rising = tt
rise_from (n ∷ ns) rising = (
  at_least_from n ns (λ j below. rising 0 (suc j) 0 (omega arith) (omega (arith, below))),
  rise_from ns (λ i j d order below.
      rising (suc i) (suc j) d (omega (arith, order)) (omega (arith, below))),
)

-- ---- how often a number stands there

-- one where the numbers are the same
abbrev one_if : ℕ → ℕ → ℕ
one_if m n = cond (n == m) 1 0

abbrev times : ℕ → List ℕ → ℕ
times m ns = sum_by (one_if m) ns

times_first : (n : ℕ) (ns : List ℕ) → 1 ≤ times n (n ∷ ns)
times_first n ns =
    let same : (n == n) ≡ true = grind (arith, nat_tests) in
    let one : one_if n n ≡ 1 = ap (λ t. cond t 1 0) same in
    omega (arith, one, sum_by-cons (one_if n) n ns)

times_below : (m least : ℕ) (ns : List ℕ) → AtLeast least ns → m < least → times m ns ≡ 0
times_below m least [] all below = refl
times_below m least (n ∷ ns) all below =
    let order : m < n = omega (arith, all.0, below) in
    let apart : (n == m) ≡ false = grind (arith, nat_tests, order) in
    let none : one_if m n ≡ 0 = ap (λ t. cond t 1 0) apart in
    omega (arith, none, sum_by-cons (one_if m) n ns, times_below m least ns all.1 below)

-- the first of numbers that rise, where it is one of others that rise, too
not_less : (x y : ℕ) (xs ys : List ℕ) → AtLeast y ys →
    times x (x ∷ xs) ≡ times x (y ∷ ys) → y ≤ x
not_less x y xs ys least same = elim (cases_below x y) [
  | inl less ↦
      let all : AtLeast y (y ∷ ys) = (omega arith, least) in
      absurd (omega (arith, times_first x xs, same, times_below x y (y ∷ ys) all less))
  | inr more ↦ more
]
  where
    cases_below : (a b : ℕ) → (a < b) ⊎ (b ≤ a)
    cases_below a b = by_test (nat_lt a b) refl where
      by_test : (t : Bool) → nat_lt a b ≡ t → (a < b) ⊎ (b ≤ a)
      by_test true is = inl (grind (arith, nat_tests, is))
      by_test false is = inr (grind (arith, nat_tests, is))

pub told_by_times : (xs ys : List ℕ) → Rise xs → Rise ys →
    ((m : ℕ) → times m xs ≡ times m ys) → xs ≡ ys
told_by_times [] [] rise rise' same = refl
told_by_times [] (y ∷ ys) rise rise' same = absurd (omega (arith, times_first y ys, same y))
told_by_times (x ∷ xs) [] rise rise' same = absurd (omega (arith, times_first x xs, same x))
told_by_times (x ∷ xs) (y ∷ ys) rise rise' same =
    let up : y ≤ x = not_less x y xs ys rise'.0 (same x) in
    let down : x ≤ y = not_less y x ys xs rise.0 (sym (same y)) in
    let first : x ≡ y = omega (arith, up, down) in
    let others : (m : ℕ) → times m xs ≡ times m ys =
    λ m. omega (
      arith,
      same m,
      sum_by-cons (one_if m) x xs,
      sum_by-cons (one_if m) y ys,
      ap (one_if m) first,
    ) in
    (λ i. first i ∷ told_by_times xs ys rise.1 rise'.1 others i)

-- ---- areas with their numbers

-- one where an area has a position, and its number is this one
abbrev one_having : ℕ × ℕ → ℕ → Numbered → ℕ
one_having position m own = cond (is_in_area own.0 position) (one_if m own.1) 0

having_counted : (position : ℕ × ℕ) (m : ℕ) (all : List Numbered) →
    times m (numbers_having position all) ≡ sum_by (one_having position m) all
having_counted position m [] = refl
having_counted position m (own ∷ all) =
    by_test (is_in_area own.0 position) (having_counted position m all)
    ∙ sym (sum_by-cons (one_having position m) own all) where
      by_test : (t : Bool) →
          times m (numbers_having position all) ≡ sum_by (one_having position m) all →
          times m (map (λ (o : Numbered). o.1)
          (cond t (own ∷ filter (λ o. is_in_area o.0 position) all)
          (filter (λ o. is_in_area o.0 position) all)))
          ≡ cond t (one_if m own.1) 0 + sum_by (one_having position m) all
      by_test true rest =
          sum_by-cons (one_if m) own.1 (numbers_having position all)
          ∙ ap (λ n. one_if m own.1 + n) rest
      by_test false rest = rest ∙ omega arith

having_numbered : (position : ℕ × ℕ) (from : ℕ) (areas : List Dimensions) →
    numbers_having position (numbered_from from areas)
    ≡ numbers_where (λ area. is_in_area area position) from areas
having_numbered position from [] = refl
having_numbered position from (area ∷ areas) =
    by_test (is_in_area area position) (having_numbered position (from + 1) areas) where
      by_test : (t : Bool) →
          numbers_having position (numbered_from (from + 1) areas)
          ≡ numbers_where (λ area. is_in_area area position) (from + 1) areas →
          map (λ (o : Numbered). o.1)
          (cond t ((area, from) ∷ filter (λ o. is_in_area o.0 position)
          (numbered_from (from + 1) areas))
          (filter (λ o. is_in_area o.0 position) (numbered_from (from + 1) areas)))
          ≡ cond t (from ∷ numbers_where (λ area. is_in_area area position) (from + 1) areas)
          (numbers_where (λ area. is_in_area area position) (from + 1) areas)
      by_test true rest = ap (λ ns. from ∷ ns) rest
      by_test false rest = rest

numbers_at_least : (passes : Dimensions → Bool) (least from : ℕ) (areas : List Dimensions) →
    least ≤ from → AtLeast least (numbers_where passes from areas)
numbers_at_least passes least from [] below = tt
numbers_at_least passes least from (area ∷ areas) below =
    by_test (passes area) (numbers_at_least passes least (from + 1) areas (omega (arith, below)))
  where
    by_test : (t : Bool) → AtLeast least (numbers_where passes (from + 1) areas) →
        AtLeast least (cond t (from ∷ numbers_where passes (from + 1) areas)
        (numbers_where passes (from + 1) areas))
    by_test true rest = (below, rest)
    by_test false rest = rest

numbers_rise : (passes : Dimensions → Bool) (from : ℕ) (areas : List Dimensions) →
    Rise (numbers_where passes from areas)
numbers_rise passes from [] = tt
numbers_rise passes from (area ∷ areas) =
    by_test (passes area) (numbers_rise passes (from + 1) areas) where
      by_test : (t : Bool) → Rise (numbers_where passes (from + 1) areas) →
          Rise (cond t (from ∷ numbers_where passes (from + 1) areas)
          (numbers_where passes (from + 1) areas))
      by_test true rest =
          (numbers_at_least passes from (from + 1) areas (omega arith), rest)
      by_test false rest = rest

-- numbers that are found in any order, once they are sorted
pub sorted_are : (position : ℕ × ℕ) (areas : List Dimensions) (all : List Numbered) →
    IsPermutation (numbered_from 0 areas) all → (found sorted : List ℕ) →
    found ≡ numbers_having position all → IsPermutation found sorted →
    IsNonDecreasingBy (λ n. n) sorted →
    sorted ≡ numbers_where (λ area. is_in_area area position) 0 areas
sorted_are position areas all same found sorted is moved rising =
    told_by_times sorted (numbers_where (λ area. is_in_area area position) 0 areas)
    (rise_from sorted rising) (numbers_rise (λ area. is_in_area area position) 0 areas)
    (λ m. sum_by-IsPermutation (one_if m) found sorted moved
    ∙ ap (times m) is
    ∙ having_counted position m all
    ∙ sum_by-IsPermutation (one_having position m) (numbered_from 0 areas) all same
    ∙ sym (having_counted position m (numbered_from 0 areas))
    ∙ ap (times m) (having_numbered position 0 areas))
