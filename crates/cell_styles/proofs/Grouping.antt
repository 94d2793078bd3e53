-- How many groups of equal neighbours a list can have.
use Rattle.std.proofs.Common.{◌≡◌, ℕ, ◌+◌, ◌*◌, ◌≤◌, ◌==◌, if◌then◌else◌, List, [], ◌∷◌, Bool, true}
use Rattle.std.proofs.Common.{false, nat_lt, count_by, rules, arith, zero, suc}
use Rattle.std.proofs.lemmas.List.Sums.{sum_by-cons}
use Rattle.cell_styles.specs.Groups.{group_count}

abbrev is_above_zero : ℕ → Bool
is_above_zero id = nat_lt 0 id

abbrev above_zero : List ℕ → ℕ
above_zero ids = count_by is_above_zero ids

above_zero-cons : (x : ℕ) (xs : List ℕ) → above_zero (x ∷ xs)
    ≡ (if is_above_zero x then 1 else 0) + above_zero xs
above_zero-cons x xs = sum_by-cons (λ id. if is_above_zero id then 1 else 0) x xs

above_zero-suc : (x : ℕ) (xs : List ℕ) → above_zero (suc x ∷ xs) ≡ 1 + above_zero xs
above_zero-suc x xs =
    let yes : is_above_zero (suc x) ≡ true = search rules in rw (above_zero-cons, yes)

-- one more where the first number is 0
abbrev spare : List ℕ → ℕ
spare [] = 0
spare (zero ∷ xs) = 1
spare (suc x ∷ xs) = 0

choice_le : (b : Bool) → (if b then 0 else 1) ≤ 1
choice_le true = omega arith
choice_le false = omega arith

one_bound : (ids : List ℕ) → group_count ids ≤ 2 * above_zero ids + spare ids
one_bound [] = omega arith
one_bound (zero ∷ []) = omega arith
one_bound (suc x ∷ []) = let first = above_zero-suc x [] in omega arith
one_bound (zero ∷ zero ∷ rest) =
    let first = above_zero-cons 0 (zero ∷ rest) in let more = one_bound (zero ∷ rest) in omega arith
one_bound (zero ∷ suc y ∷ rest) =
    let first = above_zero-cons 0 (suc y ∷ rest) in
    let choice = choice_le (0 == suc y) in
    let more = one_bound (suc y ∷ rest) in omega arith
one_bound (suc x ∷ zero ∷ rest) =
    let first = above_zero-suc x (zero ∷ rest) in
    let choice = choice_le (suc x == 0) in
    let more = one_bound (zero ∷ rest) in omega arith
one_bound (suc x ∷ suc y ∷ rest) =
    let first = above_zero-suc x (suc y ∷ rest) in
    let choice = choice_le (suc x == suc y) in
    let more = one_bound (suc y ∷ rest) in omega arith

spare_le : (ids : List ℕ) → spare ids ≤ 1
spare_le [] = omega arith
spare_le (zero ∷ xs) = omega arith
spare_le (suc x ∷ xs) = omega arith

-- two for each number above 0, and one
pub group_bound : (ids : List ℕ) → group_count ids ≤ 2 * count_by (λ id. nat_lt 0 id) ids + 1
group_bound ids = omega (arith, one_bound ids, spare_le ids)
