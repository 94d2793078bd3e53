-- Formulas that need each other, by edges: for each formula, by its number, the numbers of those
-- that it needs. An order in which they can be computed, and the cycles.
use Rattle.std.specs.Prelude.{ℕ, zero, suc, ◌==◌, ◌||◌, ◌&&◌, not, Bool, false, if◌then◌else◌, List}
use Rattle.std.specs.Prelude.{[], ◌∷◌, ◌++◌, length, map, filter, Option, None, Some}
use Rattle.std.specs.List.{list_all, list_any, slice_index_or, flat_map, range_with_len}

-- the numbers from 0 on that are below one, in order
abbrev pub numbers_below : ℕ → List ℕ
numbers_below n = range_with_len 0 n

-- a number is one of these
abbrev pub is_number_of : List ℕ → ℕ → Bool
is_number_of ns n = list_any (λ m. m == n) ns

-- ---- the order: round by round, those that need no formula but such of earlier rounds

-- the numbers of the formulas that a formula needs
abbrev pub needs_of : List (List ℕ) → ℕ → List ℕ
needs_of edges n = slice_index_or edges n []

-- a formula isn't done, and all that it needs are
abbrev pub is_ready : List (List ℕ) → List ℕ → ℕ → Bool
is_ready edges done n =
    not (is_number_of done n) && list_all (is_number_of done) (needs_of edges n)

-- the formulas that can be computed where these are done
abbrev pub ready : List (List ℕ) → List ℕ → List ℕ
ready edges done = filter (is_ready edges done) (numbers_below (length edges))

-- so many rounds of formulas, each of those that can be computed once these and the earlier rounds
-- are done
unfoldable pub rounds_within : ℕ → List (List ℕ) → List ℕ → List (List ℕ)
rounds_within zero edges done = []
rounds_within (suc turns) edges done =
    ready edges done ∷ rounds_within turns edges (done ++ ready edges done)

-- the numbers of the formulas that can be computed, in their order
unfoldable pub order_of : List (List ℕ) → List ℕ
order_of edges = flat_map (λ r. r) (rounds_within (length edges) edges [])

-- ---- cycles

-- numbers with one more behind them, unless it is among them
abbrev pub with_number : List ℕ → ℕ → List ℕ
with_number ns n = if is_number_of ns n then ns else ns ++ n ∷ []

-- numbers with more of them behind, each once
abbrev pub with_numbers : List ℕ → List ℕ → List ℕ
with_numbers ns [] = ns
with_numbers ns (m ∷ ms) = with_numbers (with_number ns m) ms

-- formulas with those that they need by at most so many steps
unfoldable pub reached_within : ℕ → List (List ℕ) → List ℕ → List ℕ
reached_within zero edges ns = ns
reached_within (suc turns) edges ns =
    reached_within turns edges (with_numbers ns (flat_map (needs_of edges) ns))

-- what a formula needs, itself or through others
unfoldable pub reached : List (List ℕ) → ℕ → List ℕ
reached edges n = reached_within (length edges) edges (needs_of edges n)

-- two formulas need each other; one alone needs itself
abbrev pub are_together : List (List ℕ) → ℕ → ℕ → Bool
are_together edges m n = is_number_of (reached edges m) n && is_number_of (reached edges n) m

-- the formulas on cycles with a formula
abbrev pub cycle_of : List (List ℕ) → ℕ → List ℕ
cycle_of edges n = filter (are_together edges n) (numbers_below (length edges))

-- a number is the first of these
abbrev pub is_first_of : List ℕ → ℕ → Bool
is_first_of [] n = false
is_first_of (m ∷ ms) n = m == n

-- the first of numbers, if there is one
abbrev pub first_of : List ℕ → Option ℕ
first_of [] = None
first_of (n ∷ ns) = Some n

-- the first formula on cycles with one, or none where it is on no cycle
abbrev pub first_together : List (List ℕ) → ℕ → Option ℕ
first_together edges n = first_of (cycle_of edges n)

-- the first formula on the cycles of each formula, if it is on any
abbrev pub firsts_of : List (List ℕ) → List (Option ℕ)
firsts_of edges = map (first_together edges) (numbers_below (length edges))

-- the cycles, by their first formulas, each as its formulas
unfoldable pub cycles_of : List (List ℕ) → List (List ℕ)
cycles_of edges =
    map (cycle_of edges)
    (filter (λ n. is_first_of (cycle_of edges n) n) (numbers_below (length edges)))

-- ---- what is asked for, and what needs it

-- a formula asks, or needs one that does
abbrev pub depends_on : (ℕ → Bool) → List (List ℕ) → ℕ → Bool
depends_on asks edges n = asks n || list_any asks (reached edges n)

-- the formulas that ask for something, themselves or through others
abbrev pub dependents_of : (ℕ → Bool) → List (List ℕ) → List ℕ
dependents_of asks edges = filter (depends_on asks edges) (numbers_below (length edges))
