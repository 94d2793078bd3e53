-- Cycles by the first formula on cycles with each.
use Rattle.std.specs.Prelude.{ℕ, ◌≡◌, ◌<◌, ◌≤◌, ◌==◌, Bool, if◌then◌else◌, List, [], ◌∷◌, ◌++◌}
use Rattle.std.specs.Prelude.{length, map, filter, slice_set, Option, None, Some}
use Rattle.std.specs.List.{slice_index_or}
use Rattle.calculation_order.specs.Components.{is_this_vertex}
use Rattle.calculation_order.specs.Edges.{numbers_below}

-- the first formula on cycles with one is this
abbrev pub has_first : List (Option ℕ) → ℕ → ℕ → Bool
has_first firsts first n = is_this_vertex (slice_index_or firsts n None) first

-- the formulas on the cycles whose first formula is this one, of so many formulas
abbrev pub cycle_by : List (Option ℕ) → ℕ → ℕ → List ℕ
cycle_by firsts count first = filter (has_first firsts first) (numbers_below count)

-- the formulas that are the first on their cycles, of so many formulas
abbrev pub heads_by : List (Option ℕ) → ℕ → List ℕ
heads_by firsts count = filter (λ n. has_first firsts n n) (numbers_below count)

-- the cycles of so many formulas, by the first ones on them
abbrev pub cycles_by : List (Option ℕ) → ℕ → List (List ℕ)
cycles_by firsts count = map (cycle_by firsts count) (heads_by firsts count)

-- the first formula on cycles with one isn't behind it, and is the first on its own
abbrev pub AreFirsts : List (Option ℕ) → Type 0
AreFirsts firsts =
    (n f : ℕ) → slice_index_or firsts n None ≡ Some f
    → (f ≤ n) × (slice_index_or firsts f None ≡ Some f)

-- cycles with one formula more: on one of its own, if it is the first on it, or on that of a place
abbrev pub with_kept : List (List ℕ) → ℕ → Bool → ℕ → List (List ℕ)
with_kept lists place is_first n =
    if is_first then lists ++ (n ∷ []) ∷ []
    else slice_set lists place (slice_index_or lists place [] ++ n ∷ [])

-- cycles with one formula more, by its first formula, and by how many cycles begin before each
abbrev pub with_next : List (List ℕ) → List ℕ → Option ℕ → ℕ → List (List ℕ)
with_next lists places None n = lists
with_next lists places (Some f) n = with_kept lists (slice_index_or places f 0) (f == n) n

-- the cycles of so many formulas are kept, and for each formula how many cycles begin before it
pub record AreCyclesKept (firsts : List (Option ℕ)) (count : ℕ) (lists : List (List ℕ))
    (places : List ℕ) : Type 0 where
  pub cycles : lists ≡ cycles_by firsts count
  pub size : length places ≡ count
  pub place : (f : ℕ) → f < count → slice_index_or places f 0 ≡ length (heads_by firsts f)
