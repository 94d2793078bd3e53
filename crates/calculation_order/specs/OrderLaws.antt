-- What holds of the order and of the cycles of any edges. Edges are those of a graph where each
-- number in them is that of a formula.
use Rattle.std.specs.Prelude.{ℕ, Bool, true, false, not, ◌≡◌, ◌<◌, ◌==◌, ◌&&◌, ◌||◌, nat_lt}
use Rattle.std.specs.Prelude.{if◌then◌else◌, List, ◌++◌, length, take, filter, slice_index}
use Rattle.std.specs.Prelude.{EachIndex}
use Rattle.std.specs.List.{count_by, flat_map, list_all, list_any}
use Rattle.calculation_order.specs.Edges.{needs_of, order_of, reached, cycles_of, numbers_below}
use Rattle.calculation_order.specs.Edges.{is_number_of}

-- each number in the edges is that of a formula
abbrev pub are_within : List (List ℕ) → Bool
are_within edges = list_all (λ ns. list_all (λ n. nat_lt n (length edges)) ns) edges

-- a formula is on a cycle: it needs itself, at once or through others
abbrev pub is_on_cycle : List (List ℕ) → ℕ → Bool
is_on_cycle edges n = is_number_of (reached edges n) n

-- a formula is behind a cycle: it is on none, and needs one that is, at once or through others
abbrev pub is_behind : List (List ℕ) → ℕ → Bool
is_behind edges n = not (is_on_cycle edges n) && list_any (is_on_cycle edges) (reached edges n)

-- the formulas that are behind a cycle: each is on none, and needs one that is
abbrev pub behind_of : List (List ℕ) → List ℕ
behind_of edges = filter (is_behind edges) (numbers_below (length edges))

-- all that a formula in the order needs stands before it
abbrev pub NeedsStandBefore : List (List ℕ) → Type 0
NeedsStandBefore edges =
    EachIndex (order_of edges) (λ k.
    list_all (is_number_of (take k (order_of edges)))
    (needs_of edges (slice_index (order_of edges) k)) ≡ true)

-- each formula that isn't in the order is on a cycle or behind one
abbrev pub OthersHaveCycles : List (List ℕ) → Type 0
OthersHaveCycles edges =
    (n : ℕ) → n < length edges → is_number_of (order_of edges) n ≡ false
    → (is_on_cycle edges n || is_behind edges n) ≡ true

-- the formulas in the order, then those of each cycle, then those behind one
abbrev pub all_of : List (List ℕ) → List ℕ
all_of edges = order_of edges ++ (flat_map (λ c. c) (cycles_of edges) ++ behind_of edges)

-- Each formula stands once in the order, the cycles and what is behind them, and no other number
-- does. So no formula is on two cycles, none that is in the order is on a cycle or behind one, and
-- none stands twice in the order.
abbrev pub EachStandsOnce : List (List ℕ) → Type 0
EachStandsOnce edges =
    (n : ℕ)
    → count_by (λ m. m == n) (all_of edges) ≡ (if nat_lt n (length edges) then 1 else 0)
