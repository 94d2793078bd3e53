-- Components of links: vertices that lead to each other. What a search finds of them, and how it is
-- seen that it found the right ones.
use Rattle.std.specs.Prelude.{ℕ, ◌≡◌, ◌<◌, ◌-◌, ◌==◌, ◌||◌, ◌&&◌, nat_lt, nat_le, Bool, false}
use Rattle.std.specs.Prelude.{Option, None, Some, List, length, slice_get, filter, if◌then◌else◌}
use Rattle.std.specs.List.{list_all, list_any, slice_index_or, range_with_len}
use Rattle.calculation_order.specs.Edges.{are_together, first_of, needs_of, numbers_below}
use Rattle.calculation_order.specs.Links.{Linked}
use Rattle.calculation_order.specs.declared.components.Mark.{Mark}

-- the mark of a vertex that no search came to
abbrev pub unmarked : Mark
unmarked = record { rank = 0; depth = 0; from = 0; by = 0; next = 0; back = 0 }

-- what is found: a mark for each vertex, and for each rank the root of the component
pub record FoundComponents : Type 0 where
  pub marks : List Mark
  pub roots : List ℕ

-- the mark that was found of a vertex, or that of one that no search came to
abbrev pub mark_of : FoundComponents → ℕ → Mark
mark_of found v = slice_index_or found.marks v unmarked

-- the component of a vertex, by its number
abbrev pub rank_of : FoundComponents → ℕ → ℕ
rank_of found v = (mark_of found v).rank

-- the vertex at which the component of a vertex begins, its root
abbrev pub root_of : FoundComponents → ℕ → ℕ
root_of found v = slice_index_or found.roots (rank_of found v) 0

-- two vertices are of one component
abbrev pub have_one_rank : FoundComponents → ℕ → ℕ → Bool
have_one_rank found v w = rank_of found w == rank_of found v

-- a vertex leads to one of its own component
abbrev pub leads_around : List (List ℕ) → FoundComponents → ℕ → Bool
leads_around links found v = list_any (have_one_rank found v) (needs_of links v)

-- there is a vertex, and it is the one of this number
abbrev pub is_this_vertex : Option ℕ → ℕ → Bool
is_this_vertex None v = false
is_this_vertex (Some w) v = w == v

-- a vertex leads to none of a greater number
abbrev pub falls : List (List ℕ) → FoundComponents → ℕ → Bool
falls links found v =
    list_all (λ w. nat_le (rank_of found w) (rank_of found v)) (needs_of links v)

-- a link leads to a vertex from one of its component that is less deep
abbrev pub is_led_to : List (List ℕ) → FoundComponents → ℕ → Bool
is_led_to links found v =
    is_this_vertex (slice_get (needs_of links (mark_of found v).from) (mark_of found v).by) v
    && (have_one_rank found v (mark_of found v).from
    && nat_lt (mark_of found (mark_of found v).from).depth (mark_of found v).depth)

-- there is a vertex, of the same component as another and nearer to the root
abbrev pub is_nearer : FoundComponents → ℕ → Option ℕ → Bool
is_nearer found v None = false
is_nearer found v (Some w) =
    have_one_rank found v w && nat_lt (mark_of found w).back (mark_of found v).back

-- a vertex is the root of its component, or a link leads to it and one leads back
abbrev pub is_in_component : List (List ℕ) → FoundComponents → ℕ → Bool
is_in_component links found v =
    root_of found v == v
    || (is_led_to links found v
    && is_nearer found v (slice_get (needs_of links v) (mark_of found v).next))

-- the component of a vertex has a root
abbrev pub has_root : FoundComponents → ℕ → Bool
has_root found v = nat_lt (rank_of found v) (length found.roots)

-- the marks that were found show of a vertex that its component is the right one
abbrev pub is_certain : List (List ℕ) → FoundComponents → ℕ → Bool
is_certain links found v =
    falls links found v && (is_in_component links found v && has_root found v)

-- the marks that were found show of each vertex that its component is the right one
abbrev pub are_certain : List (List ℕ) → FoundComponents → Bool
are_certain links found = list_all (is_certain links found) (numbers_below (length links))

-- ---- the first formula of each component

-- the component of a vertex has this number, and the vertex leads around in it
abbrev pub is_around : List (List ℕ) → FoundComponents → ℕ → ℕ → Bool
is_around links found rank v = rank_of found v == rank && leads_around links found v

-- the first of so many vertices from one on whose component has this number and that leads around
-- in it
abbrev pub head_from : List (List ℕ) → FoundComponents → ℕ → ℕ → ℕ → Option ℕ
head_from links found start count rank =
    first_of (filter (is_around links found rank) (range_with_len start count))

-- the first formula on cycles with one, of so many
abbrev pub first_around : List (List ℕ) → FoundComponents → ℕ → ℕ → Option ℕ
first_around links found formulas n =
    if leads_around links found n then head_from links found 0 formulas (rank_of found n) else None

-- for each component, by its number, the first formula from one on that leads around
pub record HasHeads (linked : Linked) (found : FoundComponents) (start : ℕ)
    (heads : List (Option ℕ))
    : Type 0 where
  pub size : length heads ≡ length found.roots
  pub head : (rank : ℕ) → rank < length found.roots → slice_index_or heads rank None
      ≡ head_from linked.links found start (linked.formulas - start) rank

-- the first formula that a vertex reaches and that reaches it
abbrev pub first_among : Linked → ℕ → Option ℕ
first_among linked v =
    first_of (filter (are_together linked.links v) (numbers_below linked.formulas))
