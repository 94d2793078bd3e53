-- A tree over the formulas of a workbook, by the cells that they cover. Its leaves are formulas, in
-- some order; its forks are counted from 0, and the sons of a fork `k` are the nodes `2 * k + 1`
-- and `2 * k + 2`. The nodes from the number of forks on are the leaves.
use Rattle.std.specs.Prelude.{◌≡◌, ℕ, zero, suc, ◌+◌, ◌-◌, ◌*◌, ◌<◌, ◌&&◌, nat_le, nat_lt, Bool}
use Rattle.std.specs.Prelude.{true, false, if◌then◌else◌, List, [], ◌∷◌, ◌++◌, length, map, filter}
use Rattle.std.specs.Prelude.{Option, None, Some, option_to_list}
use Rattle.std.specs.List.{list_all, flat_map, slice_get, slice_index_or, slice_range}
use Rattle.cell_refs.specs.declared.dimensions.Dimensions.{Dimensions}
use Rattle.calculation_order.specs.Edges.{is_number_of, numbers_below}
use Rattle.calculation_order.specs.Links.{Linked}
use Rattle.xlsx_graph.specs.Graph.{has_sheet, do_meet}
use Rattle.xlsx_graph.specs.declared.hulls.Hull.{Hull}
use Rattle.xlsx_graph.specs.declared.named.BookArea.{BookArea}
use Rattle.xlsx_graph.specs.declared.workbook_graph.Placed.{Placed}

-- ---- the tree

-- how many forks a tree of such leaves has
abbrev pub fork_count : List ℕ → ℕ
fork_count order = length order - 1

-- the formula of a leaf
abbrev pub leaf_at : List ℕ → ℕ → List ℕ
leaf_at order k = option_to_list (slice_get order (k - fork_count order))

-- the formulas under a node of the tree, where so many forks may stand one under the other
unfoldable pub under_within : ℕ → List ℕ → ℕ → List ℕ
under_within zero order k = []
under_within (suc turns) order k =
    if nat_lt k (fork_count order)
    then under_within turns order (2 * k + 1) ++ under_within turns order (2 * k + 2)
    else leaf_at order k

-- the formulas under a node of the tree: those of its leaves
unfoldable pub under : List ℕ → ℕ → List ℕ
under order k = under_within (suc (2 * fork_count order)) order k

-- the leaves of the tree are the numbers of the formulas
pub record AreNumbers (order : List ℕ) : Type 0 where
  pub below : list_all (λ m. nat_lt m (length order)) order ≡ true
  pub all : (m : ℕ) → m < length order → is_number_of order m ≡ true

-- ---- vertices: formulas first, by their numbers, then the forks

-- the vertex of a node: of a leaf that of its formula, and of a fork one behind those of all
-- formulas
abbrev pub vertex_of : List ℕ → ℕ → ℕ
vertex_of order k =
    if nat_lt k (fork_count order) then length order + k
    else slice_index_or order (k - fork_count order) 0

-- how many vertices there are
abbrev pub vertex_count : List ℕ → ℕ
vertex_count order = length order + fork_count order

-- the vertices that a fork leads to
abbrev pub sons_of : List ℕ → ℕ → List ℕ
sons_of order k = vertex_of order (2 * k + 1) ∷ vertex_of order (2 * k + 2) ∷ []

-- what each fork leads to
unfoldable pub fork_links : List ℕ → List (List ℕ)
fork_links order = map (sons_of order) (numbers_below (fork_count order))

-- the formulas that a vertex stands for
abbrev pub stands_for : List ℕ → ℕ → List ℕ
stands_for order v = if nat_lt v (length order) then v ∷ [] else under order (v - length order)

-- ---- the cells

-- an area has a cell of those that a formula covers
abbrev pub meets : BookArea → Placed → Bool
meets a p = has_sheet a p.cell.sheet && do_meet a.area p.covers

-- an area has a cell of those that the formula of a number covers
abbrev pub meets_at : List Placed → BookArea → ℕ → Bool
meets_at [] a n = false
meets_at (p ∷ ps) a zero = meets a p
meets_at (p ∷ ps) a (suc n) = meets_at ps a n

-- two corners of rows, or of columns, lie between others
abbrev pub lie_between : ℕ → ℕ → ℕ → ℕ → Bool
lie_between first last a b =
    (nat_le first a && nat_le a last) && (nat_le first b && nat_le b last)

-- an area begins in another, or behind its start, and ends in it, or before its end
abbrev pub lies_inside : Dimensions → Dimensions → Bool
lies_inside a b =
    (nat_le b.start.0 a.start.0 && nat_le a.end.0 b.end.0)
    && (nat_le b.start.1 a.start.1 && nat_le a.end.1 b.end.1)

-- a hull has both corners of all that a formula covers, and lies inside of it
abbrev pub has_corners : Hull → Placed → Bool
has_corners h p =
    (nat_le h.first p.cell.sheet && nat_le p.cell.sheet h.last)
    && ((lie_between h.all.start.0 h.all.end.0 p.covers.start.0 p.covers.end.0
    && lie_between h.all.start.1 h.all.end.1 p.covers.start.1 p.covers.end.1)
    && lies_inside h.each p.covers)

-- a hull has both corners of all that the formula of a number covers, and lies inside of it
abbrev pub has_corners_at : List Placed → Hull → ℕ → Bool
has_corners_at [] h n = false
has_corners_at (p ∷ ps) h zero = has_corners h p
has_corners_at (p ∷ ps) h (suc n) = has_corners_at ps h n

-- a hull has both corners of all that these formulas cover, and lies inside of each
abbrev pub is_hull : List Placed → Hull → List ℕ → Bool
is_hull placed h ns = list_all (has_corners_at placed h) ns

-- a hull that there is has both corners of all that these formulas cover, and lies inside of each
abbrev pub IsHullOf : List Placed → Option Hull → List ℕ → Type 0
IsHullOf placed None ns = Unit {0}
IsHullOf placed (Some h) ns = is_hull placed h ns ≡ true

-- the hulls from this number on are those of their forks
abbrev pub AreHullsFrom : ℕ → List Placed → List ℕ → List Hull → Type 0
AreHullsFrom from placed order hulls =
    (k : ℕ) → nat_le from k ≡ true → IsHullOf placed (slice_get hulls k) (under order k)

-- formulas, the leaves of a tree over them, and the hulls of its forks
pub record IsTree (placed : List Placed) (order : List ℕ) (hulls : List Hull) : Type 0 where
  pub size : length order ≡ length placed
  pub numbers : AreNumbers order
  pub count : length hulls ≡ fork_count order
  pub have : AreHullsFrom 0 placed order hulls

-- ---- what formulas watch

-- the formulas that an area meets, where its values are asked for
abbrev pub asked_of : List Placed → List ℕ → BookArea → List ℕ
asked_of placed order a =
    if a.is_valued then filter (meets_at placed a) (under order 0) else []

-- vertices of the tree were begun that stand for these formulas
pub record Watches (order : List ℕ) (old new : Linked) (ns : List ℕ) : Type 0 where
  pub vertices : List ℕ
  pub formulas : new.formulas ≡ old.formulas
  pub links : new.links ≡ old.links
  pub begun : new.begun ≡ old.begun ++ vertices
  pub within : list_all (λ v. nat_lt v (vertex_count order)) vertices ≡ true
  pub meant : flat_map (stands_for order) vertices ≡ ns

-- what each of these formulas asks for, among all areas
abbrev pub asked_by : List BookArea → List Placed → List ℕ → Placed → List ℕ
asked_by areas placed order p =
    flat_map (asked_of placed order) (slice_range areas p.areas.0 p.areas.1)

-- the first vertices stand for what these formulas ask for
pub record AreWatched (areas : List BookArea) (placed : List Placed) (order : List ℕ)
    (count : ℕ) (asking : List Placed) (linked : Linked) : Type 0 where
  pub formulas : linked.formulas ≡ count
  pub begun : linked.begun ≡ []
  pub within : list_all (list_all (λ v. nat_lt v (vertex_count order))) linked.links ≡ true
  pub meant : map (flat_map (stands_for order)) linked.links
      ≡ map (asked_by areas placed order) asking
