-- Edges that are told by way of groups. A vertex leads to others: those below a number are
-- formulas, and each other one is a group, which stands for the formulas that it leads to, at once
-- or through further groups.
use Rattle.std.specs.Prelude.{ℕ, zero, suc, ◌≡◌, ◌<◌, ◌≤◌, ◌||◌, ◌&&◌, nat_lt, Bool, true}
use Rattle.std.specs.Prelude.{if◌then◌else◌, List, [], ◌∷◌, ◌++◌, length, map}
use Rattle.std.specs.List.{list_all, flat_map}
use Rattle.calculation_order.specs.Edges.{needs_of, is_number_of, numbers_below}

-- how many vertices are formulas, what each vertex leads to, and what the next one leads to that is
-- begun
pub record Linked : Type 0 where
  pub formulas : ℕ
  pub links : List (List ℕ)
  pub begun : List ℕ

-- the vertex that is begun leads to one more
abbrev pub with_link : Linked → ℕ → Linked
with_link linked v =
    record {
      formulas = linked.formulas;
      links = linked.links;
      begun = linked.begun ++ v ∷ [];
    }

-- the vertex that is begun leads to no more, and the next one is begun
abbrev pub with_closed : Linked → Linked
with_closed linked =
    record { formulas = linked.formulas; links = linked.links ++ linked.begun ∷ []; begun = [] }

-- the formulas that a vertex stands for, where so many groups may stand one in the other: a formula
-- stands for itself
abbrev pub members_within : ℕ → Linked → ℕ → List ℕ
members_within zero linked v = []
members_within (suc turns) linked v =
    if nat_lt v linked.formulas then v ∷ []
    else flat_map (members_within turns linked) (needs_of linked.links v)

-- the formulas that a vertex stands for
unfoldable pub members : Linked → ℕ → List ℕ
members linked v = members_within (suc (length linked.links)) linked v

-- the formulas that one leads to, through groups alone
abbrev pub linked_from : Linked → ℕ → List ℕ
linked_from linked n = flat_map (members linked) (needs_of linked.links n)

-- a group leads to formulas, and to groups behind it
abbrev pub leads_on : ℕ → ℕ → ℕ → Bool
leads_on formulas v w = nat_lt w formulas || nat_lt v w

-- a vertex may lead to another: to a vertex, and a group on
abbrev pub may_lead_to : ℕ → ℕ → ℕ → ℕ → Bool
may_lead_to formulas most v w = nat_lt w most && (nat_lt v formulas || leads_on formulas v w)

-- each vertex from this number on leads to vertices alone, and a group leads on
abbrev pub lead_on_from : ℕ → ℕ → ℕ → List (List ℕ) → Bool
lead_on_from formulas most v [] = true
lead_on_from formulas most v (ws ∷ rest) =
    list_all (may_lead_to formulas most v) ws
    && lead_on_from formulas most (suc v) rest

-- the formulas are vertices, and each vertex leads to vertices, a group to formulas and to groups
-- behind it: so no group stands in itself
pub record AreGrouped (linked : Linked) : Type 0 where
  pub formulas : linked.formulas ≤ length linked.links
  pub lead_on : lead_on_from linked.formulas (length linked.links) 0 linked.links ≡ true

-- edges are told by links: each formula needs those that it leads to
pub record AreLinked (edges : List (List ℕ)) (linked : Linked) : Type 0 where
  pub size : length edges ≡ linked.formulas
  pub same : (n m : ℕ) → n < linked.formulas →
      is_number_of (needs_of edges n) m ≡ is_number_of (linked_from linked n) m

-- the edges that links tell
abbrev pub told_edges : Linked → List (List ℕ)
told_edges linked = map (linked_from linked) (numbers_below linked.formulas)
