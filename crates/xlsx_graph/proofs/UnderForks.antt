-- The formulas under the nodes of a tree: a fork has those of its two sons, and the root has all.
use Rattle.std.proofs.Common.{◌≡◌, ◌∙◌, ◌⊎◌, inl, inr, ℕ, zero, suc, ◌+◌, ◌-◌, ◌*◌, ◌/◌, ◌%◌, ◌<◌}
use Rattle.std.proofs.Common.{◌≤◌, Bool, true, false, List, [], ◌∷◌, ◌++◌, cond, refl, sym, ap}
use Rattle.std.proofs.Common.{subst, arith, length}
use Rattle.std.specs.Prelude.{nat_lt, Option, Some, option_to_list}
use Rattle.std.specs.List.{list_all, slice_get}
use Rattle.std.proofs.lemmas.Bool.{ltb-true, ltb-false, lt-ltb, le-ltb, cases_Bool, cases_eq}
use Rattle.std.proofs.lemmas.Bool.{cond-true, cond-false, and_parts, false≢true}
use Rattle.std.proofs.lemmas.Option.{get_or_from_slice_get}
use Rattle.calculation_order.specs.Edges.{is_number_of}
use Rattle.calculation_order.proofs.Members.{in_left, in_right, in_cons, in_head}
use Rattle.xlsx_graph.specs.Tree.{fork_count, leaf_at, under_within, under, AreNumbers, vertex_of}
use Rattle.xlsx_graph.specs.Tree.{stands_for, vertex_count}

chosen_same : (b : Bool) (x y z : List ℕ) → (b ≡ true → x ≡ y) → cond b x z ≡ cond b y z
chosen_same true x y z same = same refl
chosen_same false x y z same = refl

joined_same : (a b c d : List ℕ) → a ≡ b → c ≡ d → a ++ c ≡ b ++ d
joined_same a b c d e f = ap (λ x. x ++ c) e ∙ ap (λ x. b ++ x) f

-- one turn more has the same, where there are turns enough
pub same_within : (turns : ℕ) (order : List ℕ) (k : ℕ) → 0 < turns
    → 2 * fork_count order + 1 ≤ turns + k
    → under_within (suc turns) order k ≡ under_within turns order k
unfolding under_within
same_within zero order k some enough = absurd (omega arith)
same_within (suc turns) order k some enough =
    chosen_same (nat_lt k (fork_count order)) _ _ _
    (λ is. let fork = ltb-true k (fork_count order) is in
    joined_same _ _ _ _
    (same_within turns order (2 * k + 1) (omega arith) (omega arith))
    (same_within turns order (2 * k + 2) (omega arith) (omega arith)))

-- a fork has the formulas of its two sons
pub under_fork : (order : List ℕ) (k : ℕ) → k < fork_count order
    → under order k ≡ under order (2 * k + 1) ++ under order (2 * k + 2)
unfolding under under_within
under_fork order k fork =
    cond-true (nat_lt k (fork_count order)) _ _ (lt-ltb k (fork_count order) fork)
    ∙ joined_same _ _ _ _
    (sym (same_within (2 * fork_count order) order (2 * k + 1) (omega arith) (omega arith)))
    (sym (same_within (2 * fork_count order) order (2 * k + 2) (omega arith) (omega arith)))

-- a leaf has its own
pub under_leaf : (order : List ℕ) (k : ℕ) → fork_count order ≤ k → under order k ≡ leaf_at order k
unfolding under under_within
under_leaf order k leaf =
    cond-false (nat_lt k (fork_count order)) _ _ (le-ltb k (fork_count order) leaf)

-- ---- the root

-- what a node has its father has
climb_once : (order : List ℕ) (p k m : ℕ) → p < fork_count order
    → (k ≡ 2 * p + 1) ⊎ (k ≡ 2 * p + 2)
    → is_number_of (under order k) m ≡ true → is_number_of (under order p) m ≡ true
climb_once order p k m fork (inl e) is =
    subst (λ (ns : List ℕ). is_number_of ns m ≡ true) (sym (under_fork order p fork))
    (in_left (under order (2 * p + 1)) (under order (2 * p + 2)) m
    (subst (λ (j : ℕ). is_number_of (under order j) m ≡ true) e is))
climb_once order p k m fork (inr e) is =
    subst (λ (ns : List ℕ). is_number_of ns m ≡ true) (sym (under_fork order p fork))
    (in_right (under order (2 * p + 1)) (under order (2 * p + 2)) m
    (subst (λ (j : ℕ). is_number_of (under order j) m ≡ true) e is))

father_of : (j : ℕ) → (suc j ≡ 2 * (j / 2) + 1) ⊎ (suc j ≡ 2 * (j / 2) + 2)
father_of j = elim (cases_eq (j % 2) 0) [ inl e ↦ inl (omega arith) | inr e ↦ inr (omega arith) ]

-- what a node has the root has
climb : (most : ℕ) (order : List ℕ) (k m : ℕ) → k < most → k ≤ 2 * fork_count order
    → is_number_of (under order k) m ≡ true → is_number_of (under order 0) m ≡ true
climb zero order k m below within is = absurd (omega arith)
climb (suc most) order zero m below within is = is
climb (suc most) order (suc j) m below within is =
    climb most order (j / 2) m (omega arith) (omega arith)
    (climb_once order (j / 2) (suc j) m (omega arith) (father_of j) is)

-- the place of a number that stands among others
place_in : (ns : List ℕ) (m : ℕ) → is_number_of ns m ≡ true
    → (i : ℕ) × (i < length ns) × (slice_get ns i ≡ Some m)
place_in [] m is = absurd (false≢true is)
place_in (n ∷ ns) m is =
    elim (in_cons n ns m is) [
      | inl e ↦ (0, omega arith, ap (λ (k : ℕ). Some k) e)
      | inr e ↦ (let rest = place_in ns m e in (suc rest.0, omega arith, rest.2))
    ]

-- each of the leaves is under the root
pub under_root : (order : List ℕ) (m : ℕ) → is_number_of order m ≡ true
    → is_number_of (under order 0) m ≡ true
under_root order m is =
    let place = place_in order m is in
    let k = fork_count order + place.0 in
    let here : k - fork_count order ≡ place.0 = omega arith in
    climb (suc k) order k m (omega arith) (omega arith)
    (subst (λ (ns : List ℕ). is_number_of ns m ≡ true)
    (sym (under_leaf order k (omega arith)
    ∙ ap (λ i. option_to_list (slice_get order i)) here
    ∙ ap (λ (o : Option ℕ). option_to_list o) place.2))
    (in_head m []))

-- ---- vertices

all_get : (p : ℕ → Bool) (ns : List ℕ) (i m : ℕ) → list_all p ns ≡ true
    → slice_get ns i ≡ Some m → p m ≡ true
all_get p [] i m all at = absurd (cc)
all_get p (n ∷ ns) zero m all at =
    let parts = and_parts (p n) (list_all p ns) all in
    let e : n ≡ m = cc in
    subst (λ (k : ℕ). p k ≡ true) e parts.0
all_get p (n ∷ ns) (suc i) m all at =
    all_get p ns i m (and_parts (p n) (list_all p ns) all).1 at

-- the number of a leaf is that of a formula
pub leaf_below : (order : List ℕ) (i m : ℕ) → AreNumbers order → slice_get order i ≡ Some m
    → m < length order
leaf_below order i m numbers at =
    ltb-true m (length order) (all_get (λ n. nat_lt n (length order)) order i m numbers.below at)

get_within : (ns : List ℕ) (i : ℕ) → i < length ns → (m : ℕ) × (slice_get ns i ≡ Some m)
get_within [] i within = absurd (omega arith)
get_within (n ∷ ns) zero within = (n, refl)
get_within (n ∷ ns) (suc i) within = get_within ns i (omega arith)

-- a node is a fork, or the leaf of a formula
pub record IsLeafOf (order : List ℕ) (k m : ℕ) : Type 0 where
  pub at : slice_get order (k - fork_count order) ≡ Some m
  pub vertex : vertex_of order k ≡ m
  pub below : m < length order
  pub under : under order k ≡ m ∷ []

pub leaf_of : (order : List ℕ) (k : ℕ) → AreNumbers order → 0 < length order
    → fork_count order ≤ k → k ≤ 2 * fork_count order → (m : ℕ) × IsLeafOf order k m
leaf_of order k numbers some leaf within =
    let found = get_within order (k - fork_count order) (omega arith) in (
      found.0,
      record {
        at = found.1;
        vertex = cond-false (nat_lt k (fork_count order)) _ _ (le-ltb k (fork_count order) leaf)
            ∙ get_or_from_slice_get order (k - fork_count order) found.0 0 found.1;
        below = leaf_below order (k - fork_count order) found.0 numbers found.1;
        under = under_leaf order k leaf ∙ ap (λ (o : Option ℕ). option_to_list o) found.1;
      },
    )

pub fork_vertex : (order : List ℕ) (k : ℕ) → k < fork_count order
    → vertex_of order k ≡ length order + k
fork_vertex order k fork =
    cond-true (nat_lt k (fork_count order)) _ _ (lt-ltb k (fork_count order) fork)

-- a formula stands for itself
pub stands_itself : (order : List ℕ) (m : ℕ) → m < length order → stands_for order m ≡ m ∷ []
stands_itself order m below =
    cond-true (nat_lt m (length order)) _ _ (lt-ltb m (length order) below)

-- and a fork for the formulas under it
pub stands_fork : (order : List ℕ) (k : ℕ) → stands_for order (length order + k) ≡ under order k
stands_fork order k =
    let same : length order + k - length order ≡ k = omega arith in
    cond-false (nat_lt (length order + k) (length order)) _ _
    (le-ltb (length order + k) (length order) (omega arith))
    ∙ ap (under order) same

-- so does the vertex of a node
pub vertex_stands : (order : List ℕ) (k : ℕ) → AreNumbers order → 0 < length order
    → k ≤ 2 * fork_count order → stands_for order (vertex_of order k) ≡ under order k
vertex_stands order k numbers some within =
    elim (cases_Bool (nat_lt k (fork_count order))) [
      | inl e ↦ (let fork = ltb-true k (fork_count order) e in
          ap (stands_for order) (fork_vertex order k fork) ∙ stands_fork order k)
      | inr e ↦
          (let found = leaf_of order k numbers some (ltb-false k (fork_count order) e) within in
          ap (stands_for order) found.1.vertex
          ∙ stands_itself order found.0 found.1.below ∙ sym found.1.under)
    ]

-- the vertex of a node is one of the vertices
pub vertex_within : (order : List ℕ) (k : ℕ) → AreNumbers order → 0 < length order
    → k ≤ 2 * fork_count order → vertex_of order k < vertex_count order
vertex_within order k numbers some within =
    elim (cases_Bool (nat_lt k (fork_count order))) [
      | inl e ↦ (let fork = ltb-true k (fork_count order) e in
          let is = fork_vertex order k fork in omega arith)
      | inr e ↦
          (let found = leaf_of order k numbers some (ltb-false k (fork_count order) e) within in
          let is = found.1.vertex in let below = found.1.below in omega arith)
    ]
