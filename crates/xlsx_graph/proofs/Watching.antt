-- Vertices of a tree that were begun stand for formulas.
use Rattle.std.proofs.Common.{◌≡◌, ◌∙◌, ℕ, ◌<◌, true, false, List, [], ◌∷◌, ◌++◌, refl, sym, ap}
use Rattle.std.proofs.Common.{append_assoc, append-nil, flat_map, subst, length, map, arith, ◌+◌}
use Rattle.std.proofs.Common.{◌*◌, filter, get_or, take}
use Rattle.std.specs.Prelude.{nat_lt, Option, Some}
use Rattle.std.specs.List.{list_all, slice_get}
use Rattle.std.proofs.lemmas.Bool.{and_from, le-leb, lt-ltb}
use Rattle.std.proofs.lemmas.Grind.{flat_map-append, take_at_read}
use Rattle.std.proofs.lemmas.List.{map-append}
use Rattle.std.proofs.lemmas.List.Elements.{filter-append}
use Rattle.std.proofs.lemmas.List.Folds.{list_all-append}
use Rattle.std.proofs.lemmas.List.FromFn.{map-range_with_len_more}
use Rattle.calculation_order.specs.Edges.{numbers_below}
use Rattle.calculation_order.specs.Links.{Linked, with_closed, with_link}
use Rattle.xlsx_graph.specs.Tree.{Watches, fork_count, fork_links, sons_of, stands_for, under}
use Rattle.xlsx_graph.specs.Tree.{vertex_count, vertex_of, AreWatched, IsHullOf, IsTree, asked_by}
use Rattle.xlsx_graph.specs.Tree.{asked_of, is_hull, meets_at}
use Rattle.xlsx_graph.specs.Hulls.{may_meet, meets_all}
use Rattle.xlsx_graph.specs.declared.hulls.Hull.{Hull}
use Rattle.xlsx_graph.specs.declared.named.BookArea.{BookArea}
use Rattle.xlsx_graph.specs.declared.workbook_graph.Placed.{Placed}
use Rattle.xlsx_graph.proofs.HullsHold.{all_met, none_apart}
use Rattle.xlsx_graph.proofs.UnderForks.{stands_fork, stands_itself, under_fork}

-- no more vertices stand for no more formulas
pub watches_none : (order : List ℕ) (old new : Linked) → new ≡ old → Watches order old new []
watches_none order old new same = record {
  vertices = [];
  formulas = ap (λ (l : Linked). l.formulas) same;
  links = ap (λ (l : Linked). l.links) same;
  begun = ap (λ (l : Linked). l.begun) same ∙ sym (append-nil old.begun);
  within = refl;
  meant = refl;
}

-- one vertex
pub watches_one : (order : List ℕ) (old new : Linked) (v : ℕ) (ns : List ℕ)
    → new ≡ with_link old v → v < vertex_count order → stands_for order v ≡ ns
    → Watches order old new ns
watches_one order old new v ns same below stands = record {
  vertices = v ∷ [];
  formulas = ap (λ (l : Linked). l.formulas) same;
  links = ap (λ (l : Linked). l.links) same;
  begun = ap (λ (l : Linked). l.begun) same;
  within = and_from _ _ (lt-ltb v (vertex_count order) below) refl;
  meant = append-nil (stands_for order v) ∙ stands;
}

-- some, and then others
pub watches_both : (order : List ℕ) (a b c : Linked) (ms ns : List ℕ) → Watches order a b ms
    → Watches order b c ns → Watches order a c (ms ++ ns)
watches_both order a b c ms ns first second = record {
  vertices = first.vertices ++ second.vertices;
  formulas = second.formulas ∙ first.formulas;
  links = second.links ∙ first.links;
  begun =
      second.begun ∙ ap (λ vs. vs ++ second.vertices) first.begun
      ∙ append_assoc a.begun first.vertices second.vertices;
  within =
      list_all-append (λ v. nat_lt v (vertex_count order)) first.vertices second.vertices
      ∙ and_from _ _ first.within second.within;
  meant =
      flat_map-append (stands_for order) first.vertices second.vertices
      ∙ ap (λ ks. ks ++ flat_map (stands_for order) second.vertices) first.meant
      ∙ ap (λ ks. ms ++ ks) second.meant;
}

-- the same formulas, told otherwise
pub watches_as : (order : List ℕ) (a b : Linked) (ms ns : List ℕ) → ms ≡ ns
    → Watches order a b ms → Watches order a b ns
watches_as order a b ms ns e watches = subst (Watches order a b) e watches

-- a formula that is met at a leaf
pub watches_leaf : (order : List ℕ) (old new : Linked) (n : ℕ) (ns : List ℕ) → 0 < length order
    → n < length order → ns ≡ n ∷ [] → new ≡ with_link old n → Watches order old new ns
watches_leaf order old new n ns some below is same =
    watches_one order old new n ns same (omega arith) (stands_itself order n below ∙ sym is)

-- a fork of which an area meets all
pub watches_fork : (order : List ℕ) (old new : Linked) (k : ℕ) (ns : List ℕ)
    → k < fork_count order → ns ≡ under order k → new ≡ with_link old (length order + k)
    → Watches order old new ns
watches_fork order old new k ns fork is same =
    watches_one order old new (length order + k) ns same (omega arith)
    (stands_fork order k ∙ sym is)

-- one more fork is closed
pub forks_step : (order : List ℕ) (start : List (List ℕ)) (old a b new : Linked) (k v w : ℕ)
    → old.begun ≡ [] → old.links ≡ start ++ map (sons_of order) (numbers_below k)
    → a ≡ with_link old v → b ≡ with_link a w → new ≡ with_closed b
    → v ≡ vertex_of order (2 * k + 1) → w ≡ vertex_of order (2 * k + 2)
    → new.links ≡ start ++ map (sons_of order) (numbers_below (k + 1))
forks_step order start old a b new k v w begun links first second closed left right =
    let told : new.links ≡ old.links ++ (v ∷ w ∷ []) ∷ [] =
    ap (λ (l : Linked). l.links) closed
    ∙ ap (λ (l : Linked). l.links ++ l.begun ∷ []) second
    ∙ ap (λ (l : Linked). l.links ++ (l.begun ++ w ∷ []) ∷ []) first
    ∙ ap (λ vs. old.links ++ ((vs ++ v ∷ []) ++ w ∷ []) ∷ []) begun in
    told
    ∙ ap (λ n. old.links ++ (n ∷ w ∷ []) ∷ []) left
    ∙ ap (λ n. old.links ++ (vertex_of order (2 * k + 1) ∷ n ∷ []) ∷ []) right
    ∙ ap (λ ls. ls ++ sons_of order k ∷ []) links
    ∙ append_assoc start (map (sons_of order) (numbers_below k)) (sons_of order k ∷ [])
    ∙ ap (λ ls. start ++ ls)
    (sym (map-range_with_len_more (sons_of order) 0 k k (omega arith)))

-- all forks are closed
pub forks_all : (order : List ℕ) (count : ℕ) → count ≡ fork_count order
    → map (sons_of order) (numbers_below count) ≡ fork_links order
unfolding fork_links
forks_all order count is = ap (λ n. map (sons_of order) (numbers_below n)) is

-- ---- what an area meets under a node

hull_of : (placed : List Placed) (order : List ℕ) (hulls : List Hull) (h : Hull) (k : ℕ)
    → IsTree placed order hulls → slice_get hulls k ≡ Some h
    → is_hull placed h (under order k) ≡ true
hull_of placed order hulls h k tree at =
    subst (λ (o : Option Hull). IsHullOf placed o (under order k)) at
    (tree.have k (le-leb 0 k (omega arith)))

-- none, where it is apart from a fork's hull
pub watches_apart : (placed : List Placed) (order : List ℕ) (hulls : List Hull) (a : BookArea)
    (h : Hull) (k : ℕ) (old : Linked) → IsTree placed order hulls → slice_get hulls k ≡ Some h
    → may_meet a h ≡ false → Watches order old old (filter (meets_at placed a) (under order k))
watches_apart placed order hulls a h k old tree at apart =
    watches_as order old old [] (filter (meets_at placed a) (under order k))
    (sym (none_apart placed a h (under order k) (hull_of placed order hulls h k tree at) apart))
    (watches_none order old old refl)

-- all, where it meets the inside of the hull
pub watches_all : (placed : List Placed) (order : List ℕ) (hulls : List Hull) (a : BookArea)
    (h : Hull) (k : ℕ) (old new : Linked) → IsTree placed order hulls → slice_get hulls k ≡ Some h
    → k < fork_count order → meets_all a h ≡ true → new ≡ with_link old (length order + k)
    → Watches order old new (filter (meets_at placed a) (under order k))
watches_all placed order hulls a h k old new tree at fork met same =
    watches_fork order old new k (filter (meets_at placed a) (under order k)) fork
    (all_met placed a h (under order k) (hull_of placed order hulls h k tree at) met) same

-- those under the two sons of a fork
pub watches_sons : (placed : List Placed) (order : List ℕ) (a : BookArea) (k : ℕ)
    (x y z : Linked) → k < fork_count order
    → Watches order x y (filter (meets_at placed a) (under order (2 * k + 1)))
    → Watches order y z (filter (meets_at placed a) (under order (2 * k + 2)))
    → Watches order x z (filter (meets_at placed a) (under order k))
watches_sons placed order a k x y z fork left right =
    watches_as order x z _ (filter (meets_at placed a) (under order k))
    (sym (ap (filter (meets_at placed a)) (under_fork order k fork)
    ∙ filter-append (meets_at placed a) (under order (2 * k + 1)) (under order (2 * k + 2))))
    (watches_both order x y z (filter (meets_at placed a) (under order (2 * k + 1)))
    (filter (meets_at placed a) (under order (2 * k + 2))) left right)

-- ---- areas and formulas

-- one more area
pub watches_more : (placed : List Placed) (order : List ℕ) (areas : List BookArea) (i : ℕ)
    (a : BookArea) (x y z : Linked) → i < length areas → a ≡ get_or areas i a
    → Watches order x y (flat_map (asked_of placed order) (take i areas))
    → Watches order y z (asked_of placed order a)
    → Watches order x z (flat_map (asked_of placed order) (take (i + 1) areas))
watches_more placed order areas i a x y z within is before here =
    let asked = asked_of placed order in
    watches_as order x z _ (flat_map asked (take (i + 1) areas))
    (sym (ap (flat_map asked) ((take_at_read areas i a within).1
    ∙ ap (λ b. take i areas ++ b ∷ []) (sym is))
    ∙ flat_map-append asked (take i areas) (a ∷ [])
    ∙ ap (λ ns. flat_map asked (take i areas) ++ ns) (append-nil (asked a))))
    (watches_both order x y z (flat_map asked (take i areas)) (asked a) before here)

-- one more formula
pub watched_more : (areas : List BookArea) (placed : List Placed) (order : List ℕ) (count : ℕ)
    (asking : List Placed) (p : Placed) (x y z : Linked)
    → AreWatched areas placed order count asking x
    → Watches order x y (asked_by areas placed order p) → z ≡ with_closed y
    → AreWatched areas placed order count (asking ++ p ∷ []) z
watched_more areas placed order count asking p x y z before here closed =
    let told : z.links ≡ x.links ++ here.vertices ∷ [] =
    ap (λ (l : Linked). l.links) closed
    ∙ ap (λ ls. ls ++ y.begun ∷ []) here.links
    ∙ ap (λ vs. x.links ++ vs ∷ [])
    (here.begun ∙ ap (λ vs. vs ++ here.vertices) before.begun) in
    record {
      formulas = ap (λ (l : Linked). l.formulas) closed ∙ here.formulas ∙ before.formulas;
      begun = ap (λ (l : Linked). l.begun) closed;
      within = ap (list_all (list_all (λ v. nat_lt v (vertex_count order)))) told
          ∙ list_all-append (list_all (λ v. nat_lt v (vertex_count order))) x.links
          (here.vertices ∷ [])
          ∙ and_from _ _ before.within (and_from _ _ here.within refl);
      meant = ap (map (flat_map (stands_for order))) told
          ∙ map-append (flat_map (stands_for order)) x.links (here.vertices ∷ [])
          ∙ ap (λ ls. ls ++ flat_map (stands_for order) here.vertices ∷ []) before.meant
          ∙ ap (λ ns. map (asked_by areas placed order) asking ++ ns ∷ []) here.meant
          ∙ sym (map-append (asked_by areas placed order) asking (p ∷ []));
    }

-- no formula yet
pub watched_none : (areas : List BookArea) (placed : List Placed) (order : List ℕ) (count : ℕ)
    (x : Linked) → x ≡ record { formulas = count; links = []; begun = [] }
    → AreWatched areas placed order count [] x
watched_none areas placed order count x is = record {
  formulas = ap (λ (l : Linked). l.formulas) is;
  begun = ap (λ (l : Linked). l.begun) is;
  within = ap (λ (l : Linked).
      list_all (list_all (λ v. nat_lt v (vertex_count order))) l.links) is;
  meant = ap (λ (l : Linked). map (flat_map (stands_for order)) l.links) is;
}

-- the formulas up to the next one
pub watched_next : (areas : List BookArea) (placed : List Placed) (order : List ℕ) (count i : ℕ)
    (p : Placed) (x y : Linked) → i < length placed → p ≡ get_or placed i p
    → AreWatched areas placed order count (take i placed) x
    → (AreWatched areas placed order count (take i placed) x
    → AreWatched areas placed order count (take i placed ++ p ∷ []) y)
    → AreWatched areas placed order count (take (i + 1) placed) y
watched_next areas placed order count i p x y within is before step =
    subst (λ (asking : List Placed). AreWatched areas placed order count asking y)
    (sym ((take_at_read placed i p within).1 ∙ ap (λ q. take i placed ++ q ∷ []) (sym is)))
    (step before)
