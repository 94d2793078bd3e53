-- The links of formulas by way of a tree tell what each of them needs.
use Rattle.std.proofs.Common.{◌≡◌, ◌∙◌, ℕ, zero, suc, ◌+◌, ◌-◌, ◌*◌, ◌<◌, ◌≤◌, Bool, true, false}
use Rattle.std.proofs.Common.{List, [], ◌∷◌, ◌++◌, cond, refl, sym, ap, subst, arith, length, map}
use Rattle.std.proofs.Common.{filter, flat_map, append-nil, inl, inr, zero-add}
use Rattle.std.specs.Prelude.{◌&&◌, ◌||◌, ◌==◌, nat_lt, Option, Some, option_to_list, option_map}
use Rattle.std.specs.List.{list_all, list_any, slice_get, slice_index_or, range_with_len}
use Rattle.std.proofs.lemmas.Bool.{and_parts, and_from, or_left, or_right, cases_Bool, eq-eqb}
use Rattle.std.proofs.lemmas.Bool.{lt-ltb, le-ltb, ltb-true, ltb-false, cond-true, cond-false}
use Rattle.std.proofs.lemmas.Bool.{ne_eqb}
use Rattle.std.proofs.lemmas.List.{length-map, length-append, get_or_append_left, get_or-append-add}
use Rattle.std.proofs.lemmas.List.Folds.{list_any-append}
use Rattle.std.proofs.lemmas.List.FromFn.{length-map-range_with_len, get_or-map-range_with_len}
use Rattle.std.proofs.lemmas.Option.{slice_get-map}
use Rattle.calculation_order.proofs.Members.{in_filter, of_filter}
use Rattle.calculation_order.specs.Edges.{is_number_of, needs_of, numbers_below}
use Rattle.calculation_order.specs.Links.{Linked, members_within, members, leads_on, lead_on_from}
use Rattle.calculation_order.specs.Links.{AreGrouped, AreLinked}
use Rattle.xlsx_graph.specs.Gathered.{formula_in}
use Rattle.xlsx_graph.specs.Graph.{GraphFormula, needed, needs, numbers_needed}
use Rattle.xlsx_graph.specs.Naming.{OpenText}
use Rattle.xlsx_graph.specs.Tree.{fork_count, under_within, under, AreNumbers, vertex_of, sons_of}
use Rattle.xlsx_graph.specs.Tree.{fork_links, stands_for, vertex_count, meets_at, asked_of}
use Rattle.xlsx_graph.specs.Tree.{asked_by, AreWatched}
use Rattle.xlsx_graph.specs.declared.named.BookArea.{BookArea}
use Rattle.xlsx_graph.specs.declared.workbook_graph.Placed.{Placed}
use Rattle.xlsx_graph.proofs.HullsHold.{meets_below}
use Rattle.xlsx_graph.proofs.UnderForks.{same_within, leaf_of, fork_vertex, under_root}
use Rattle.xlsx_graph.proofs.UnderForks.{vertex_within}

-- two tests that pass for the same answer alike
same_tests : (a b : Bool) → (a ≡ true → b ≡ true) → (b ≡ true → a ≡ true) → a ≡ b
same_tests true b to from = sym (to refl)
same_tests false true to from = from refl
same_tests false false to from = refl

-- ---- what links are needed for: the edges

-- a formula needs the one of a number
abbrev needs_at : List GraphFormula → GraphFormula → ℕ → Bool
needs_at [] f n = false
needs_at (g ∷ gs) f zero = needs f g
needs_at (g ∷ gs) f (suc n) = needs_at gs f n

chosen_in : (b : Bool) (n : ℕ) (ns : List ℕ) (m : ℕ)
    → is_number_of (cond b (n ∷ ns) ns) m ≡ ((b && (n == m)) || is_number_of ns m)
chosen_in true n ns m = refl
chosen_in false n ns m = refl

none_before : (gs : List GraphFormula) (f : GraphFormula) (from m : ℕ) → m < from
    → is_number_of (numbers_needed from gs f) m ≡ false
none_before [] f from m before = refl
none_before (g ∷ gs) f from m before =
    let other : (from == m) ≡ false = ne_eqb from m (λ e. omega arith) in
    chosen_in (needs f g) from (numbers_needed (suc from) gs f) m
    ∙ ap (λ t. (needs f g && t) || is_number_of (numbers_needed (suc from) gs f) m) other
    ∙ ap (λ t. (needs f g && false) || t) (none_before gs f (suc from) m (omega arith))
    ∙ not_both (needs f g) where
      not_both : (b : Bool) → ((b && false) || false) ≡ false
      not_both true = refl
      not_both false = refl

at_number : (gs : List GraphFormula) (f : GraphFormula) (from k : ℕ)
    → is_number_of (numbers_needed from gs f) (from + k) ≡ needs_at gs f k
at_number [] f from k = refl
at_number (g ∷ gs) f from zero =
    let here : (from == from + 0) ≡ true = eq-eqb from (from + 0) (omega arith) in
    chosen_in (needs f g) from (numbers_needed (suc from) gs f) (from + 0)
    ∙ ap (λ t. (needs f g && t) || is_number_of (numbers_needed (suc from) gs f) (from + 0)) here
    ∙ ap (λ t. (needs f g && true) || t) (none_before gs f (suc from) (from + 0) (omega arith))
    ∙ alone (needs f g) where
      alone : (b : Bool) → ((b && true) || false) ≡ b
      alone true = refl
      alone false = refl
at_number (g ∷ gs) f from (suc k) =
    let other : (from == from + suc k) ≡ false = ne_eqb from (from + suc k) (λ e. omega arith) in
    let next : suc from + k ≡ from + suc k = omega arith in
    chosen_in (needs f g) from (numbers_needed (suc from) gs f) (from + suc k)
    ∙ ap (λ t. (needs f g && t) || is_number_of (numbers_needed (suc from) gs f) (from + suc k))
    other
    ∙ ap (λ n. (needs f g && false) || is_number_of (numbers_needed (suc from) gs f) n) (sym next)
    ∙ ap (λ t. (needs f g && false) || t) (at_number gs f (suc from) k)
    ∙ other_alone (needs f g) (needs_at gs f k) where
      other_alone : (b t : Bool) → ((b && false) || t) ≡ t
      other_alone true t = refl
      other_alone false t = refl

at_zero : (gs : List GraphFormula) (f : GraphFormula) (k : ℕ)
    → is_number_of (numbers_needed 0 gs f) k ≡ needs_at gs f k
at_zero gs f k =
    subst (λ (n : ℕ). is_number_of (numbers_needed 0 gs f) n ≡ needs_at gs f k) (zero-add k)
    (at_number gs f 0 k)

-- one of these areas asks for values of the formula of a number
abbrev asks_among : List Placed → List BookArea → ℕ → Bool
asks_among placed these n = list_any (λ a. a.is_valued && meets_at placed a n) these

asks_none : (these : List BookArea) (n : ℕ) → asks_among [] these n ≡ false
asks_none [] n = refl
asks_none (a ∷ these) n =
    ap (λ t. t || asks_among [] these n) (never a.is_valued) ∙ asks_none these n where
      never : (b : Bool) → (b && false) ≡ false
      never true = refl
      never false = refl

needs_among : (areas : List BookArea) (words : List OpenText) (placed : List Placed)
    (f : GraphFormula) (n : ℕ)
    → needs_at (map (formula_in areas words) placed) f n ≡ asks_among placed f.found.areas n
needs_among areas words [] f n = sym (asks_none f.found.areas n)
needs_among areas words (p ∷ ps) f zero = refl
needs_among areas words (p ∷ ps) f (suc n) = needs_among areas words ps f n

-- ---- what is asked for

asked_one : (placed : List Placed) (order : List ℕ) (a : BookArea) (n : ℕ) → AreNumbers order
    → length order ≡ length placed
    → is_number_of (filter (meets_at placed a) (under order 0)) n ≡ meets_at placed a n
asked_one placed order a n numbers size =
    same_tests _ _ (λ is. (of_filter (meets_at placed a) (under order 0) n is).1)
    (λ meet.
    let below = meets_below placed a n meet in
    let least : n < length order = omega arith in
    in_filter (meets_at placed a) (under order 0) n (under_root order n (numbers.all n least)) meet)

asked_valued : (placed : List Placed) (order : List ℕ) (a : BookArea) (n : ℕ) (b : Bool)
    → AreNumbers order → length order ≡ length placed
    → is_number_of (cond b (filter (meets_at placed a) (under order 0)) []) n
    ≡ (b && meets_at placed a n)
asked_valued placed order a n true numbers size = asked_one placed order a n numbers size
asked_valued placed order a n false numbers size = refl

asked_all : (placed : List Placed) (order : List ℕ) (these : List BookArea) (n : ℕ)
    → AreNumbers order → length order ≡ length placed
    → is_number_of (flat_map (asked_of placed order) these) n ≡ asks_among placed these n
asked_all placed order [] n numbers size = refl
asked_all placed order (a ∷ these) n numbers size =
    list_any-append (λ m. m == n) (asked_of placed order a) (flat_map (asked_of placed order) these)
    ∙ ap (λ t. t || is_number_of (flat_map (asked_of placed order) these) n)
    (asked_valued placed order a n a.is_valued numbers size)
    ∙ ap (λ t. (a.is_valued && meets_at placed a n) || t)
    (asked_all placed order these n numbers size)

-- ---- what vertices stand for

-- the links of the forks of a tree stand behind those of formulas
pub record HasForks (order : List ℕ) (linked : Linked) : Type 0 where
  pub own : List (List ℕ)
  pub size : length own ≡ length order
  pub formulas : linked.formulas ≡ length order
  pub links : linked.links ≡ own ++ fork_links order

fork_at : (order : List ℕ) (linked : Linked) → HasForks order linked → (k : ℕ)
    → k < fork_count order → needs_of linked.links (length order + k) ≡ sons_of order k
unfolding fork_links
fork_at order linked has k fork =
    ap (λ ls. slice_index_or ls (length order + k) []) has.links
    ∙ ap (λ n. slice_index_or (has.own ++ fork_links order) (n + k) []) (sym has.size)
    ∙ get_or-append-add has.own (fork_links order) k []
    ∙ get_or-map-range_with_len (sons_of order) 0 (fork_count order) k k [] fork (omega arith)

-- the vertex of a node stands for the formulas under it
members_node : (turns : ℕ) (order : List ℕ) (linked : Linked) → HasForks order linked
    → AreNumbers order → 0 < length order → (k : ℕ) → k ≤ 2 * fork_count order
    → members_within turns linked (vertex_of order k) ≡ under_within turns order k
unfolding under_within
members_node zero order linked has numbers some k within = refl
members_node (suc turns) order linked has numbers some k within =
    elim (cases_Bool (nat_lt k (fork_count order))) [
      | inl e ↦ (let fork = ltb-true k (fork_count order) e in
          let formulas = has.formulas in
          let at = fork_vertex order k fork in
          let is_group : nat_lt (vertex_of order k) linked.formulas ≡ false =
          le-ltb (vertex_of order k) linked.formulas (omega arith) in
          cond-false (nat_lt (vertex_of order k) linked.formulas) _ _ is_group
          ∙ ap (λ v. flat_map (members_within turns linked) (needs_of linked.links v)) at
          ∙ ap (flat_map (members_within turns linked)) (fork_at order linked has k fork)
          ∙ ap (λ ms. members_within turns linked (vertex_of order (2 * k + 1)) ++ ms)
          (append-nil (members_within turns linked (vertex_of order (2 * k + 2))))
          ∙ ap (λ ms. ms ++ members_within turns linked (vertex_of order (2 * k + 2)))
          (members_node turns order linked has numbers some (2 * k + 1) (omega arith))
          ∙ ap (λ ms. under_within turns order (2 * k + 1) ++ ms)
          (members_node turns order linked has numbers some (2 * k + 2) (omega arith))
          ∙ sym (cond-true (nat_lt k (fork_count order)) _ _ e))
      | inr e ↦ (let leaf = ltb-false k (fork_count order) e in
          let found = leaf_of order k numbers some leaf within in
          let formulas = has.formulas in
          let below = found.1.below in
          let vertex = found.1.vertex in
          let is_formula : nat_lt (vertex_of order k) linked.formulas ≡ true =
          lt-ltb (vertex_of order k) linked.formulas (omega arith) in
          cond-true (nat_lt (vertex_of order k) linked.formulas) _ _ is_formula
          ∙ ap (λ m. m ∷ []) vertex ∙ sym (at_leaf found.0 found.1.at)
          ∙ sym (cond-false (nat_lt k (fork_count order)) _ _ e))
    ] where
      at_leaf : (m : ℕ) → slice_get order (k - fork_count order) ≡ Some m
          → option_to_list (slice_get order (k - fork_count order)) ≡ m ∷ []
      at_leaf m at = ap (λ (o : Option ℕ). option_to_list o) at

length-forks : (order : List ℕ) → length (fork_links order) ≡ fork_count order
unfolding fork_links
length-forks order = length-map-range_with_len (sons_of order) 0 (fork_count order)

vertices_are : (order : List ℕ) (linked : Linked) → HasForks order linked
    → length linked.links ≡ length order + fork_count order
vertices_are order linked has =
    ap length has.links ∙ length-append has.own (fork_links order)
    ∙ ap (λ n. n + length (fork_links order)) has.size
    ∙ ap (λ n. length order + n) (length-forks order)

-- with turns enough, a node has the formulas under it
enough_turns : (order : List ℕ) (k turns : ℕ) → 0 < length order
    → turns ≡ length order + fork_count order
    → under_within (suc turns) order k ≡ under order k
unfolding under
enough_turns order k turns some e =
    let same : turns ≡ suc (2 * fork_count order) = omega arith in
    ap (λ t. under_within (suc t) order k) same
    ∙ same_within (suc (2 * fork_count order)) order k (omega arith) (omega arith)

-- a vertex stands for its formulas
members_are : (order : List ℕ) (linked : Linked) → HasForks order linked → AreNumbers order
    → (v : ℕ) → v < vertex_count order → members linked v ≡ stands_for order v
unfolding members
members_are order linked has numbers v within =
    elim (cases_Bool (nat_lt v (length order))) [
      | inl e ↦ (let formulas = has.formulas in
          cond-true (nat_lt v linked.formulas) _ _ (ap (nat_lt v) formulas ∙ e)
          ∙ sym (cond-true (nat_lt v (length order)) _ _ e))
      | inr e ↦ (let group = ltb-false v (length order) e in
          let k = v - length order in
          let fork : k < fork_count order = omega arith in
          let here : vertex_of order k ≡ v =
          fork_vertex order k fork ∙ add_back (length order) v group in
          ap (members_within (suc (length linked.links)) linked) (sym here)
          ∙ members_node (suc (length linked.links)) order linked has numbers (omega arith) k
          (omega arith)
          ∙ enough_turns order k (length linked.links) (omega arith)
          (vertices_are order linked has)
          ∙ sym (cond-false (nat_lt v (length order)) _ _ e))
    ] where
      add_back : (a b : ℕ) → a ≤ b → a + (b - a) ≡ b
      add_back a b le = omega arith

all_members : (order : List ℕ) (linked : Linked) → HasForks order linked → AreNumbers order
    → (vs : List ℕ) → list_all (λ v. nat_lt v (vertex_count order)) vs ≡ true
    → flat_map (members linked) vs ≡ flat_map (stands_for order) vs
all_members order linked has numbers [] within = refl
all_members order linked has numbers (v ∷ vs) within =
    let parts = and_parts (nat_lt v (vertex_count order)) _ within in
    ap (λ ms. ms ++ flat_map (members linked) vs)
    (members_are order linked has numbers v (ltb-true v (vertex_count order) parts.0))
    ∙ ap (λ ms. stands_for order v ++ ms) (all_members order linked has numbers vs parts.1)

-- ---- the lists of formulas

list_at : (p : List ℕ → Bool) (ls : List (List ℕ)) (n : ℕ) → list_all p ls ≡ true → n < length ls
    → p (slice_index_or ls n []) ≡ true
list_at p [] n all below = absurd (omega arith)
list_at p (l ∷ ls) zero all below = (and_parts (p l) (list_all p ls) all).0
list_at p (l ∷ ls) (suc n) all below =
    list_at p ls n (and_parts (p l) (list_all p ls) all).1 (omega arith)

-- lists that are mapped alike are so at each place
mapped_at : {X : Type 0} (f : List ℕ → List ℕ) (g : X → List ℕ) (ls : List (List ℕ))
    (xs : List X) (n : ℕ) (x : X) → map f ls ≡ map g xs → slice_get xs n ≡ Some x
    → f (slice_index_or ls n []) ≡ g x
mapped_at f g [] [] n x e at = absurd (cc)
mapped_at f g [] (y ∷ ys) n x e at = absurd (cc)
mapped_at f g (l ∷ ls) [] n x e at = absurd (cc)
mapped_at f g (l ∷ ls) (y ∷ ys) zero x e at =
    let first : f l ≡ g y = cc in
    let same : y ≡ x = cc in
    first ∙ ap g same
mapped_at f g (l ∷ ls) (y ∷ ys) (suc n) x e at =
    let rest : map f ls ≡ map g ys = cc in
    mapped_at f g ls ys n x rest at

get_within : {X : Type 0} (xs : List X) (n : ℕ) → n < length xs
    → (x : X) × (slice_get xs n ≡ Some x)
get_within [] n below = absurd (omega arith)
get_within (x ∷ xs) zero below = (x, refl)
get_within (x ∷ xs) (suc n) below = get_within xs n (omega arith)

edges_at : (formulas : List GraphFormula) (n : ℕ) (f : GraphFormula)
    → slice_get formulas n ≡ Some f
    → needs_of (needed formulas) n ≡ numbers_needed 0 formulas f
unfolding needed
edges_at formulas n f at = edges_in formulas n at where
  edges_in : (fs : List GraphFormula) (k : ℕ) → slice_get fs k ≡ Some f
      → needs_of (map (numbers_needed 0 formulas) fs) k ≡ numbers_needed 0 formulas f
  edges_in [] k here = absurd (cc)
  edges_in (g ∷ gs) zero here =
      let e : g ≡ f = cc in ap (numbers_needed 0 formulas) e
  edges_in (g ∷ gs) (suc k) here = edges_in gs k here

-- ---- all links

-- the links of formulas, and behind them those of the forks
pub record AreTreeLinks (areas : List BookArea) (placed : List Placed) (order : List ℕ)
    (before linked : Linked) : Type 0 where
  pub size : length order ≡ length placed
  pub numbers : AreNumbers order
  pub watched : AreWatched areas placed order (length placed) placed before
  pub formulas : linked.formulas ≡ before.formulas
  pub links : linked.links ≡ before.links ++ fork_links order

own_size : (areas : List BookArea) (placed : List Placed) (order : List ℕ) (before : Linked)
    → AreWatched areas placed order (length placed) placed before
    → length before.links ≡ length placed
own_size areas placed order before watched =
    sym (length-map before.links (flat_map (stands_for order)))
    ∙ ap length watched.meant ∙ length-map placed (asked_by areas placed order)

has_forks : (areas : List BookArea) (placed : List Placed) (order : List ℕ)
    (before linked : Linked) → AreTreeLinks areas placed order before linked
    → HasForks order linked
has_forks areas placed order before linked are = record {
  own = before.links;
  size = own_size areas placed order before are.watched ∙ sym are.size;
  formulas = are.formulas ∙ are.watched.formulas ∙ sym are.size;
  links = are.links;
}

pub are_linked : (areas : List BookArea) (words : List OpenText) (placed : List Placed)
    (order : List ℕ) (before linked : Linked) → AreTreeLinks areas placed order before linked
    → AreLinked (needed (map (formula_in areas words) placed)) linked
unfolding needed
are_linked areas words placed order before linked are =
    let formulas = map (formula_in areas words) placed in
    let has = has_forks areas placed order before linked are in
    let count : linked.formulas ≡ length placed = has.formulas ∙ are.size in
    record {
      size = length-map formulas (numbers_needed 0 formulas)
          ∙ length-map placed (formula_in areas words) ∙ sym count;
      same = λ n m below.
          let within : n < length placed = omega arith in
          let found = get_within placed n within in
          let p = found.0 in
          let f = formula_in areas words p in
          let own = own_size areas placed order before are.watched in
          let listed : n < length before.links = omega arith in
          let here : needs_of linked.links n ≡ slice_index_or before.links n [] =
          ap (λ ls. slice_index_or ls n []) are.links
          ∙ get_or_append_left before.links (fork_links order) [] n listed in
          ap (λ ns. is_number_of ns m)
          (edges_at formulas n f (slice_get-map (formula_in areas words) placed n
          ∙ ap (λ (o : Option Placed). option_map (formula_in areas words) o) found.1))
          ∙ at_zero formulas f m
          ∙ needs_among areas words placed f m
          ∙ sym (asked_all placed order f.found.areas m are.numbers are.size)
          ∙ ap (λ ns. is_number_of ns m)
          (sym (mapped_at (flat_map (stands_for order)) (asked_by areas placed order)
          before.links placed n p are.watched.meant found.1)
          ∙ sym (all_members order linked has are.numbers (slice_index_or before.links n [])
          (list_at (list_all (λ v. nat_lt v (vertex_count order))) before.links n
          are.watched.within listed))
          ∙ ap (flat_map (members linked)) (sym here));
    }

-- ---- groups lead on

lead_both : (formulas most v : ℕ) (xs ys : List (List ℕ))
    → lead_on_from formulas most v xs ≡ true
    → lead_on_from formulas most (v + length xs) ys ≡ true
    → lead_on_from formulas most v (xs ++ ys) ≡ true
lead_both formulas most v [] ys first second =
    let same : v + 0 ≡ v = omega arith in
    subst (λ (k : ℕ). lead_on_from formulas most k ys ≡ true) same second
lead_both formulas most v (x ∷ xs) ys first second =
    let parts = and_parts (list_all (λ w. nat_lt w most
    && (nat_lt v formulas || leads_on formulas v w)) x) _ first in
    let same : v + suc (length xs) ≡ suc v + length xs = omega arith in
    and_from _ _ parts.0
    (lead_both formulas most (suc v) xs ys parts.1
    (subst (λ (k : ℕ). lead_on_from formulas most k ys ≡ true) same second))

formula_leads : (formulas most v : ℕ) (ws : List ℕ) → v < formulas
    → list_all (λ w. nat_lt w most) ws ≡ true
    → list_all (λ w. nat_lt w most && (nat_lt v formulas || leads_on formulas v w)) ws ≡ true
formula_leads formulas most v [] own within = refl
formula_leads formulas most v (w ∷ ws) own within =
    let parts = and_parts (nat_lt w most) (list_all (λ u. nat_lt u most) ws) within in
    and_from _ _ (and_from _ _ parts.0 (or_left _ _ (lt-ltb v formulas own)))
    (formula_leads formulas most v ws own parts.1)

formulas_lead : (formulas most v : ℕ) (ls : List (List ℕ)) → v + length ls ≤ formulas
    → list_all (list_all (λ w. nat_lt w most)) ls ≡ true
    → lead_on_from formulas most v ls ≡ true
formulas_lead formulas most v [] own within = refl
formulas_lead formulas most v (l ∷ ls) own within =
    let parts = and_parts (list_all (λ w. nat_lt w most) l) _ within in
    and_from _ _ (formula_leads formulas most v l (omega arith) parts.0)
    (formulas_lead formulas most (suc v) ls (omega arith) parts.1)

-- a son is a formula, or a fork behind its father
son_leads : (order : List ℕ) (j k : ℕ) → AreNumbers order → 0 < length order
    → j ≤ 2 * fork_count order → k < j
    → leads_on (length order) (length order + k) (vertex_of order j) ≡ true
son_leads order j k numbers some within behind =
    elim (cases_Bool (nat_lt j (fork_count order))) [
      | inl e ↦ (let fork = ltb-true j (fork_count order) e in
          let is = fork_vertex order j fork in
          or_right _ _ (lt-ltb (length order + k) (vertex_of order j) (omega arith)))
      | inr e ↦
          (let found = leaf_of order j numbers some (ltb-false j (fork_count order) e) within in
          let is = found.1.vertex in
          let below = found.1.below in
          or_left _ _ (lt-ltb (vertex_of order j) (length order) (omega arith)))
    ]

forks_lead : (order : List ℕ) (k count : ℕ) → AreNumbers order → 0 < length order
    → k + count ≤ fork_count order
    → lead_on_from (length order) (vertex_count order) (length order + k)
    (map (sons_of order) (range_with_len k count)) ≡ true
forks_lead order k zero numbers some within = refl
forks_lead order k (suc count) numbers some within =
    let left = 2 * k + 1 in
    let right = 2 * k + 2 in
    let next : suc (length order + k) ≡ length order + (k + 1) = omega arith in
    and_from _ _
    (and_from _ _
    (and_from _ _
    (lt-ltb (vertex_of order left) (vertex_count order)
    (vertex_within order left numbers some (omega arith)))
    (or_right _ _ (son_leads order left k numbers some (omega arith) (omega arith))))
    (and_from _ _
    (and_from _ _
    (lt-ltb (vertex_of order right) (vertex_count order)
    (vertex_within order right numbers some (omega arith)))
    (or_right _ _ (son_leads order right k numbers some (omega arith) (omega arith))))
    refl))
    (subst (λ (v : ℕ). lead_on_from (length order) (vertex_count order) v
    (map (sons_of order) (range_with_len (k + 1) count)) ≡ true) (sym next)
    (forks_lead order (k + 1) count numbers some (omega arith)))

all_forks_lead : (order : List ℕ) → AreNumbers order
    → lead_on_from (length order) (vertex_count order) (length order) (fork_links order) ≡ true
unfolding fork_links
all_forks_lead [] numbers = refl
all_forks_lead (n ∷ ns) numbers =
    let order = n ∷ ns in
    let same : length order + 0 ≡ length order = omega arith in
    subst (λ (v : ℕ). lead_on_from (length order) (vertex_count order) v
    (map (sons_of order) (numbers_below (fork_count order))) ≡ true) same
    (forks_lead order 0 (fork_count order) numbers (omega arith) (omega arith))

pub are_grouped : (areas : List BookArea) (placed : List Placed) (order : List ℕ)
    (before linked : Linked) → AreTreeLinks areas placed order before linked → AreGrouped linked
are_grouped areas placed order before linked are =
    let has = has_forks areas placed order before linked are in
    let count = has.formulas in
    let most : length linked.links ≡ vertex_count order = vertices_are order linked has in
    let size : length before.links ≡ length order =
    own_size areas placed order before are.watched ∙ sym are.size in
    let same : 0 + length before.links ≡ length order = omega arith in
    let own : lead_on_from (length order) (vertex_count order) 0 before.links ≡ true =
    formulas_lead (length order) (vertex_count order) 0 before.links (omega arith)
    are.watched.within in
    let forks : lead_on_from (length order) (vertex_count order) (0 + length before.links)
    (fork_links order) ≡ true =
    subst (λ (v : ℕ). lead_on_from (length order) (vertex_count order) v (fork_links order)
    ≡ true) (sym same) (all_forks_lead order are.numbers) in
    record {
      formulas = omega arith;
      lead_on = ap (λ n. lead_on_from n (length linked.links) 0 linked.links) count
          ∙ ap (λ n. lead_on_from (length order) n 0 linked.links) most
          ∙ ap (lead_on_from (length order) (vertex_count order) 0) are.links
          ∙ lead_both (length order) (vertex_count order) 0 before.links (fork_links order) own
          forks;
    }
