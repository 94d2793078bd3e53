-- Edges of which each formula needs the same formulas have one order and the same dependents.
use Rattle.std.proofs.Common.{◌≡◌, ◌∙◌, inl, inr, ℕ, zero, suc, ◌<◌, ◌&&◌, ◌||◌, not, Bool, true}
use Rattle.std.proofs.Common.{List, [], ◌∷◌, ◌++◌, length, get_or, filter, refl, sym, ap, subst}
use Rattle.std.proofs.Common.{arith, flat_map}
use Rattle.std.specs.List.{list_all, list_any}
use Rattle.std.specs.Prelude.{nat_lt}
use Rattle.std.proofs.lemmas.Bool.{both_ways, cases_lt, lt-ltb}
use Rattle.std.proofs.lemmas.List.{get_or_default, get_or_past}
use Rattle.std.proofs.lemmas.List.Elements.{filter_agree}
use Rattle.std.proofs.lemmas.List.Sums.{list_all-from_AllPass}
use Rattle.calculation_order.specs.Edges.{dependents_of, depends_on, is_number_of, is_ready}
use Rattle.calculation_order.specs.Edges.{needs_of, numbers_below, order_of, reached, ready}
use Rattle.calculation_order.specs.Edges.{rounds_within}
use Rattle.calculation_order.specs.Links.{AreGrouped, AreLinked, Linked, linked_from, members}
use Rattle.calculation_order.specs.Links.{told_edges}
use Rattle.calculation_order.specs.OrderLaws.{are_within}
use Rattle.calculation_order.proofs.Grouped.{link_to, members_below}
use Rattle.calculation_order.proofs.Members.{all_at, all_from, any_at, any_from, of_flat_map}
use Rattle.calculation_order.proofs.Members.{same_tests}
use Rattle.calculation_order.proofs.Passing.{length-told, needs-told}
use Rattle.calculation_order.proofs.Reaching.{reached_closed, reached_itself, reached_within_set}
use Rattle.calculation_order.proofs.Reaching.{within_at}

-- each formula needs the same formulas
pub record NeedSame (edges others : List (List ℕ)) : Type 0 where
  pub size : length edges ≡ length others
  pub same : (n m : ℕ) → is_number_of (needs_of edges n) m ≡ is_number_of (needs_of others n) m

pub turned_same : (edges others : List (List ℕ)) → NeedSame edges others → NeedSame others edges
turned_same edges others so =
    record { size = sym so.size; same = λ n m. sym (so.same n m) }

all_same : (p : ℕ → Bool) (ns ms : List ℕ)
    → ((n : ℕ) → is_number_of ns n ≡ is_number_of ms n) → list_all p ns ≡ list_all p ms
all_same p ns ms same =
    same_tests (list_all p ns) (list_all p ms)
    (λ all. all_from p ms (λ n is. all_at p ns all n (same n ∙ is)))
    (λ all. all_from p ns (λ n is. all_at p ms all n (sym (same n) ∙ is)))

-- ---- the order

ready_same : (edges others : List (List ℕ)) → NeedSame edges others → (done : List ℕ)
    → ready edges done ≡ ready others done
ready_same edges others so done =
    filter_agree (is_ready edges done) (is_ready others done)
    (λ n. ap (λ (all : Bool). not (is_number_of done n) && all)
    (all_same (is_number_of done) (needs_of edges n) (needs_of others n) (so.same n)))
    (numbers_below (length edges))
    ∙ ap (λ (count : ℕ). filter (is_ready others done) (numbers_below count)) so.size

rounds_same : (edges others : List (List ℕ)) → NeedSame edges others → (turns : ℕ)
    (done : List ℕ) → rounds_within turns edges done ≡ rounds_within turns others done
unfolding rounds_within
rounds_same edges others so zero done = refl
rounds_same edges others so (suc turns) done =
    let round = ready_same edges others so done in
    (λ i. round i ∷ rounds_within turns edges (done ++ round i))
    ∙ ap (λ (rest : List (List ℕ)). ready others done ∷ rest)
    (rounds_same edges others so turns (done ++ ready others done))

pub order_same : (edges others : List (List ℕ)) → NeedSame edges others
    → order_of edges ≡ order_of others
unfolding order_of
order_same edges others so =
    ap (flat_map (λ (r : List ℕ). r)) (rounds_same edges others so (length edges) []
    ∙ ap (λ (turns : ℕ). rounds_within turns others []) so.size)

-- ---- what is reached

reached_more : (edges others : List (List ℕ)) → are_within others ≡ true
    → NeedSame edges others → (n m : ℕ) → is_number_of (reached edges n) m ≡ true
    → is_number_of (reached others n) m ≡ true
reached_more edges others within so n =
    reached_within_set edges (is_number_of (reached others n))
    (λ k m is by. reached_closed others within n k m is (sym (so.same k m) ∙ by)) n
    (λ m by. reached_itself others n m (sym (so.same n m) ∙ by))

any_more : (p : ℕ → Bool) (ns ms : List ℕ)
    → ((n : ℕ) → is_number_of ns n ≡ true → is_number_of ms n ≡ true)
    → list_any p ns ≡ true → list_any p ms ≡ true
any_more p ns ms more some =
    let found = any_from p ns some in any_at p ms found.0 (more found.0 found.1) found.2

pub dependents_same : (edges others : List (List ℕ)) → are_within edges ≡ true
    → are_within others ≡ true → NeedSame edges others → (asks : ℕ → Bool)
    → dependents_of asks edges ≡ dependents_of asks others
dependents_same edges others within also so asks =
    filter_agree (depends_on asks edges) (depends_on asks others)
    (λ n. ap (λ (some : Bool). asks n || some)
    (same_tests (list_any asks (reached edges n)) (list_any asks (reached others n))
    (any_more asks (reached edges n) (reached others n) (reached_more edges others also so n))
    (any_more asks (reached others n) (reached edges n)
    (reached_more others edges within (turned_same edges others so) n))))
    (numbers_below (length edges))
    ∙ ap (λ (count : ℕ). filter (depends_on asks others) (numbers_below count)) so.size

-- ---- the edges that links tell

within_from : (edges : List (List ℕ))
    → ((n m : ℕ) → is_number_of (needs_of edges n) m ≡ true → m < length edges)
    → are_within edges ≡ true
within_from edges each =
    let below = λ (m : ℕ). nat_lt m (length edges) in
    list_all-from_AllPass (λ (ns : List ℕ). list_all below ns) edges (λ n d vertex.
    all_from below (get_or edges n d) (λ m is. lt-ltb m (length edges) (each n m
    (subst (λ (ns : List ℕ). is_number_of ns m ≡ true) (get_or_default edges n d [] vertex) is))))

needs_below : (linked : Linked) (n m : ℕ) → is_number_of (linked_from linked n) m ≡ true
    → m < linked.formulas
needs_below linked n m is =
    let by = of_flat_map (members linked) (needs_of linked.links n) m is in
    members_below linked by.0 m by.2

pub told_same : (edges : List (List ℕ)) (linked : Linked) → AreLinked edges linked
    → NeedSame (told_edges linked) edges
told_same edges linked so = record {
  size = length-told linked ∙ sym so.size;
  same = λ n m. elim (cases_lt n linked.formulas) [
    | inl e ↦ ap (λ (ns : List ℕ). is_number_of ns m) (needs-told linked n e) ∙ sym (so.same n m e)
    | inr e ↦ ap (λ (ns : List ℕ). is_number_of ns m)
        (get_or_past (told_edges linked) n [] (omega (arith, length-told linked))
        ∙ sym (get_or_past edges n [] (omega (arith, so.size))))
  ];
}

pub told_within : (linked : Linked) → are_within (told_edges linked) ≡ true
told_within linked =
    within_from (told_edges linked) (λ n m is. elim (cases_lt n linked.formulas) [
      | inl e ↦
          (let below = needs_below linked n m
          (subst (λ (ns : List ℕ). is_number_of ns m ≡ true) (needs-told linked n e) is) in
          omega (arith, length-told linked))
      | inr e ↦ absurd (both_ways (is_number_of (needs_of (told_edges linked) n) m)
          (ap (λ (ns : List ℕ). is_number_of ns m)
          (get_or_past (told_edges linked) n [] (omega (arith, length-told linked)))) is)
    ])

pub linked_within : (edges : List (List ℕ)) (linked : Linked) → AreLinked edges linked
    → are_within edges ≡ true
linked_within edges linked so =
    let also = told_same edges linked so in
    within_from edges (λ n m is.
    let below = within_at (told_edges linked) (told_within linked) n m (also.same n m ∙ is) in
    omega (arith, also.size))

-- links are edges between vertices
pub leads_within : (linked : Linked) → AreGrouped linked → are_within linked.links ≡ true
leads_within linked grouped =
    within_from linked.links (λ v w is. (link_to linked grouped v w is).0)
