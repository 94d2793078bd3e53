-- The formulas that the order leaves: each needs one that it leaves, too, and so one on a cycle.
use Rattle.std.proofs.Common.{◌≡◌, ◌∙◌, ◌⊎◌, inl, inr, ℕ, zero, suc, ◌<◌, Bool, true, false, List}
use Rattle.std.proofs.Common.{[], ◌∷◌, ◌++◌, ◌||◌, ◌&&◌, length, not, refl, sym, ap, subst, arith}
use Rattle.std.proofs.Common.{append-nil, length-append}
use Rattle.std.specs.List.{list_all, list_any}
use Rattle.std.proofs.lemmas.Bool.{and_from, cases_Bool, false≢true, not_from_false}
use Rattle.std.proofs.lemmas.List.{nil_from_length}
use Rattle.calculation_order.specs.Edges.{is_number_of, is_ready, needs_of, numbers_below, order_of}
use Rattle.calculation_order.specs.Edges.{reached, ready}
use Rattle.calculation_order.specs.OrderLaws.{OthersHaveCycles, are_within, is_on_cycle}
use Rattle.calculation_order.proofs.Members.{any_at, any_from, fails_at, in_filter, in_head}
use Rattle.calculation_order.proofs.Members.{in_left, in_below, in_right}
use Rattle.calculation_order.proofs.Reaching.{reached_itself, reached_through, within_at}
use Rattle.calculation_order.proofs.Rounds.{done_behind, done_by_steps, of_ready}
use Rattle.calculation_order.proofs.Settling.{settles, size_below, size_bound, size_grows}

grows_by : (edges : List (List ℕ)) (done round : List ℕ) → ready edges done ≡ round
    → (done_behind edges done ≡ done)
    ⊎ (size_below (length edges) done < size_below (length edges) (done_behind edges done))
grows_by edges done [] is = inl (ap (λ (ns : List ℕ). done ++ ns) is ∙ append-nil done)
grows_by edges done (n ∷ ns) is =
    let own : is_number_of (ready edges done) n ≡ true =
    subst (λ (ms : List ℕ). is_number_of ms n ≡ true) (sym is) (in_head n ns) in
    let found = of_ready edges done n own in
    inr (size_grows (length edges) done (done_behind edges done)
    (in_left done (ready edges done)) n found.0 found.1 (in_right done (ready edges done) n own))

same_order : (edges : List (List ℕ))
    → done_behind edges (order_of edges) ≡ order_of edges
unfolding order_of
same_order edges =
    let steps = done_by_steps (length edges) edges [] in
    ap (done_behind edges) (sym steps)
    ∙ settles (done_behind edges) (size_below (length edges)) (length edges)
    (size_bound (length edges)) (λ done. grows_by edges done (ready edges done) refl)
    (length edges) [] (omega arith)
    ∙ steps

-- behind the order no formula can be computed
none_ready : (edges : List (List ℕ)) → ready edges (order_of edges) ≡ []
none_ready edges =
    let order = order_of edges in
    nil_from_length (ready edges order)
    (let same = ap length (same_order edges) in
    omega (arith, length-append order (ready edges order), same))

-- a formula that the order leaves needs one that it leaves
needs_left : (edges : List (List ℕ)) (n : ℕ) → n < length edges
    → is_number_of (order_of edges) n ≡ false
    → (m : ℕ) × (is_number_of (needs_of edges n) m ≡ true)
    × (is_number_of (order_of edges) m ≡ false)
needs_left edges n below left =
    let order = order_of edges in
    elim (cases_Bool (list_all (is_number_of order) (needs_of edges n))) [
      | inl e ↦ absurd (false≢true
          (subst (λ (ns : List ℕ). is_number_of ns n ≡ true) (none_ready edges)
          (in_filter (is_ready edges order) (numbers_below (length edges)) n
          (in_below (length edges) n below)
          (and_from _ _ (not_from_false (is_number_of order n) left) e))))
      | inr e ↦ fails_at (is_number_of order) (needs_of edges n) e
    ]

module _ (edges : List (List ℕ)) (within : are_within edges ≡ true) where
  reaches_cycle : (most n : ℕ) → size_below (length edges) (reached edges n) < most
      → n < length edges → is_number_of (order_of edges) n ≡ false
      → list_any (is_on_cycle edges) (reached edges n) ≡ true
  reaches_cycle zero n fewer below left = absurd (omega arith)
  reaches_cycle (suc most) n fewer below left =
      let need = needs_left edges n below left in
      let m = need.0 in
      let m_below : m < length edges = within_at edges within n m need.1 in
      let is = reached_itself edges n m need.1 in
      elim (cases_Bool (is_on_cycle edges m)) [
        | inl e ↦ any_at (is_on_cycle edges) (reached edges n) m is e
        | inr e ↦
            (let less = size_grows (length edges) (reached edges m) (reached edges n)
            (λ k by. reached_through edges within n m k is by) m
            (in_below (length edges) m m_below) e is in
            let found = any_from (is_on_cycle edges) (reached edges m)
            (reaches_cycle most m (omega arith) m_below need.2) in
            any_at (is_on_cycle edges) (reached edges n) found.0
            (reached_through edges within n m found.0 is found.1) found.2)
      ]

one_or_other : (a b : Bool) → b ≡ true → (a || (not a && b)) ≡ true
one_or_other true b is = refl
one_or_other false b is = is

pub others_have_cycles : (edges : List (List ℕ)) → are_within edges ≡ true
    → OthersHaveCycles edges
others_have_cycles edges within n below left =
    one_or_other (is_on_cycle edges n) (list_any (is_on_cycle edges) (reached edges n))
    (reaches_cycle edges within (suc (size_below (length edges) (reached edges n))) n
    (omega arith) below left)
