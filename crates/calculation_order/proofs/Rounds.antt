-- The order, round by round: all that a formula needs is done before its round.
use Rattle.std.proofs.Common.{◌≡◌, ◌∙◌, inl, inr, ℕ, zero, suc, ◌+◌, ◌-◌, ◌<◌, ◌≤◌, true, false}
use Rattle.std.proofs.Common.{List, [], ◌∷◌, ◌++◌, length, take, get_or, not, sym, ap, subst, arith}
use Rattle.std.proofs.Common.{flat_map, get_or-append-add, append-nil}
use Rattle.std.specs.List.{list_all}
use Rattle.std.proofs.Math.Seq.{take-append-add}
use Rattle.std.proofs.lemmas.Bool.{and_parts, cases_lt, not-true}
use Rattle.std.proofs.lemmas.List.{get_or_append_left, length-append, append_assoc}
use Rattle.calculation_order.specs.Edges.{is_number_of, is_ready, needs_of, numbers_below, order_of}
use Rattle.calculation_order.specs.Edges.{ready, rounds_within}
use Rattle.calculation_order.specs.OrderLaws.{NeedsStandBefore}
use Rattle.calculation_order.proofs.Members.{in_left, in_head, in_tail, all_at, all_from, of_filter}
use Rattle.calculation_order.proofs.Settling.{stepped}

-- the formulas of so many rounds, where these are done
abbrev pub order_within : ℕ → List (List ℕ) → List ℕ → List ℕ
order_within turns edges done = flat_map (λ r. r) (rounds_within turns edges done)

-- what is done behind a round
abbrev pub done_behind : List (List ℕ) → List ℕ → List ℕ
done_behind edges done = done ++ ready edges done

-- the rounds are such steps
pub done_by_steps : (turns : ℕ) (edges : List (List ℕ)) (done : List ℕ)
    → stepped (done_behind edges) turns done ≡ done ++ order_within turns edges done
unfolding rounds_within
done_by_steps zero edges done = sym (append-nil done)
done_by_steps (suc turns) edges done =
    done_by_steps turns edges (done_behind edges done)
    ∙ append_assoc done (ready edges done) (order_within turns edges (done_behind edges done))

in_at : (ns : List ℕ) (k : ℕ) → k < length ns → is_number_of ns (get_or ns k 0) ≡ true
in_at [] k within = absurd (omega arith)
in_at (n ∷ ns) zero within = in_head n ns
in_at (n ∷ ns) (suc k) within = in_tail n ns _ (in_at ns k (omega arith))

-- what a formula is that can be computed where these are done
pub of_ready : (edges : List (List ℕ)) (done : List ℕ) (n : ℕ)
    → is_number_of (ready edges done) n ≡ true
    → (is_number_of (numbers_below (length edges)) n ≡ true) × (is_number_of done n ≡ false)
    × ((m : ℕ) → is_number_of (needs_of edges n) m ≡ true → is_number_of done m ≡ true)
of_ready edges done n is =
    let found = of_filter (is_ready edges done) (numbers_below (length edges)) n is in
    let parts = and_parts (not (is_number_of done n))
    (list_all (is_number_of done) (needs_of edges n)) found.1 in (
      found.0,
      not-true (is_number_of done n) parts.0,
      all_at (is_number_of done) (needs_of edges n) parts.1,
    )

later : (k : ℕ) (own others : List ℕ) → length own ≤ k → k < length (own ++ others)
    → k - length own < length others
later k own others late within = omega (arith, length-append own others)

split : (k n : ℕ) → n ≤ k → k ≡ n + (k - n)
split k n late = omega arith

-- what is done or stands before in a later round
behind : (done own others : List ℕ) (k m : ℕ) → length own ≤ k
    → is_number_of ((done ++ own) ++ take (k - length own) others) m ≡ true
    → is_number_of (done ++ take k (own ++ others)) m ≡ true
behind done own others k m late is =
    subst (λ (ns : List ℕ). is_number_of (done ++ ns) m ≡ true)
    (sym (ap (λ (i : ℕ). take i (own ++ others)) (split k (length own) late)
    ∙ take-append-add own others (k - length own)))
    (subst (λ (ns : List ℕ). is_number_of ns m ≡ true)
    (append_assoc done own (take (k - length own) others)) is)

-- what is needed by the one at a place stands before, or is done
stand : (turns : ℕ) (edges : List (List ℕ)) (done : List ℕ) (k : ℕ)
    → k < length (order_within turns edges done) → (m : ℕ)
    → is_number_of (needs_of edges (get_or (order_within turns edges done) k 0)) m ≡ true
    → is_number_of (done ++ take k (order_within turns edges done)) m ≡ true
unfolding rounds_within
stand zero edges done k within m needed = absurd (omega arith)
stand (suc turns) edges done k within m needed =
    let own = ready edges done in
    let others = order_within turns edges (done ++ own) in
    elim (cases_lt k (length own)) [
      | inl early ↦
          in_left done (take k (own ++ others)) m
          ((of_ready edges done (get_or own k 0) (in_at own k early)).2 m
          (subst (λ (n : ℕ). is_number_of (needs_of edges n) m ≡ true)
          (get_or_append_left own others 0 k early) needed))
      | inr late ↦ behind done own others k m late
          (stand turns edges (done ++ own) (k - length own)
          (later k own others late within) m
          (subst (λ (n : ℕ). is_number_of (needs_of edges n) m ≡ true)
          (ap (λ (i : ℕ). get_or (own ++ others) i 0) (split k (length own) late)
          ∙ get_or-append-add own others (k - length own) 0) needed))
    ]

pub needs_stand_before : (edges : List (List ℕ)) → NeedsStandBefore edges
unfolding order_of
needs_stand_before edges k within =
    all_from (is_number_of (take k (order_of edges)))
    (needs_of edges (get_or (order_of edges) k 0))
    (stand (length edges) edges [] k within)
