-- The cycles of formulas, one formula after the other.
use Rattle.std.proofs.Common.{◌≡◌, ◌∙◌, inl, inr, ℕ, zero, suc, ◌+◌, ◌-◌, ◌<◌, ◌==◌, Bool, true}
use Rattle.std.proofs.Common.{false, List, [], ◌∷◌, ◌++◌, length, refl, sym, ap, arith, cond}
use Rattle.std.proofs.Common.{filter, map, Option, None, Some, slice_set}
use Rattle.std.specs.List.{slice_index_or, range_with_len}
use Rattle.std.proofs.lemmas.Bool.{cases_Bool, cases_lt, eq-eqb, eqb-true, false≢true}
use Rattle.std.proofs.lemmas.Bool.{false_from_ne_true}
use Rattle.std.proofs.lemmas.List.{append-nil, get_or_append_left, length-append, length-map}
use Rattle.std.proofs.lemmas.List.{map-append}
use Rattle.std.proofs.lemmas.List.Elements.{filter-append}
use Rattle.calculation_order.specs.Components.{is_this_vertex}
use Rattle.calculation_order.specs.Cycles.{AreFirsts, AreCyclesKept, cycle_by, cycles_by, has_first}
use Rattle.calculation_order.specs.Cycles.{heads_by, with_kept, with_next}
use Rattle.calculation_order.specs.Edges.{is_number_of, numbers_below}
use Rattle.calculation_order.proofs.Members.{below_more, filter_none, map_same, of_below, of_filter}
use Rattle.calculation_order.proofs.Members.{of_range}

-- one that passes stands at the end
filter_one : (p : ℕ → Bool) (ns : List ℕ) (n : ℕ)
    → filter p (ns ++ n ∷ []) ≡ filter p ns ++ cond (p n) (n ∷ []) []
filter_one p ns n = filter-append p ns (n ∷ [])

-- a list with another value at a place
set_behind : {X : Type 0} (xs : List X) (y z : X) (ys : List X)
    → slice_set (xs ++ y ∷ ys) (length xs) z ≡ xs ++ z ∷ ys
set_behind [] y z ys = refl
set_behind (x ∷ xs) y z ys = ap (λ l. x ∷ l) (set_behind xs y z ys)

at_behind : {X : Type 0} (xs : List X) (y : X) (ys : List X) (d : X)
    → slice_index_or (xs ++ y ∷ ys) (length xs) d ≡ y
at_behind [] y ys d = refl
at_behind (x ∷ xs) y ys d = at_behind xs y ys d

range_split : (a m n : ℕ)
    → range_with_len a (m + n) ≡ range_with_len a m ++ range_with_len (a + m) n
range_split a zero n =
    let none : 0 + n ≡ n = omega arith in
    let here : a ≡ a + 0 = omega arith in
    ap (range_with_len a) none ∙ ap (λ (b : ℕ). range_with_len b n) here
range_split a (suc m) n =
    let more : suc m + n ≡ suc (m + n) = omega arith in
    let later : a + 1 + m ≡ a + suc m = omega arith in
    ap (range_with_len a) more
    ∙ ap (λ (l : List ℕ). a ∷ l) (range_split (a + 1) m n
    ∙ ap (λ (b : ℕ). range_with_len (a + 1) m ++ range_with_len b n) later)

-- the numbers below one, cut at another
below_split : (f k : ℕ) → f < k
    → numbers_below k ≡ numbers_below f ++ f ∷ range_with_len (f + 1) (k - (f + 1))
below_split f k below =
    let sum : k ≡ f + suc (k - (f + 1)) = omega arith in
    let none : 0 + f ≡ f = omega arith in
    ap numbers_below sum ∙ range_split 0 f (suc (k - (f + 1)))
    ∙ ap (λ (a : ℕ). numbers_below f ++ range_with_len a (suc (k - (f + 1)))) none

some_of : (o : Option ℕ) (n : ℕ) → is_this_vertex o n ≡ true → o ≡ Some n
some_of None n is = absurd (false≢true is)
some_of (Some m) n is = ap (λ (k : ℕ). Some k) (eqb-true m n is)

module _ (firsts : List (Option ℕ)) (so : AreFirsts firsts) (k : ℕ) where
  abbrev own : Option ℕ
  own = slice_index_or firsts k None

  cycle_more : (f : ℕ)
      → cycle_by firsts (k + 1) f ≡ cycle_by firsts k f ++ cond (is_this_vertex own f) (k ∷ []) []
  cycle_more f =
      ap (filter (has_first firsts f)) (below_more k) ∙ filter_one (has_first firsts f)
      (numbers_below k) k

  heads_more : heads_by firsts (k + 1) ≡ heads_by firsts k ++ cond (is_this_vertex own k) (k
      ∷ []) []
  heads_more =
      ap (filter (λ n. has_first firsts n n)) (below_more k)
      ∙ filter_one (λ n. has_first firsts n n) (numbers_below k) k

  -- one whose first formula is none of the others changes no other cycle
  others_same : (o : Option ℕ) → own ≡ o → (hs : List ℕ)
      → ((f : ℕ) → is_number_of hs f ≡ true → is_this_vertex o f ≡ false)
      → map (cycle_by firsts (k + 1)) hs ≡ map (cycle_by firsts k) hs
  others_same o is hs off =
      map_same (cycle_by firsts (k + 1)) (cycle_by firsts k) hs
      (λ f in_hs. cycle_more f
      ∙ ap (λ (b : Bool). cycle_by firsts k f ++ cond b (k ∷ []) [])
      (ap (λ (x : Option ℕ). is_this_vertex x f) is ∙ off f in_hs)
      ∙ append-nil (cycle_by firsts k f))

  same_heads : (o : Option ℕ) → own ≡ o → is_this_vertex o k ≡ false
      → heads_by firsts (k + 1) ≡ heads_by firsts k
  same_heads o is off =
      heads_more
      ∙ ap (λ (b : Bool). heads_by firsts k ++ cond b (k ∷ []) [])
      (ap (λ (x : Option ℕ). is_this_vertex x k) is ∙ off)
      ∙ append-nil (heads_by firsts k)

  -- one with no first formula changes no cycle
  pub none_kept : own ≡ None → cycles_by firsts (k + 1) ≡ cycles_by firsts k
  none_kept is =
      ap (map (cycle_by firsts (k + 1))) (same_heads None is refl)
      ∙ others_same None is (heads_by firsts k) (λ f in_hs. refl)

  head_below : (f : ℕ) → is_number_of (heads_by firsts k) f ≡ true → f < k
  head_below f is =
      of_below k f (of_filter (λ n. has_first firsts n n) (numbers_below k) f is).0

  not_this : (f n : ℕ) → (f ≡ n → false ≡ true) → is_this_vertex (Some f) n ≡ false
  not_this f n other = false_from_ne_true _ (λ e. false≢true (other (eqb-true f n e)))

  -- one that is the first has a cycle of its own
  pub first_kept : (place : ℕ) → own ≡ Some k
      → cycles_by firsts (k + 1) ≡ with_kept (cycles_by firsts k) place (k == k) k
  first_kept place is =
      let this : is_this_vertex (Some k) k ≡ true = eq-eqb k k refl in
      let alone : cycle_by firsts k k ≡ [] =
      filter_none (has_first firsts k) (numbers_below k) (λ n below. false_from_ne_true _ (λ e.
      let less = of_below k n below in
      let later = (so n k (some_of (slice_index_or firsts n None) k e)).0 in
      absurd (omega arith))) in
      ap (map (cycle_by firsts (k + 1))) (heads_more
      ∙ ap (λ (b : Bool). heads_by firsts k ++ cond b (k ∷ []) [])
      (ap (λ (x : Option ℕ). is_this_vertex x k) is ∙ this))
      ∙ map-append (cycle_by firsts (k + 1)) (heads_by firsts k) (k ∷ [])
      ∙ ap (λ (l : List (List ℕ)). l ++ cycle_by firsts (k + 1) k ∷ [])
      (others_same (Some k) is (heads_by firsts k) (λ f in_hs. not_this k f
      (λ e. absurd (let less = head_below f in_hs in omega arith))))
      ∙ ap (λ (l : List ℕ). cycles_by firsts k ++ l ∷ []) (cycle_more k
      ∙ ap (λ (b : Bool). cycle_by firsts k k ++ cond b (k ∷ []) [])
      (ap (λ (x : Option ℕ). is_this_vertex x k) is ∙ this)
      ∙ ap (λ (l : List ℕ). l ++ k ∷ []) alone)
      ∙ sym (ap (λ (b : Bool). cond b (cycles_by firsts k ++ (k ∷ []) ∷ [])
      (slice_set (cycles_by firsts k) place (slice_index_or (cycles_by firsts k) place []
      ++ k ∷ []))) this)

  module _ (f : ℕ) (is : own ≡ Some f) (other : f ≡ k → false ≡ true) where
    before : f < k
    before =
        let most = (so k f is).0 in
        elim (cases_lt f k) [
          | inl e ↦ e
          | inr e ↦ absurd (false≢true (other (omega arith)))
        ]

    abbrev later : List ℕ
    later = filter (λ n. has_first firsts n n) (range_with_len (f + 1) (k - (f + 1)))

    -- its first formula stands among those before
    heads_cut : heads_by firsts k ≡ heads_by firsts f ++ f ∷ later
    heads_cut =
        let p : ℕ → Bool = λ n. has_first firsts n n in
        ap (filter p) (below_split f k before)
        ∙ filter-append p (numbers_below f) (f ∷ range_with_len (f + 1) (k - (f + 1)))
        ∙ ap (λ (b : Bool). filter p (numbers_below f) ++ cond b (f ∷ later) later)
        (ap (λ (o : Option ℕ). is_this_vertex o f) (so k f is).1 ∙ eq-eqb f f refl)

    abbrev earlier_cycles : List (List ℕ)
    earlier_cycles = map (cycle_by firsts k) (heads_by firsts f)

    abbrev later_cycles : List (List ℕ)
    later_cycles = map (cycle_by firsts k) later

    cycles_cut : cycles_by firsts k ≡ earlier_cycles ++ cycle_by firsts k f ∷ later_cycles
    cycles_cut =
        ap (map (cycle_by firsts k)) heads_cut
        ∙ map-append (cycle_by firsts k) (heads_by firsts f) (f ∷ later)

    earlier_same : map (cycle_by firsts (k + 1)) (heads_by firsts f) ≡ earlier_cycles
    earlier_same =
        others_same (Some f) is (heads_by firsts f) (λ n in_hs. not_this f n (λ e.
        absurd (let less = of_below f n (of_filter (λ m. has_first firsts m m) (numbers_below f) n
        in_hs).0 in omega arith)))

    later_same : map (cycle_by firsts (k + 1)) later ≡ later_cycles
    later_same =
        others_same (Some f) is later (λ n in_hs. not_this f n (λ e.
        absurd (let less = (of_range (f + 1) (k - (f + 1)) n (of_filter (λ m. has_first firsts m m)
        (range_with_len (f + 1) (k - (f + 1))) n in_hs).0).0 in omega arith)))

    own_more : cycle_by firsts (k + 1) f ≡ cycle_by firsts k f ++ k ∷ []
    own_more =
        cycle_more f
        ∙ ap (λ (b : Bool). cycle_by firsts k f ++ cond b (k ∷ []) [])
        (ap (λ (x : Option ℕ). is_this_vertex x f) is ∙ eq-eqb f f refl)

    cut_more : cycles_by firsts (k + 1)
        ≡ earlier_cycles ++ (cycle_by firsts k f ++ k ∷ []) ∷ later_cycles
    cut_more =
        ap (map (cycle_by firsts (k + 1))) (same_heads (Some f) is (not_this f k other) ∙ heads_cut)
        ∙ map-append (cycle_by firsts (k + 1)) (heads_by firsts f) (f ∷ later)
        ∙ ap (λ (l : List (List ℕ)). l ++ map (cycle_by firsts (k + 1)) (f ∷ later)) earlier_same
        ∙ ap (λ (l : List (List ℕ)). earlier_cycles ++ cycle_by firsts (k + 1) f ∷ l) later_same
        ∙ ap (λ (l : List ℕ). earlier_cycles ++ l ∷ later_cycles) own_more

    -- one that isn't the first stands on the cycle of its first one
    pub other_kept : (place : ℕ) → place ≡ length (heads_by firsts f)
        → cycles_by firsts (k + 1) ≡ with_kept (cycles_by firsts k) place (f == k) k
    other_kept place at =
        let size : place ≡ length earlier_cycles =
        at ∙ sym (length-map (heads_by firsts f) (cycle_by firsts k)) in
        let own_at : slice_index_or (cycles_by firsts k) place [] ≡ cycle_by firsts k f =
        ap (λ (l : List (List ℕ)). slice_index_or l place []) cycles_cut
        ∙ ap (λ (n : ℕ). slice_index_or (earlier_cycles ++ cycle_by firsts k f ∷ later_cycles) n [])
        size ∙ at_behind earlier_cycles (cycle_by firsts k f) later_cycles [] in
        cut_more
        ∙ sym (ap (λ (b : Bool). cond b (cycles_by firsts k ++ (k ∷ []) ∷ [])
        (slice_set (cycles_by firsts k) place (slice_index_or (cycles_by firsts k) place []
        ++ k ∷ []))) (not_this f k other)
        ∙ ap (λ (l : List ℕ). slice_set (cycles_by firsts k) place (l ++ k ∷ [])) own_at
        ∙ ap (λ (l : List (List ℕ)). slice_set l place (cycle_by firsts k f ++ k ∷ [])) cycles_cut
        ∙ ap (λ (n : ℕ). slice_set (earlier_cycles ++ cycle_by firsts k f ∷ later_cycles) n
        (cycle_by firsts k f ++ k ∷ [])) size
        ∙ set_behind earlier_cycles (cycle_by firsts k f) (cycle_by firsts k f ++ k ∷ [])
        later_cycles)

module _ (firsts : List (Option ℕ)) (so : AreFirsts firsts) (k : ℕ) (lists : List (List ℕ))
    (places : List ℕ) (kept : AreCyclesKept firsts k lists places) where
  abbrev more : List ℕ
  more = places ++ length lists ∷ []

  begin_before : length lists ≡ length (heads_by firsts k)
  begin_before =
      ap (λ (l : List (List ℕ)). length l) kept.cycles
      ∙ length-map (heads_by firsts k) (cycle_by firsts k)

  place_at : (f : ℕ) → f < k + 1 → slice_index_or more f 0 ≡ length (heads_by firsts f)
  place_at f below =
      elim (cases_lt f k) [
        | inl early ↦ get_or_append_left places (length lists ∷ []) 0 f
            (let size = kept.size in omega arith) ∙ kept.place f early
        | inr late ↦
            (let here : f ≡ length places = let size = kept.size in omega arith in
            let last : k ≡ f = let size = kept.size in omega arith in
            ap (λ (n : ℕ). slice_index_or more n 0) here
            ∙ at_behind places (length lists) [] 0
            ∙ begin_before ∙ ap (λ (n : ℕ). length (heads_by firsts n)) last)
      ]

  next_cycles : (o : Option ℕ) → slice_index_or firsts k None ≡ o
      → with_next lists more o k ≡ cycles_by firsts (k + 1)
  next_cycles None is = kept.cycles ∙ sym (none_kept firsts so k is)
  next_cycles (Some f) is =
      ap (λ (l : List (List ℕ)). with_next l more (Some f) k) kept.cycles
      ∙ elim (cases_Bool (f == k)) [
        | inl e ↦
            (let same : f ≡ k = eqb-true f k e in
            ap (λ (n : ℕ). with_kept (cycles_by firsts k) (slice_index_or more f 0) (n == k) k) same
            ∙ sym (first_kept firsts so k (slice_index_or more f 0)
            (is ∙ ap (λ (n : ℕ). Some n) same)))
        | inr e ↦
            (let most = (so k f is).0 in
            sym (other_kept firsts so k f is (λ same. sym e ∙ eq-eqb f k same)
            (slice_index_or more f 0) (place_at f (omega arith))))
      ]

  pub next_kept :
      AreCyclesKept firsts (k + 1) (with_next lists more (slice_index_or firsts k None) k) more
  next_kept = record {
    cycles = next_cycles (slice_index_or firsts k None) refl;
    size = (let size = kept.size in let one = length-append places (length lists ∷ []) in
        omega arith);
    place = place_at;
  }
