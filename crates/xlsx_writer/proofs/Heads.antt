-- The head of the next formula is the one that is found.
use Rattle.std.proofs.Common.{◌≡◌, ◌≢◌, ℕ, zero, suc, ◌+◌, ◌<◌, ◌≤◌, Bool, true, false, ◌&&◌, cond}
use Rattle.std.proofs.Common.{List, [], ◌∷◌, ◌++◌, length, refl, sym, ap, ◌∙◌, arith, subst, Option}
use Rattle.std.proofs.Common.{Some, None, inl, inr, length-append, add-one, append_assoc}
use Rattle.std.proofs.lemmas.List.Elements.{All-map}
use Rattle.cell_data.specs.Words.{IsPlacedInSheet, with_meaning, AreInOrder}
use Rattle.cell_data.proofs.Stepping.{meant, meant_below}
use Rattle.std.specs.Prelude.{◌==◌, nat_lt, slice_index}
use Rattle.std.specs.declared.cmp.Ordering.{Ordering}
use Rattle.std.specs.declared.cmp.Ordering.TheVariants.{Less, Equal, Greater}
use Rattle.std.specs.FinMap.{find}
use Rattle.std.specs.FinMap.Entries.{below_all}
use Rattle.std.specs.Ordering.{nat_cmp, ordering_then, is_lt, MatchOrdering}
use Rattle.std.specs.Cmp.{nat_cmp_is}
use Rattle.std.proofs.lemmas.Cmp.{ranked}
use Rattle.std.specs.Str.{bytes_eq}
use Rattle.std.proofs.lemmas.Bool.{cases_lt, eqb-true, eq-eqb, lt-ltb, ltb-true}
use Rattle.std.proofs.Math.ListN.{get_or-append}
use Rattle.std.proofs.Math.Seq.{get_or-append_seam}
use Rattle.cell_refs.specs.Words.{position_cmp, is_rising}
use Rattle.cell_refs.proofs.PositionOrder.{position_total, and_both, and_from, less_from}
use Rattle.formula_shift.specs.Words.{moved, offset_between}
use Rattle.xlsx_writer.specs.Groups.{PlacedFormulas, formula_held, is_placed, is_moved_from}
use Rattle.xlsx_writer.specs.Groups.{head_row, group_head, is_same_position}
use Rattle.xlsx_writer.specs.Grouping.{formula_at_place, row_below, ArePassed, StopsAt}
use Rattle.xlsx_writer.specs.Grouping.{stands_above, moves_from, head_place, AreHeads}
use Rattle.xlsx_writer.specs.declared.groups.Member.{Member}
use Rattle.xlsx_writer.proofs.Places.{below_at, rises, found_at, none_found, less_apart}
use Rattle.xlsx_writer.proofs.Places.{greater_from}

-- what stands at a place that no formula has
abbrev pub blank_member : Member
blank_member = record { position = (0, 0); text = record { ref_ptr = (0, 0); now = [] }; head = 0 }

-- ---- positions a row further down

module _ (a b : ℕ) where
  further : (o : Ordering) → MatchOrdering o (a < b) (a ≡ b) (b < a) →
      MatchOrdering o (a + 1 < b + 1) (a + 1 ≡ b + 1) (b + 1 < a + 1)
  further Less less = omega arith
  further Equal same = omega arith
  further Greater more = omega arith

-- a row further down both stand as before
lowered_both : (p q : ℕ × ℕ) → position_cmp (row_below p) (row_below q) ≡ position_cmp p q
lowered_both p q =
    ap (λ (o : Ordering). ordering_then o (nat_cmp p.1 q.1))
    (sym (nat_cmp_is (p.0 + 1) (q.0 + 1) (nat_cmp p.0 q.0)
    (further p.0 q.0 (nat_cmp p.0 q.0) (ranked p.0 q.0 (nat_cmp p.0 q.0) refl))))

above_less : (row col : ℕ) → position_cmp (row, col) (suc row, col) ≡ Less
above_less row col =
    let less : Less ≡ nat_cmp row (suc row) = nat_cmp_is row (suc row) Less (omega arith) in
    ap (λ (o : Ordering). ordering_then o (nat_cmp col col)) (sym less)

-- one position is another
pub same_from : (a b : ℕ × ℕ) → is_same_position a b ≡ true → a ≡ b
same_from a b same =
    let parts = and_both (a.0 == b.0) (a.1 == b.1) same in
    let row = eqb-true a.0 b.0 parts.0 in
    let column = eqb-true a.1 b.1 parts.1 in
    λ i. (row i, column i)

pub same_to : (a b : ℕ × ℕ) → a ≡ b → is_same_position a b ≡ true
same_to a b same =
    and_from (a.0 == b.0) (a.1 == b.1) (eq-eqb a.0 b.0 (ap (λ (p : ℕ × ℕ). p.0) same))
    (eq-eqb a.1 b.1 (ap (λ (p : ℕ × ℕ). p.1) same))

-- ---- the next formula behind others

-- the next formula of all, behind these, where the place of what is above it was looked for
pub record IsNext
    (formulas front : PlacedFormulas) (position : ℕ × ℕ) (text : List ℕ) (place : ℕ) : Type 0 where
  pub rising : is_rising formulas ≡ true
  pub front_kept : (k : ℕ) → k < length front → formula_at_place formulas k
      ≡ formula_at_place front k
  pub own : formula_at_place formulas (length front) ≡ (position, text)
  pub inside : length front < length formulas
  pub passed : ArePassed front 0 place position
  pub stops : StopsAt front place position
  pub within : place ≤ length front

module _ (F A : PlacedFormulas) (row col : ℕ) (t : List ℕ) (place : ℕ)
    (next : IsNext F A (suc row, col) t place) where
  low : (k : ℕ) → (formula_at_place F k).0 ≡ (row, col) → row_below (formula_at_place F k).0
      ≡ (suc row, col)
  low k same =
      ap row_below same ∙ ap (λ (r : ℕ). (r, col)) (add-one row)

  -- no formula stands above where none was found there
  none_above : stands_above A place (suc row, col) ≡ false →
      (k : ℕ) → k < length F → (formula_at_place F k).0 ≢ (row, col)
  none_above not_above k inside same =
      elim (cases_lt k place) [
        | inl earlier ↦
            let kept = next.front_kept k (omega (arith, next.within)) in
            let passed = less_from _ (next.passed k (omega arith) earlier) in
            less_apart _ _ passed
            (ap (λ (e : (ℕ × ℕ) × List ℕ). row_below e.0) (sym kept) ∙ low k same)
        | inr later ↦ elim (cases_lt place (length A)) [
          | inl among ↦
              let kept = next.front_kept place among in
              elim (cases_lt place k) [
                | inl behind ↦
                    let less : position_cmp (row_below (formula_at_place A place).0) (suc row, col)
                    ≡ Less =
                    ap (λ (e : (ℕ × ℕ) × List ℕ). position_cmp (row_below e.0) (suc row, col))
                    (sym kept)
                    ∙ ap (position_cmp (row_below (formula_at_place F place).0)) (sym (low k same))
                    ∙ lowered_both (formula_at_place F place).0 (formula_at_place F k).0
                    ∙ rises F place k ((0, 0), []) next.rising behind inside in
                    let stops : is_lt Less ≡ false =
                    ap is_lt (sym less) ∙ next.stops among in
                    absurd (cc)
                | inr here ↦
                    let at : k ≡ place = omega arith in
                    let is : row_below (formula_at_place A place).0 ≡ (suc row, col) =
                    ap (λ (e : (ℕ × ℕ) × List ℕ). row_below e.0) (sym kept)
                    ∙ ap (λ (j : ℕ). row_below (formula_at_place F j).0) (sym at) ∙ low k same in
                    let stands : stands_above A place (suc row, col) ≡ true =
                    and_from (nat_lt place (length A))
                    (is_same_position (row_below (formula_at_place A place).0) (suc row, col))
                    (lt-ltb place (length A) among) (same_to _ _ is) in
                    let never : true ≡ false = sym stands ∙ not_above in
                    absurd (cc)
              ]
          | inr last ↦ elim (cases_lt (length A) k) [
            | inl behind ↦
                let less : position_cmp (suc row, col) (row, col) ≡ Less =
                (λ i. position_cmp ((sym next.own i).0) (sym same i))
                ∙ rises F (length A) k ((0, 0), []) next.rising behind inside in
                let more = greater_from (row, col) (suc row, col) (above_less row col) in
                let never : Less ≡ Greater = sym less ∙ more in
                absurd (cc)
            | inr here ↦
                let at : k ≡ length A = omega (arith, next.within) in
                let is : (suc row, col) ≡ (row, col) =
                ap (λ (e : (ℕ × ℕ) × List ℕ). e.0) (sym next.own)
                ∙ ap (λ (j : ℕ). (formula_at_place F j).0) (sym at) ∙ same in
                let never : suc row ≡ row = ap (λ (p : ℕ × ℕ). p.0) is in
                absurd (omega arith)
          ]
        ]
      ]

module _ (F A : PlacedFormulas) (H : List ℕ) (t : List ℕ) (place : ℕ) (heads : AreHeads F H)
    (count : length H ≡ length A) where
  -- without a formula right above it, a formula is its own head
  stays : (row col : ℕ) → IsNext F A (suc row, col) t place →
      stands_above A place (suc row, col) ≡ false → head_row F col (suc row) ≡ suc row
  stays row col next not_above =
      let none : find position_cmp (row, col) F ≡ None =
      none_found (row, col) F ((0, 0), []) (none_above F A row col t place next not_above) in
      let head = head_row F col row in
      ap (λ (o : Option (List ℕ)). cond (is_placed o
      && is_moved_from (formula_held F (head, col)) (head, col)
      (formula_held F (suc row, col)) (suc row, col)) head (suc row)) none

  -- where one stands there, the place of its head is known, and its head's text counts
  record IsBelow (row col : ℕ) : Type 0 where
    known : slice_index H place ≤ length A
    head_at : (formula_at_place F (slice_index H place)).0 ≡ (head_row F col row, col)
    by_text : head_row F col (suc row)
        ≡ cond (moves_from A (slice_index H place) (suc row, col) t) (head_row F col row) (suc row)

  goes_on : (row col : ℕ) → IsNext F A (suc row, col) t place →
      stands_above A place (suc row, col) ≡ true → IsBelow row col
  goes_on row col next is_above =
      let parts =
      and_both (nat_lt place (length A))
      (is_same_position (row_below (formula_at_place A place).0) (suc row, col)) is_above in
      let among : place < length A = ltb-true place (length A) parts.0 in
      let is = same_from (row_below (formula_at_place A place).0) (suc row, col) parts.1 in
      let next_row : (formula_at_place A place).0.0 + 1 ≡ suc row = ap (λ (p : ℕ × ℕ). p.0) is in
      let row_is : (formula_at_place A place).0.0 ≡ row = omega arith in
      let col_is : (formula_at_place A place).0.1 ≡ col = ap (λ (p : ℕ × ℕ). p.1) is in
      let kept = next.front_kept place among in
      let inside : place < length F = omega (arith, next.inside) in
      let at : (formula_at_place F place).0 ≡ (row, col) =
      ap (λ (e : (ℕ × ℕ) × List ℕ). e.0) kept ∙ (λ i. (row_is i, col_is i)) in
      let found : formula_held F (row, col) ≡ Some (formula_at_place F place).1 =
      ap (λ (q : ℕ × ℕ). formula_held F q) (sym at)
      ∙ found_at F place ((0, 0), []) next.rising inside in
      let h = slice_index H place in
      let up : h ≤ place = heads.up_to place (omega (arith, count)) in
      let head = head_row F col row in
      let head_at : (formula_at_place F h).0 ≡ (head, col) =
      heads.head place (omega (arith, count)) ∙ ap (group_head F) at in
      let kept_head = next.front_kept h (omega arith) in
      let found_head : formula_held F (head, col) ≡ Some (formula_at_place A h).1 =
      ap (λ (q : ℕ × ℕ). formula_held F q) (sym head_at)
      ∙ found_at F h ((0, 0), []) next.rising (omega (arith, next.inside))
      ∙ ap (λ (e : (ℕ × ℕ) × List ℕ). Some e.1) kept_head in
      let found_own : formula_held F (suc row, col) ≡ Some t =
      ap (λ (e : (ℕ × ℕ) × List ℕ). formula_held F e.0) (sym next.own)
      ∙ found_at F (length A) ((0, 0), []) next.rising next.inside
      ∙ ap (λ (e : (ℕ × ℕ) × List ℕ). Some e.1) next.own in
      record {
        known = omega arith;
        head_at = head_at;
        by_text = (λ i. cond (is_placed (found i)
            && is_moved_from (found_head i) (head, col) (found_own i) (suc row, col))
            head (suc row))
            ∙ ap (λ (q : ℕ × ℕ). cond (bytes_eq t (moved (formula_at_place A h).1
            (offset_between q (suc row, col)))) head (suc row))
            (sym head_at ∙ ap (λ (e : (ℕ × ℕ) × List ℕ). e.0) kept_head);
      }

  -- the place that is found is that of the head
  abbrev IsHeadPlace : ℕ × ℕ → ℕ → Type 0
  IsHeadPlace p h = (h ≤ length A) × ((formula_at_place F h).0 ≡ group_head F p)

  never_above : (col : ℕ) → stands_above A place (zero, col) ≡ true → ⊥
  never_above col is_above =
      let parts =
      and_both (nat_lt place (length A))
      (is_same_position (row_below (formula_at_place A place).0) (zero, col)) is_above in
      let is = same_from (row_below (formula_at_place A place).0) (zero, col) parts.1 in
      let never : (formula_at_place A place).0.0 + 1 ≡ 0 = ap (λ (p : ℕ × ℕ). p.0) is in
      omega arith

  own_head : (p : ℕ × ℕ) → IsNext F A p t place → head_row F p.1 p.0 ≡ p.0 →
      IsHeadPlace p (length A)
  own_head p next stays = (
    omega arith,
    ap (λ (e : (ℕ × ℕ) × List ℕ). e.0) next.own ∙ ap (λ (r : ℕ). (r, p.1)) (sym stays),
  )

  pub next_head : (row col : ℕ) → IsNext F A (row, col) t place →
      IsHeadPlace (row, col) (head_place A H place (row, col) t)
  next_head zero col next =
      by (stands_above A place (zero, col)) (moves_from A (slice_index H place) (zero, col) t) refl
    where
      by : (stands moves : Bool) → stands_above A place (zero, col) ≡ stands →
          IsHeadPlace (zero, col) (cond (stands && moves) (slice_index H place) (length A))
      by true moves is_above = absurd (never_above col is_above)
      by false moves not_above = own_head (zero, col) next refl
  next_head (suc row) col next =
      by (stands_above A place (suc row, col))
      (moves_from A (slice_index H place) (suc row, col) t) refl refl
    where
      by : (stands moves : Bool) → stands_above A place (suc row, col) ≡ stands →
          moves_from A (slice_index H place) (suc row, col) t ≡ moves →
          IsHeadPlace (suc row, col) (cond (stands && moves) (slice_index H place) (length A))
      by false moves not_above is = own_head (suc row, col) next (stays row col next not_above)
      by true false is_above is =
          own_head (suc row, col) next
          ((goes_on row col next is_above).by_text
          ∙ ap (λ (test : Bool). cond test (head_row F col row) (suc row)) is)
      by true true is_above is =
          let below = goes_on row col next is_above in (
            below.known,
            below.head_at ∙ ap (λ (r : ℕ). (r, col))
                (sym (below.by_text
                ∙ ap (λ (test : Bool). cond test (head_row F col row) (suc row)) is)),
          )

-- ---- one formula more

pub heads_more : (F : PlacedFormulas) (H : List ℕ) (h : ℕ) (p : ℕ × ℕ) (t : List ℕ) →
    AreHeads F H → h ≤ length H → formula_at_place F (length H) ≡ (p, t) →
    (formula_at_place F h).0 ≡ group_head F p → AreHeads F (H ++ h ∷ [])
heads_more F H h p t heads known own at = record {
  up_to = λ k inside. elim (cases_lt k (length H)) [
    | inl earlier ↦
        let kept = get_or-append H (h ∷ []) 0 k earlier in
        let up = heads.up_to k earlier in
        omega (arith, kept, up)
    | inr later ↦
        let whole = length-append H (h ∷ []) in
        let last : k ≡ length H = omega arith in
        let is : slice_index (H ++ h ∷ []) k ≡ h =
        ap (λ (j : ℕ). slice_index (H ++ h ∷ []) j) last ∙ get_or-append_seam H h [] 0 in
        omega (arith, is)
  ];
  head = λ k inside. elim (cases_lt k (length H)) [
    | inl earlier ↦
        ap (λ (j : ℕ). (formula_at_place F j).0) (get_or-append H (h ∷ []) 0 k earlier)
        ∙ heads.head k earlier
    | inr later ↦
        let whole = length-append H (h ∷ []) in
        let last : k ≡ length H = omega arith in
        let is : slice_index (H ++ h ∷ []) k ≡ h =
        ap (λ (j : ℕ). slice_index (H ++ h ∷ []) j) last ∙ get_or-append_seam H h [] 0 in
        ap (λ (j : ℕ). (formula_at_place F j).0) is ∙ at
        ∙ ap (λ (e : (ℕ × ℕ) × List ℕ). group_head F e.0)
        (sym own ∙ ap (λ (j : ℕ). formula_at_place F j) (sym last))
  ];
}

-- the formulas up to a place are passed by the first of those that are left
abbrev pub PassedBy : PlacedFormulas → ℕ → PlacedFormulas → Type 0
PassedBy front place [] = Unit {0}
PassedBy front place (entry ∷ entries) = ArePassed front 0 place entry.0

pub passed_both : (A : PlacedFormulas) (above place : ℕ) (p : ℕ × ℕ) → ArePassed A 0 above p →
    ArePassed A above place p → ArePassed A 0 place p
passed_both A above place p first second k from before =
    elim (cases_lt k above) [
      | inl earlier ↦ first k from earlier
      | inr later ↦ second k later before
    ]

pub passed_further : (A B : PlacedFormulas) (place : ℕ) (p : ℕ × ℕ) (t : List ℕ)
    → place ≤ length A →
    is_rising ((p, t) ∷ B) ≡ true → ArePassed A 0 place p →
    PassedBy (A ++ (p, t) ∷ []) place B
passed_further A [] place p t within rising passed = tt
passed_further A (e ∷ B) place p t within rising passed = λ k from before.
    let parts = and_both (below_all position_cmp p (e ∷ B)) (is_rising (e ∷ B)) rising in
    let kept = get_or-append A ((p, t) ∷ []) ((0, 0), []) k (omega arith) in
    let first = less_from _ (passed k from before) in
    let second : position_cmp p e.0 ≡ Less =
    below_at p (e ∷ B) 0 ((0, 0), []) parts.0 (omega arith) in
    ap (λ (own : (ℕ × ℕ) × List ℕ). is_lt (position_cmp (row_below own.0) e.0)) kept
    ∙ ap is_lt (position_total.trans (row_below (formula_at_place A k).0) p e.0 first second)

pub rising_behind : (A B : PlacedFormulas) → is_rising (A ++ B) ≡ true → is_rising B ≡ true
rising_behind [] B rising = rising
rising_behind (e ∷ A) B rising =
    rising_behind A B (and_both (below_all position_cmp e.0 (A ++ B)) (is_rising (A ++ B)) rising).1

pub next_of : (F A B : PlacedFormulas) (p : ℕ × ℕ) (t : List ℕ) (place : ℕ) → is_rising F ≡ true →
    A ++ (p, t) ∷ B ≡ F → ArePassed A 0 place p → StopsAt A place p → place ≤ length A →
    IsNext F A p t place
next_of F A B p t place rising whole passed stops within =
    let size = ap length whole in
    let sum = length-append A ((p, t) ∷ B) in
    record {
      rising = rising;
      front_kept = λ k before. ap (λ (es : PlacedFormulas). formula_at_place es k) (sym whole)
          ∙ get_or-append A ((p, t) ∷ B) ((0, 0), []) k before;
      own = ap (λ (es : PlacedFormulas). formula_at_place es (length A)) (sym whole)
          ∙ get_or-append_seam A (p, t) B ((0, 0), []);
      inside = omega arith;
      passed = passed;
      stops = stops;
      within = within;
    }

-- what is meant by cells rises as they do
pub meant_rises : {X Y : Type 0} (g : X → Y) (es : List ((ℕ × ℕ) × X)) →
    is_rising (meant g es) ≡ is_rising es
meant_rises g [] = refl
meant_rises g (e ∷ es) =
    let below = meant_below g e.0 es in
    let rest = meant_rises g es in
    λ i. below i && rest i

-- the next formula is kept with its head
pub next_member : (F A B : PlacedFormulas) (H : List ℕ) (p : ℕ × ℕ) (t : List ℕ)
    (above place h : ℕ) →
    is_rising F ≡ true → A ++ (p, t) ∷ B ≡ F → AreHeads F H → length H ≡ length A →
    PassedBy A above ((p, t) ∷ B) → ArePassed A above place p → StopsAt A place p →
    place ≤ length A → h ≡ head_place A H place p t →
    ((A ++ (p, t) ∷ []) ++ B ≡ F) × AreHeads F (H ++ h ∷ [])
    × PassedBy (A ++ (p, t) ∷ []) place B
next_member F A B H p t above place h rising whole heads count first further stops within is =
    let passed = passed_both A above place p first further in
    let next = next_of F A B p t place rising whole passed stops within in
    let found =
    subst (λ (k : ℕ). (k ≤ length A) × ((formula_at_place F k).0 ≡ group_head F p)) (sym is)
    (next_head F A H t place heads count p.0 p.1 next) in
    let left = rising_behind A ((p, t) ∷ B) (ap is_rising whole ∙ rising) in (
      append_assoc A ((p, t) ∷ []) B ∙ whole,
      heads_more F H h p t heads (omega (arith, count, found.0))
          (ap (λ (k : ℕ). formula_at_place F k) count ∙ next.own) found.1,
      passed_further A B place p t within left passed,
    )

-- what is meant by cells is in order as they are
pub meant_in_order : {X Y : Type 0} (g : X → Y) (es : List ((ℕ × ℕ) × X)) → AreInOrder es →
    AreInOrder (meant g es)
meant_in_order g es order = record {
  rising = meant_rises g es ∙ order.rising;
  sheet = All-map IsPlacedInSheet (with_meaning g) es order.sheet;
}
