-- A step through several lists of cells in the order of positions.
use Rattle.std.proofs.Common.{◌≡◌, ℕ, ◌<◌, ◌≤◌, Bool, true, false, cond, ◌&&◌, ◌||◌, List, [], ◌∷◌}
use Rattle.std.proofs.Common.{◌++◌, length, Some, None, Option, refl, sym, ap, ◌∙◌, subst, arith}
use Rattle.std.specs.Prelude.{map, is_some}
use Rattle.std.specs.declared.cmp.Ordering.{Ordering}
use Rattle.std.specs.declared.cmp.Ordering.TheVariants.{Less, Equal, Greater}
use Rattle.std.specs.Cmp.{tied_itself}
use Rattle.std.specs.FinMap.{empty, entries, from_entries, find, put, entries-insert, len-entries}
use Rattle.std.specs.FinMap.{len-empty, get-entries, get-from_entries, entries_sorted, is_sorted}
use Rattle.std.specs.FinMap.Entries.{by_order, below_all, same_entries}
use Rattle.std.specs.Option.{option_map, option_or, unwrap_or}
use Rattle.std.specs.Ordering.{is_lt, is_le, is_eq, eq_by_cmp}
use Rattle.std.proofs.lemmas.List.{nil_from_length}
use Rattle.cell_refs.specs.Words.{position_cmp}
use Rattle.cell_refs.specs.declared.TheConstants.{MAX_ROWS, MAX_COLUMNS}
use Rattle.cell_refs.proofs.PositionOrder.{position_total, position_same, and_both, to_T, from_T}
use Rattle.sorted_cells.proofs.Finding.{found_in_two}
use Rattle.sorted_cells.specs.Words.{first_position, value_first, left_behind}
use Rattle.cell_data.specs.Pairs.{with_meaning}
use Rattle.cell_data.specs.Splitting.{AreInOrder, given, none_earlier, Splits}
use Rattle.cell_data.specs.Stepping.{IsOfFirst, StandsUpTo, positions_alone, positions_of}
use Rattle.cell_data.proofs.Splitting.{below_cons, splits_at}

-- ---- the position that comes first

le_follows : (a b c : ℕ × ℕ) → is_le (position_cmp a b) ≡ true → is_le (position_cmp b c) ≡ true →
    (o : Ordering) → position_cmp a b ≡ o → (u : Ordering) → position_cmp b c ≡ u →
    is_le (position_cmp a c) ≡ true
le_follows a b c first second Less less Less further =
    ap is_le (position_total.trans a b c less further)
le_follows a b c first second Less less Equal tied =
    subst (λ q. is_le (position_cmp a q) ≡ true) (position_same b c tied) first
le_follows a b c first second Equal tied u is =
    subst (λ q. is_le (position_cmp q c) ≡ true) (sym (position_same a b tied)) second
le_follows a b c first second Greater greater u is = absurd (cc)
le_follows a b c first second o less Greater greater = absurd (cc)

-- what isn't behind a position isn't behind what the position isn't behind
pub stands_before : (p b : ℕ × ℕ) (other : Option (ℕ × ℕ)) → is_le (position_cmp p b) ≡ true →
    StandsUpTo b other → StandsUpTo p other
stands_before p b None le upto = tt
stands_before p b (Some q) le upto = le_follows p b q le upto _ refl _ refl

module _ {X : Type 0} where
  -- no cell stands before what isn't behind the first one
  pub stands_first : (p : ℕ × ℕ) (cells : List ((ℕ × ℕ) × X)) →
      StandsUpTo p (first_position cells) → none_earlier p cells ≡ true
  stands_first p [] upto = refl
  stands_first p (cell ∷ cells) upto = upto

  pub no_cell : (cells : List ((ℕ × ℕ) × X)) → first_position cells ≡ None → cells ≡ []
  no_cell [] none = refl
  no_cell (cell ∷ cells) none = absurd (cc)

  pub first_is : (p : ℕ × ℕ) (cells : List ((ℕ × ℕ) × X)) → first_position cells ≡ Some p →
      IsOfFirst p cells
  first_is p [] some = absurd (cc)
  first_is p (cell ∷ cells) some = ap (λ place. unwrap_or place cell.0) some

  pub first_in_sheet : (p : ℕ × ℕ) (cells : List ((ℕ × ℕ) × X)) → AreInOrder cells →
      first_position cells ≡ Some p → (p.0 < MAX_ROWS) × (p.1 < MAX_COLUMNS)
  first_in_sheet p [] order some = absurd (cc)
  first_in_sheet p (cell ∷ cells) order some =
      subst (λ (q : ℕ × ℕ). (q.0 < MAX_ROWS) × (q.1 < MAX_COLUMNS))
      (first_is p (cell ∷ cells) some) (order.sheet 0 cell (omega arith))

-- ---- a step at a position

-- a step takes the cell at the position, where no cell stands before it
pub next_splits : {X : Type 0} (p : ℕ × ℕ) (v : Option X) (cells behind : List ((ℕ × ℕ) × X)) →
    AreInOrder cells → none_earlier p cells ≡ true → v ≡ value_first p cells →
    behind ≡ left_behind p cells → Splits p cells v behind
next_splits p v cells behind order first value left =
    subst (λ taken. Splits p cells taken behind) (sym value)
    (subst (λ rest. Splits p cells (value_first p cells) rest) (sym left)
    (splits_at p cells order first))

module _ {X : Type 0} where
  pub no_longer : (p : ℕ × ℕ) (cells : List ((ℕ × ℕ) × X)) →
      length (left_behind p cells) ≤ length cells
  no_longer p [] = omega arith
  no_longer p (cell ∷ cells) = by_test (eq_by_cmp position_cmp p cell.0)
    where
      by_test : (test : Bool) →
          length (cond test cells (cell ∷ cells)) ≤ length (cell ∷ cells)
      by_test true = omega arith
      by_test false = omega arith

  pub first_shorter : (p : ℕ × ℕ) (cells : List ((ℕ × ℕ) × X)) → IsOfFirst p cells →
      length (left_behind p cells) < length cells
  first_shorter p [] first = absurd first
  first_shorter p (cell ∷ cells) first =
      let at : eq_by_cmp position_cmp p cell.0 ≡ true =
      ap is_eq (ap (position_cmp p) first ∙ tied_itself position_total p) in
      omega (arith, ap (λ test. length (cond test cells (cell ∷ cells))) at)

-- ---- the positions that some list has

module _ {X : Type 0} where
  found_entries : (q : ℕ × ℕ) (es : List ((ℕ × ℕ) × X)) →
      find position_cmp q (entries (from_entries {R = position_cmp} es)) ≡ find position_cmp q es
  found_entries q es =
      sym (get-entries (from_entries {R = position_cmp} es) q)
      ∙ get-from_entries position_total es q

  below_by_order : (x : ℕ × ℕ) (o : Ordering) (a b c : List ((ℕ × ℕ) × X)) →
      below_all position_cmp x a ≡ true → below_all position_cmp x b ≡ true →
      below_all position_cmp x c ≡ true → below_all position_cmp x (by_order o a b c) ≡ true
  below_by_order x Less a b c below_a below_b below_c = below_a
  below_by_order x Equal a b c below_a below_b below_c = below_b
  below_by_order x Greater a b c below_a below_b below_c = below_c

  below_put : (x k : ℕ × ℕ) (v : X) (es : List ((ℕ × ℕ) × X)) →
      is_lt (position_cmp x k) ≡ true → below_all position_cmp x es ≡ true →
      below_all position_cmp x (put position_cmp k v es) ≡ true
  below_put x k v [] first rest = below_cons x (k, v) [] first refl
  below_put x k v (e ∷ es) first rest =
      let (own, others) =
      and_both (is_lt (position_cmp x e.0)) (below_all position_cmp x es) rest in
      below_by_order x (position_cmp k e.0) ((k, v) ∷ e ∷ es) ((e.0, v) ∷ es)
      (e ∷ put position_cmp k v es)
      (below_cons x (k, v) (e ∷ es) first rest) (below_cons x (e.0, v) es own others)
      (below_cons x e (put position_cmp k v es) own (below_put x k v es first others))

  below_none : (x : ℕ × ℕ) (es : List ((ℕ × ℕ) × X)) → length es ≡ 0 →
      below_all position_cmp x es ≡ true
  below_none x [] none = refl
  below_none x (e ∷ es) none = absurd (omega arith)

  -- what stands before all entries stands before those of their map
  pub below_entries : (x : ℕ × ℕ) (es : List ((ℕ × ℕ) × X)) →
      below_all position_cmp x es ≡ true →
      below_all position_cmp x (entries (from_entries {R = position_cmp} es)) ≡ true
  below_entries x [] rest =
      below_none x _
      (sym (len-entries (empty {X = X} {R = position_cmp})) ∙ len-empty position_cmp X)
  below_entries x (e ∷ es) rest =
      let (own, others) =
      and_both (is_lt (position_cmp x e.0)) (below_all position_cmp x es) rest in
      ap (below_all position_cmp x)
      (entries-insert position_total (from_entries {R = position_cmp} es) e.0 e.1)
      ∙ below_put x e.0 e.1 _ own (below_entries x es others)

  pub below_used : (x : ℕ × ℕ) (es : List ((ℕ × ℕ) × X)) → below_all position_cmp x es ≡ true →
      below_all position_cmp x (positions_alone es) ≡ true
  below_used x [] below = refl
  below_used x (e ∷ es) below =
      let (own, others) =
      and_both (is_lt (position_cmp x e.0)) (below_all position_cmp x es) below in
      below_cons x (e.0, tt) (positions_alone es) own (below_used x es others)

  pub below_both : (x : ℕ × ℕ) (es fs : List ((ℕ × ℕ) × X)) →
      below_all position_cmp x es ≡ true → below_all position_cmp x fs ≡ true →
      below_all position_cmp x (es ++ fs) ≡ true
  below_both x [] fs in_es in_fs = in_fs
  below_both x (e ∷ es) fs in_es in_fs =
      let (own, others) =
      and_both (is_lt (position_cmp x e.0)) (below_all position_cmp x es) in_es in
      below_cons x e (es ++ fs) own (below_both x es fs others in_fs)

-- entries that have a position beside those of others, if it is there at all
abbrev pub Adds :
    ℕ × ℕ → Bool → List ((ℕ × ℕ) × Unit {0}) → List ((ℕ × ℕ) × Unit {0}) → Type 0
Adds p some whole rest =
    (q : ℕ × ℕ) → find position_cmp q whole
    ≡ cond (eq_by_cmp position_cmp q p && some) (Some tt) (find position_cmp q rest)

and_true : (b : Bool) → (b && true) ≡ b
and_true true = refl
and_true false = refl

and_false : (b : Bool) → (b && false) ≡ false
and_false true = refl
and_false false = refl

-- the positions of a list that has a cell at a position, or none
pub used_given : {X : Type 0} (p : ℕ × ℕ) (v : Option X) (es : List ((ℕ × ℕ) × X)) →
    Adds p (is_some v) (positions_alone (given p v ++ es)) (positions_alone es)
used_given p None es q =
    ap (λ t. cond t (Some tt) (find position_cmp q (positions_alone es)))
    (sym (and_false (eq_by_cmp position_cmp q p)))
used_given p (Some v) es q =
    ap (λ t. cond t (Some tt) (find position_cmp q (positions_alone es)))
    (sym (and_true (eq_by_cmp position_cmp q p)))

either_found : (at a b : Bool) (x y : Option (Unit {0})) →
    option_or (cond (at && a) (Some tt) x) (cond (at && b) (Some tt) y)
    ≡ cond (at && (a || b)) (Some tt) (option_or x y)
either_found false a b x y = refl
either_found true true b x y = refl
either_found true false true None y = refl
either_found true false true (Some u) y = refl
either_found true false false x y = refl

-- those of two lists
pub used_both : (p : ℕ × ℕ) (a b : Bool) (vs us fs ds : List ((ℕ × ℕ) × Unit {0})) →
    Adds p a vs us → Adds p b fs ds → Adds p (a || b) (vs ++ fs) (us ++ ds)
used_both p a b vs us fs ds in_vs in_fs q =
    found_in_two position_cmp q vs fs
    ∙ (λ i. option_or (in_vs q i) (in_fs q i))
    ∙ either_found (eq_by_cmp position_cmp q p) a b (find position_cmp q us)
    (find position_cmp q ds)
    ∙ ap (cond (eq_by_cmp position_cmp q p && (a || b)) (Some tt))
    (sym (found_in_two position_cmp q us ds))

-- a position before all others is the first of the map
pub first_entries : (p : ℕ × ℕ) (some : Bool) (whole rest : List ((ℕ × ℕ) × Unit {0})) →
    Adds p some whole rest → some ≡ true → below_all position_cmp p rest ≡ true →
    entries (from_entries {R = position_cmp} whole)
    ≡ (p, tt) ∷ entries (from_entries {R = position_cmp} rest)
first_entries p some whole rest adds is below =
    let behind : List ((ℕ × ℕ) × Unit {0}) = entries (from_entries {R = position_cmp} rest) in
    let sorted : is_sorted position_cmp ((p, tt) ∷ behind) ≡ true =
    ap (λ t. t && is_sorted position_cmp behind) (below_entries p rest below)
    ∙ from_T _ (entries_sorted (from_entries {R = position_cmp} rest)) in
    same_entries position_cmp position_total position_same
    (entries (from_entries {R = position_cmp} whole))
    ((p, tt) ∷ behind) (entries_sorted _) (to_T _ sorted)
    (λ q. found_entries q whole ∙ adds q
    ∙ ap (λ t. cond (eq_by_cmp position_cmp q p && t) (Some tt) (find position_cmp q rest)) is
    ∙ ap (λ t. cond t (Some tt) (find position_cmp q rest))
    (and_true (eq_by_cmp position_cmp q p))
    ∙ ap (cond (eq_by_cmp position_cmp q p) (Some tt)) (sym (found_entries q rest)))

-- without entries there is no position
pub no_positions : positions_of [] ≡ []
no_positions =
    ap (map (λ e. e.0))
    (nil_from_length (entries (empty {X = Unit {0}} {R = position_cmp}))
    (sym (len-entries (empty {X = Unit {0}} {R = position_cmp}))
    ∙ len-empty position_cmp (Unit {0})))

-- ---- what is meant by cells

module _ {X Y : Type 0} (g : X → Y) where
  -- cells by what is meant by what they hold
  abbrev pub meant : List ((ℕ × ℕ) × X) → List ((ℕ × ℕ) × Y)
  meant es = map (with_meaning g) es

  pub meant_given : (p : ℕ × ℕ) (v : Option X) (es : List ((ℕ × ℕ) × X)) →
      meant (given p v ++ es) ≡ given p (option_map g v) ++ meant es
  meant_given p None es = refl
  meant_given p (Some v) es = refl

  pub meant_below : (p : ℕ × ℕ) (es : List ((ℕ × ℕ) × X)) →
      below_all position_cmp p (meant es) ≡ below_all position_cmp p es
  meant_below p [] = refl
  meant_below p (e ∷ es) = ap (λ t. is_lt (position_cmp p e.0) && t) (meant_below p es)

  mapped : (test : Bool) (v : X) (o : Option X) →
      cond test (Some (g v)) (option_map g o) ≡ option_map g (cond test (Some v) o)
  mapped true v o = refl
  mapped false v o = refl

  pub meant_found : (p : ℕ × ℕ) (es : List ((ℕ × ℕ) × X)) →
      find position_cmp p (meant es) ≡ option_map g (find position_cmp p es)
  meant_found p [] = refl
  meant_found p (e ∷ es) =
      ap (cond (eq_by_cmp position_cmp p e.0) (Some (g e.1))) (meant_found p es)
      ∙ mapped (eq_by_cmp position_cmp p e.0) e.1 (find position_cmp p es)
