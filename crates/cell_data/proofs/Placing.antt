-- Cells in the order of positions, and the last of each position.
use Rattle.std.proofs.Common.{◌≡◌, ℕ, Bool, true, false, cond, ◌&&◌, List, [], ◌∷◌, ◌++◌, Some}
use Rattle.std.proofs.Common.{None, Option, refl, sym, ap, ◌∙◌}
use Rattle.std.specs.Prelude.{reverse}
use Rattle.std.specs.declared.cmp.Ordering.{Ordering}
use Rattle.std.specs.declared.cmp.Ordering.TheVariants.{Less, Equal, Greater}
use Rattle.std.specs.BTreeMap.{insert_entry}
use Rattle.std.specs.FinMap.{empty, from_entries, from_sorted, entries, find, put, entries-insert}
use Rattle.std.specs.FinMap.{entries-from_sorted, get-from_sorted, len-entries, len-empty, same_map}
use Rattle.std.specs.FinMap.{get-from_entries, entries_sorted}
use Rattle.std.specs.FinMap.Entries.{by_order, below_all}
use Rattle.std.specs.Option.{option_or}
use Rattle.std.specs.Ordering.{is_lt, eq_by_cmp, match_ordering}
use Rattle.std.proofs.lemmas.List.{append_assoc, reverse-append, map-append, nil_from_length}
use Rattle.cell_data.specs.declared.cell.Cell.{Cell}
use Rattle.cell_data.specs.Cells.{cell_entry, placed_cells}
use Rattle.cell_refs.specs.Words.{position_cmp, is_rising}
use Rattle.cell_refs.specs.Positions.{last_of_each}
use Rattle.cell_refs.proofs.PositionOrder.{position_total, position_same, to_T, from_T, and_both}
use Rattle.cell_refs.proofs.PositionOrder.{less_from, equal_from, none_behind}
use Rattle.sorted_cells.proofs.Finding.{found_in_two}

module _ {X : Type 0} where
  order_alike : (o : Ordering) (a b c d : List ((ℕ × ℕ) × X)) → c ≡ d →
      match_ordering o a b c ≡ by_order o a b d
  order_alike Less a b c d same = refl
  order_alike Equal a b c d same = refl
  order_alike Greater a b c d same = same

  inserted_is_put : (es : List ((ℕ × ℕ) × X)) (k : ℕ × ℕ) (v : X) →
      insert_entry position_cmp es k v ≡ put position_cmp k v es
  inserted_is_put [] k v = refl
  inserted_is_put (e ∷ es) k v =
      order_alike (position_cmp k e.0) ((k, v) ∷ e ∷ es) ((e.0, v) ∷ es)
      (e ∷ insert_entry position_cmp es k v) (e ∷ put position_cmp k v es)
      (ap (λ fs. e ∷ fs) (inserted_is_put es k v))

  -- no cell
  pub nothing_last : last_of_each {X = X} [] ≡ []
  unfolding last_of_each
  nothing_last =
      nil_from_length _
      (sym (len-entries (empty {X = X} {R = position_cmp})) ∙ len-empty position_cmp X)

  pub none_placed : entries (empty {X = X} {R = position_cmp}) ≡ []
  unfolding last_of_each
  none_placed = nothing_last

  -- one cell more, behind the others
  pub last_more : (cells : List ((ℕ × ℕ) × X)) (k : ℕ × ℕ) (v : X) →
      last_of_each (cells ++ (k, v) ∷ []) ≡ insert_entry position_cmp (last_of_each cells) k v
  unfolding last_of_each
  last_more cells k v =
      ap (λ es. entries (from_entries {R = position_cmp} es)) (reverse-append cells ((k, v) ∷ []))
      ∙ (entries-insert position_total (from_entries {R = position_cmp} (reverse cells)) k v
      ∙ sym (inserted_is_put (entries (from_entries {R = position_cmp} (reverse cells))) k v))

  pub one_more : (all : List ((ℕ × ℕ) × X)) (k : ℕ × ℕ) (v : X) (old new : List ((ℕ × ℕ) × X)) →
      old ≡ last_of_each all → new ≡ insert_entry position_cmp old k v →
      new ≡ last_of_each (all ++ (k, v) ∷ [])
  one_more all k v old new known inserted =
      inserted ∙ (ap (λ es. insert_entry position_cmp es k v) known ∙ sym (last_more all k v))

  pub one_placed : (front : List ((ℕ × ℕ) × X)) (cells : List (Cell X)) (cell : Cell X)
      (old new : List ((ℕ × ℕ) × X)) → old ≡ last_of_each (front ++ placed_cells cells) →
      new ≡ insert_entry position_cmp old cell.pos cell.val →
      new ≡ last_of_each (front ++ placed_cells (cells ++ cell ∷ []))
  one_placed front cells cell old new known inserted =
      one_more (front ++ placed_cells cells) cell.pos cell.val old new known inserted
      ∙ ap last_of_each
      (append_assoc front (placed_cells cells) (cell_entry cell ∷ [])
      ∙ ap (λ es. front ++ es) (sym (map-append cell_entry cells (cell ∷ []))))

  -- the last of each position rise
  pub last_rising : (cells : List ((ℕ × ℕ) × X)) → is_rising (last_of_each cells) ≡ true
  unfolding last_of_each
  last_rising cells = from_T _ (entries_sorted (from_entries {R = position_cmp} (reverse cells)))

  tied_or_not : (test : Bool) (v : X) (o : Option X) → (test ≡ true → o ≡ None) →
      option_or o (cond test (Some v) None) ≡ cond test (Some v) o
  tied_or_not true v o alone = ap (λ p. option_or p (Some v)) (alone refl)
  tied_or_not false v None alone = refl
  tied_or_not false v (Some w) alone = refl

  found_reversed : (q : ℕ × ℕ) (es : List ((ℕ × ℕ) × X)) → is_rising es ≡ true →
      find position_cmp q (reverse es) ≡ find position_cmp q es
  found_reversed q [] rising = refl
  found_reversed q (e ∷ es) rising =
      let (below, rest) = and_both (below_all position_cmp e.0 es) (is_rising es) rising in
      ap (find position_cmp q) (reverse-append (e ∷ []) es)
      ∙ (found_in_two position_cmp q (reverse es) (e ∷ [])
      ∙ (ap (λ o. option_or o (cond (eq_by_cmp position_cmp q e.0) (Some e.1) None))
      (found_reversed q es rest)
      ∙ tied_or_not (eq_by_cmp position_cmp q e.0) e.1 (find position_cmp q es)
      (λ ties. none_behind position_cmp position_total q e.0 es (equal_from _ ties) below)))

  -- cells that rise are the last of each position
  pub rising_last : (cells : List ((ℕ × ℕ) × X)) → is_rising cells ≡ true →
      cells ≡ last_of_each cells
  unfolding last_of_each
  rising_last cells rising =
      let sorted = to_T (is_rising cells) rising in
      let maps : from_sorted {R = position_cmp} cells ≡ from_entries {R = position_cmp}
      (reverse cells) =
      same_map position_total position_same _ _
      (λ q. get-from_sorted position_cmp cells q sorted
      ∙ (sym (found_reversed q cells rising)
      ∙ sym (get-from_entries position_total (reverse cells) q))) in
      sym (entries-from_sorted position_cmp cells sorted) ∙ ap entries maps

  pub below_further : (x y : ℕ × ℕ) (es : List ((ℕ × ℕ) × X)) → position_cmp x y ≡ Less →
      below_all position_cmp y es ≡ true → below_all position_cmp x es ≡ true
  below_further x y [] less below = refl
  below_further x y (e ∷ es) less below =
      let (first, rest) =
      and_both (is_lt (position_cmp y e.0)) (below_all position_cmp y es) below in
      ap (λ o. is_lt o && below_all position_cmp x es)
      (position_total.trans x y e.0 less (less_from _ first)) ∙ below_further x y es less rest

-- one element further, and those before and behind it are all as they were
pub one_further : {A : Type 0} (front : List A) (x : A) (left rest whole : List A) →
    left ≡ x ∷ rest → front ++ left ≡ whole → front ++ x ∷ [] ++ rest ≡ whole
one_further {A} front x left rest whole is same =
    append_assoc front (x ∷ []) rest ∙ (ap (λ (es : List A). front ++ es) (sym is) ∙ same)
