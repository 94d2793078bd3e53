-- The cells that are found by the numbers of their areas.
use Rattle.std.proofs.Common.{◌≡◌, ℕ, suc, ◌+◌, ◌-◌, Bool, true, false, cond, not, ◌||◌, List, []}
use Rattle.std.proofs.Common.{◌∷◌, ◌++◌, length, map, replicate, Option, None, Some, refl, sym, ap}
use Rattle.std.proofs.Common.{◌∙◌, arith}
use Rattle.std.specs.Prelude.{◌&&◌, ◌==◌, filter}
use Rattle.std.specs.List.{slice_get, list_all}
use Rattle.std.specs.declared.cmp.Ordering.TheVariants.{Less, Greater}
use Rattle.std.specs.Ordering.{ordering_reverse, is_lt}
use Rattle.std.proofs.lemmas.Bool.Decides.{nat_tests}
use Rattle.std.proofs.lemmas.List.{append-nil, append_assoc, length_push, get_or_push}
use Rattle.std.proofs.lemmas.Option.{slice_get-get_or}
use Rattle.cell_refs.specs.Words.{position_cmp, is_in_area}
use Rattle.cell_refs.specs.declared.dimensions.Dimensions.{Dimensions}
use Rattle.cell_refs.proofs.PositionOrder.{and_both, and_from, positions_rise, position_total}
use Rattle.cell_refs.proofs.PositionOrder.{less_from, rising_positions}
use Rattle.xlsx_precedents.specs.Kept.{all_naming, entry_in, AreCellsGathered}
use Rattle.xlsx_precedents.specs.Numbers.{numbers_where, is_this, last_cell, put_found, found_by}
use Rattle.xlsx_precedents.specs.Precedents.{names_cell, direct_dependents, all_named}
use Rattle.xlsx_precedents.specs.declared.named_areas.NamedAreas.{NamedAreas}
use Rattle.xlsx_precedents.proofs.Gathering.{paired}

-- the cells that are found along areas and the cell of each
abbrev along : ℕ × ℕ → List (ℕ × ℕ) → List Dimensions → List (ℕ × ℕ) → List (ℕ × ℕ)
along position found [] cells = found
along position found (area ∷ areas) [] = found
along position found (area ∷ areas) (cell ∷ cells) =
    along position (put_found found (cond (is_in_area area position) (Some cell) None)) areas cells

-- the cells of the areas that have a position, by their numbers
module _ (position : ℕ × ℕ) (look : ℕ → Option (ℕ × ℕ)) where
  abbrev having : Dimensions → Bool
  having area = is_in_area area position

  pub found_along : (found : List (ℕ × ℕ)) (from : ℕ) (areas : List Dimensions)
      (cells : List (ℕ × ℕ)) → length areas ≡ length cells →
      ((k : ℕ) → look (from + k) ≡ slice_get cells k) →
      found_by look found (numbers_where having from areas) ≡ along position found areas cells
  found_along found from [] cells paired looks = refl
  found_along found from (area ∷ areas) [] paired looks = absurd (omega arith)
  found_along found from (area ∷ areas) (cell ∷ cells) paired looks =
      let first : look from ≡ Some cell = ap look (omega arith) ∙ looks 0 in
      let looks' : (k : ℕ) → look (from + 1 + k) ≡ slice_get cells k =
      λ k. ap look (omega arith) ∙ looks (suc k) in
      by_test (is_in_area area position) first
      (λ found. found_along found (from + 1) areas cells (omega arith) looks') where
        by_test : (t : Bool) → look from ≡ Some cell →
            ((found : List (ℕ × ℕ)) →
            found_by look found (numbers_where having (from + 1) areas)
            ≡ along position found areas cells) →
            found_by look found (cond t (from ∷ numbers_where having (from + 1) areas)
            (numbers_where having (from + 1) areas))
            ≡ along position (put_found found (cond t (Some cell) None)) areas cells
        by_test true first rest =
            ap (λ o. found_by look (put_found found o) (numbers_where having (from + 1) areas))
            first
            ∙ rest (put_found found (Some cell))
        by_test false first rest = rest found

last_cell-push : (found : List (ℕ × ℕ)) (cell : ℕ × ℕ) →
    last_cell (found ++ cell ∷ []) ≡ Some cell
last_cell-push found cell =
    let last : length (found ++ cell ∷ []) - 1 ≡ length found =
    omega (arith, length_push found cell) in
    ap (slice_get (found ++ cell ∷ [])) last
    ∙ slice_get-get_or (found ++ cell ∷ []) (length found) cell
    (omega (arith, length_push found cell))
    ∙ ap Some (get_or_push found cell cell (length found) refl)

same_cell : (n : ℕ) → (n == n) ≡ true
same_cell n = grind (arith, nat_tests)

is_this-itself : (cell : ℕ × ℕ) → is_this cell (Some cell) ≡ true
is_this-itself cell =
    and_from (cell.0 == cell.0) (cell.1 == cell.1) (same_cell cell.0) (same_cell cell.1)

-- the areas of one cell, in front of others
module _ (position cell : ℕ × ℕ) (others : List Dimensions) (cells : List (ℕ × ℕ)) where
  -- behind the cell itself it isn't put again
  along_again : (found : List (ℕ × ℕ)) → is_this cell (last_cell found) ≡ true →
      (areas : List Dimensions) →
      along position found (areas ++ others) (replicate (length areas) cell ++ cells)
      ≡ along position found others cells
  along_again found last [] = refl
  along_again found last (area ∷ areas) =
      by_test (is_in_area area position) (along_again found last areas) where
        by_test : (t : Bool) →
            along position found (areas ++ others) (replicate (length areas) cell ++ cells)
            ≡ along position found others cells →
            along position (put_found found (cond t (Some cell) None)) (areas ++ others)
            (replicate (length areas) cell ++ cells)
            ≡ along position found others cells
        by_test true rest =
            ap (λ t. along position (cond t found (found ++ cell ∷ [])) (areas ++ others)
            (replicate (length areas) cell ++ cells)) last ∙ rest
        by_test false rest = rest

  along_first : (found : List (ℕ × ℕ)) → is_this cell (last_cell found) ≡ false →
      (areas : List Dimensions) →
      along position found (areas ++ others) (replicate (length areas) cell ++ cells)
      ≡ along position (cond (names_cell areas position) (found ++ cell ∷ []) found) others cells
  along_first found apart [] = refl
  along_first found apart (area ∷ areas) =
      by_test (is_in_area area position) (along_first found apart areas) where
        by_test : (t : Bool) →
            along position found (areas ++ others) (replicate (length areas) cell ++ cells)
            ≡ along position (cond (names_cell areas position) (found ++ cell ∷ []) found) others
            cells →
            along position (put_found found (cond t (Some cell) None)) (areas ++ others)
            (replicate (length areas) cell ++ cells)
            ≡ along position (cond (t || names_cell areas position) (found ++ cell ∷ []) found)
            others cells
        by_test true rest =
            ap (λ t. along position (cond t found (found ++ cell ∷ [])) (areas ++ others)
            (replicate (length areas) cell ++ cells)) apart
            ∙ along_again (found ++ cell ∷ [])
            (ap (is_this cell) (last_cell-push found cell) ∙ is_this-itself cell) areas
        by_test false rest = rest

-- none of these cells is the last that was found
abbrev none_last : List (ℕ × ℕ) → List (ℕ × ℕ) → Bool
none_last found cells = list_all (λ cell. not (is_this cell (last_cell found))) cells

all_weaker : {X : Type 0} (p q : X → Bool) → ((x : X) → p x ≡ true → q x ≡ true) →
    (xs : List X) → list_all p xs ≡ true → list_all q xs ≡ true
all_weaker p q weaker [] all = refl
all_weaker p q weaker (x ∷ xs) all =
    let both = and_both (p x) (list_all p xs) all in
    and_from (q x) (list_all q xs) (weaker x both.0) (all_weaker p q weaker xs both.1)

no_last : (cells : List (ℕ × ℕ)) → none_last [] cells ≡ true
no_last [] = refl
no_last (cell ∷ cells) = no_last cells

-- a position behind another is another
behind_apart : (a b : ℕ × ℕ) → is_lt (position_cmp a b) ≡ true → not (is_this b (Some a)) ≡ true
behind_apart a b less = by_tests (a.0 == b.0) refl (a.1 == b.1) refl where
  by_tests : (t : Bool) → (a.0 == b.0) ≡ t → (u : Bool) → (a.1 == b.1) ≡ u →
      not (t && u) ≡ true
  by_tests true row true column =
      let rows : a.0 ≡ b.0 = grind (arith, nat_tests, row) in
      let columns : a.1 ≡ b.1 = grind (arith, nat_tests, column) in
      let itself : position_cmp a a ≡ Less =
      (λ i. position_cmp a (rows i, columns i)) ∙ less_from (position_cmp a b) less in
      let turned : Less ≡ Greater =
      sym itself ∙ position_total.antisymm a a ∙ ap ordering_reverse itself in
      absurd (cc)
  by_tests true row false column = refl
  by_tests false row u column = refl

not_false : (t : Bool) → not t ≡ true → t ≡ false
not_false true e = absurd (cc)
not_false false e = refl

abbrev positions : List ((ℕ × ℕ) × List Dimensions) → List (ℕ × ℕ)
positions index = map (λ entry. entry.0) index

pub along_index : (position : ℕ × ℕ) (found : List (ℕ × ℕ))
    (index : List ((ℕ × ℕ) × List Dimensions)) → positions_rise (positions index) ≡ true →
    none_last found (positions index) ≡ true →
    along position found (all_named index) (all_naming index)
    ≡ found ++ direct_dependents index position
unfolding direct_dependents
along_index position found [] rise apart = sym (append-nil found)
along_index position found (entry ∷ index) rise apart =
    let (behind, rise') = and_both
    (list_all (λ q. is_lt (position_cmp entry.0 q)) (positions index))
    (positions_rise (positions index)) rise in
    let (first, apart') = and_both (not (is_this entry.0 (last_cell found)))
    (none_last found (positions index)) apart in
    let behind_it : none_last (found ++ entry.0 ∷ []) (positions index) ≡ true =
    all_weaker (λ q. is_lt (position_cmp entry.0 q))
    (λ q. not (is_this q (last_cell (found ++ entry.0 ∷ []))))
    (λ q less. ap (λ o. not (is_this q o)) (last_cell-push found entry.0)
    ∙ behind_apart entry.0 q less) (positions index) behind in
    along_first position entry.0 (all_named index) (all_naming index) found
    (not_false (is_this entry.0 (last_cell found)) first) entry.1
    ∙ by_test (names_cell entry.1 position)
    (along_index position (found ++ entry.0 ∷ []) index rise' behind_it)
    (along_index position found index rise' apart') where
      by_test : (t : Bool) →
          along position (found ++ entry.0 ∷ []) (all_named index) (all_naming index)
          ≡ (found ++ entry.0 ∷ []) ++ map (λ entry. entry.0)
          (filter (λ entry. names_cell entry.1 position) index) →
          along position found (all_named index) (all_naming index)
          ≡ found ++ map (λ entry. entry.0)
          (filter (λ entry. names_cell entry.1 position) index) →
          along position (cond t (found ++ entry.0 ∷ []) found) (all_named index)
          (all_naming index)
          ≡ found ++ map (λ entry. entry.0) (cond t
          (entry ∷ filter (λ entry. names_cell entry.1 position) index)
          (filter (λ entry. names_cell entry.1 position) index))
      by_test true with_it without =
          with_it ∙ append_assoc found (entry.0 ∷ []) (map (λ entry. entry.0)
          (filter (λ entry. names_cell entry.1 position) index))
      by_test false with_it without = without

-- ---- a search

-- cells, and their areas
module _ (cells : List ((ℕ × ℕ) × (ℕ × ℕ))) (named : NamedAreas) (position : ℕ × ℕ)
    (gathered : AreCellsGathered cells named) (index : List ((ℕ × ℕ) × List Dimensions))
    (index_is : map (entry_in named.areas.items) cells ≡ index) where
  abbrev entries : List ((ℕ × ℕ) × List Dimensions)
  entries = map (entry_in named.areas.items) cells

  abbrev cell_numbered : ℕ → Option (ℕ × ℕ)
  cell_numbered n = slice_get named.cells.items n

  both_lists : length named.areas.items ≡ length named.cells.items
  both_lists = ap length gathered.areas ∙ paired entries ∙ sym (ap length gathered.owners)

  pub named_are : named.areas.items ≡ all_named index
  named_are = gathered.areas ∙ ap all_named index_is

  pub searched :
      found_by cell_numbered []
      (numbers_where (λ area. is_in_area area position) 0 named.areas.items)
      ≡ direct_dependents index position
  searched =
      found_along position cell_numbered [] 0 named.areas.items named.cells.items both_lists
      (λ k. ap cell_numbered (omega arith))
      ∙ (λ i. along position [] (gathered.areas i) (gathered.owners i))
      ∙ along_index position [] entries (sym (rising_positions entries) ∙ gathered.rising)
      (no_last (positions entries))
      ∙ ap (λ index. direct_dependents index position) index_is
