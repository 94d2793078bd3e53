-- Cells with the places of their areas.
use Rattle.std.proofs.Common.{◌≡◌, ℕ, ◌+◌, ◌-◌, ◌≤◌, Bool, true, false, cond, List, [], ◌∷◌, ◌++◌}
use Rattle.std.proofs.Common.{length, map, take, drop, replicate, Option, Some, refl, sym, ap, ◌∙◌}
use Rattle.std.proofs.Common.{subst, arith}
use Rattle.std.specs.Prelude.{◌&&◌, nat_le, String}
use Rattle.std.specs.FinMap.{find}
use Rattle.std.specs.List.{list_all, slice_range}
use Rattle.std.specs.Option.{option_map}
use Rattle.std.specs.Ordering.{eq_by_cmp}
use Rattle.std.specs.declared.alloc.Global.{Global}
use Rattle.std.proofs.lemmas.Bool.Decides.{nat_tests}
use Rattle.std.proofs.lemmas.Grind.{flat_map-append}
use Rattle.std.proofs.lemmas.List.{append-nil, append_assoc, map-append, length-append, take_all}
use Rattle.std.proofs.lemmas.List.{take-append-le, drop-append-le, drop_at, length-drop}
use Rattle.std.proofs.lemmas.List.{length-replicate}
use Rattle.std.proofs.lemmas.List.Folds.{list_all-append}
use Rattle.cell_refs.specs.Words.{position_cmp, is_rising, is_sheet_area}
use Rattle.cell_refs.specs.declared.dimensions.Dimensions.{Dimensions}
use Rattle.cell_refs.proofs.PositionOrder.{and_both, and_from, rising_positions, positions_rise}
use Rattle.sorted_cells.specs.Words.{last_key, comes_after}
use Rattle.sorted_cells.proofs.Orders.{after_sorted}
use Rattle.xlsx_precedents.specs.Kept.{all_naming, entry_in, lies_within, AreCellsGathered}
use Rattle.xlsx_precedents.specs.Precedents.{areas, formula_of_cell, areas_named_by, all_named}
use Rattle.xlsx_precedents.specs.declared.named_areas.NamedAreas.{NamedAreas}

-- ---- the areas of a cell

entry_found : (all : List Dimensions) (q : ℕ × ℕ) (cells : List ((ℕ × ℕ) × (ℕ × ℕ))) →
    find position_cmp q (map (entry_in all) cells)
    ≡ option_map (λ (p : ℕ × ℕ). slice_range all p.0 p.1) (find position_cmp q cells)
entry_found all q [] = refl
entry_found all q (cell ∷ cells) =
    by_test (eq_by_cmp position_cmp q cell.0) (entry_found all q cells) where
      by_test : (t : Bool) →
          find position_cmp q (map (entry_in all) cells)
          ≡ option_map (λ (p : ℕ × ℕ). slice_range all p.0 p.1) (find position_cmp q cells) →
          cond t (Some (slice_range all cell.1.0 cell.1.1))
          (find position_cmp q (map (entry_in all) cells))
          ≡ option_map (λ (p : ℕ × ℕ). slice_range all p.0 p.1)
          (cond t (Some cell.1) (find position_cmp q cells))
      by_test true rest = refl
      by_test false rest = rest

pub found_within : (count : ℕ) (q : ℕ × ℕ) (cells : List ((ℕ × ℕ) × (ℕ × ℕ))) (p : ℕ × ℕ) →
    list_all (lies_within count) cells ≡ true → find position_cmp q cells ≡ Some p →
    (p.0 ≤ p.1) × (p.1 ≤ count)
found_within count q [] p within is = absurd (cc)
found_within count q (cell ∷ cells) p within is =
    let (first, others) = and_both (lies_within count cell) (list_all (lies_within count) cells)
    within in
    let (order, below) = and_both (nat_le cell.1.0 cell.1.1) (nat_le cell.1.1 count) first in
    let order' : cell.1.0 ≤ cell.1.1 = grind (arith, nat_tests, order) in
    let below' : cell.1.1 ≤ count = grind (arith, nat_tests, below) in
    by_test (eq_by_cmp position_cmp q cell.0) is order' below'
    (λ is. found_within count q cells p others is) where
      by_test : (t : Bool) → cond t (Some cell.1) (find position_cmp q cells) ≡ Some p →
          cell.1.0 ≤ cell.1.1 → cell.1.1 ≤ count →
          (find position_cmp q cells ≡ Some p → (p.0 ≤ p.1) × (p.1 ≤ count)) →
          (p.0 ≤ p.1) × (p.1 ≤ count)
      by_test true is order below rest =
          let same : cell.1 ≡ p = cc in
          subst (λ (p : ℕ × ℕ). (p.0 ≤ p.1) × (p.1 ≤ count)) same (order, below)
      by_test false is order below rest = rest is

pub precedents_found : (all : List Dimensions) (q : ℕ × ℕ) (cells : List ((ℕ × ℕ) × (ℕ × ℕ)))
    (o : Option (ℕ × ℕ)) → find position_cmp q cells ≡ o →
    find position_cmp q (map (entry_in all) cells)
    ≡ option_map (λ (p : ℕ × ℕ). slice_range all p.0 p.1) o
precedents_found all q cells o is =
    entry_found all q cells
    ∙ ap (option_map (λ (p : ℕ × ℕ). slice_range all p.0 p.1)) is

-- ---- one cell more

still_there : (all more : List Dimensions) (first end : ℕ) → first ≤ end → end ≤ length all →
    slice_range (all ++ more) first end ≡ slice_range all first end
still_there all more first end order within =
    ap (take (end - first)) (drop-append-le first all more (omega arith))
    ∙ take-append-le (end - first) (drop first all) more
    (omega (arith, length-drop first all))

all_there : (all more : List Dimensions) (cells : List ((ℕ × ℕ) × (ℕ × ℕ))) →
    list_all (lies_within (length all)) cells ≡ true →
    map (entry_in (all ++ more)) cells ≡ map (entry_in all) cells
all_there all more [] within = refl
all_there all more (cell ∷ cells) within =
    let (first, others) = and_both (lies_within (length all) cell)
    (list_all (lies_within (length all)) cells) within in
    let (order, below) = and_both (nat_le cell.1.0 cell.1.1) (nat_le cell.1.1 (length all)) first
    in
    let there : slice_range (all ++ more) cell.1.0 cell.1.1 ≡ slice_range all cell.1.0 cell.1.1 =
    still_there all more cell.1.0 cell.1.1 (grind (arith, nat_tests, order))
    (grind (arith, nat_tests, below)) in
    λ i. (cell.0, there i) ∷ all_there all more cells others i

last_there : (all more : List Dimensions) (end : ℕ) → end ≡ length (all ++ more) →
    slice_range (all ++ more) (length all) end ≡ more
last_there all more end is =
    let size : length (all ++ more) ≡ length all + length more = length-append all more in
    ap (take (end - length all)) (drop_at all more (length all) refl)
    ∙ take_all (end - length all) more (omega (arith, is, size))

pub with_cell : (all more : List Dimensions) (cells : List ((ℕ × ℕ) × (ℕ × ℕ)))
    (position : ℕ × ℕ) (first end : ℕ) → list_all (lies_within (length all)) cells ≡ true →
    first ≡ length all → end ≡ length (all ++ more) →
    map (entry_in (all ++ more)) (cells ++ (position, (first, end)) ∷ [])
    ≡ map (entry_in all) cells ++ (position, more) ∷ []
with_cell all more cells position first end within begins ends =
    map-append (entry_in (all ++ more)) cells ((position, (first, end)) ∷ [])
    ∙ (λ i. all_there all more cells within i
    ++ (
      position,
      (ap (λ n. slice_range (all ++ more) n end) begins
          ∙ last_there all more end ends) i,
    ) ∷ [])

further : (count more : ℕ) → count ≤ more → (cells : List ((ℕ × ℕ) × (ℕ × ℕ))) →
    list_all (lies_within count) cells ≡ true → list_all (lies_within more) cells ≡ true
further count more less [] within = refl
further count more less (cell ∷ cells) within =
    let (first, others) = and_both (lies_within count cell) (list_all (lies_within count) cells)
    within in
    let (order, below) = and_both (nat_le cell.1.0 cell.1.1) (nat_le cell.1.1 count) first in
    and_from (lies_within more cell) (list_all (lies_within more) cells)
    (and_from (nat_le cell.1.0 cell.1.1) (nat_le cell.1.1 more) order
    (grind (arith, nat_tests, below, less))) (further count more less cells others)

-- ---- a walk over the cells

-- what is known of cells, their areas, the formulas that are left, and what all of them name
pub record Gathers (cells : List ((ℕ × ℕ) × (ℕ × ℕ))) (named : NamedAreas)
    (left : List ((ℕ × ℕ) × List ℕ)) (whole : List ((ℕ × ℕ) × List Dimensions)) : Type 0 where
  pub within : list_all (lies_within (length named.areas.items)) cells ≡ true
  pub entries : map (entry_in named.areas.items) cells ++ map areas_named_by left ≡ whole
  pub areas : named.areas.items ≡ all_named (map (entry_in named.areas.items) cells)
  pub owners : named.cells.items ≡ all_naming (map (entry_in named.areas.items) cells)
  pub on_sheet : list_all is_sheet_area named.areas.items ≡ true

last_entry : (all : List Dimensions) (cells : List ((ℕ × ℕ) × (ℕ × ℕ))) →
    last_key (map (entry_in all) cells) ≡ last_key cells
last_entry all [] = refl
last_entry all (cell ∷ []) = refl
last_entry all (cell ∷ next ∷ cells) = last_entry all (next ∷ cells)

-- the next cell comes behind those that are there
pub comes_next : (cells : List ((ℕ × ℕ) × (ℕ × ℕ))) (named : NamedAreas)
    (next : (ℕ × ℕ) × List ℕ) (left rest : List ((ℕ × ℕ) × List ℕ))
    (whole : List ((ℕ × ℕ) × List Dimensions)) → Gathers cells named left whole →
    left ≡ next ∷ rest → is_rising whole ≡ true →
    comes_after position_cmp (last_key cells) next.0 ≡ true
comes_next cells named next left rest whole gathers is rising =
    ap (λ k. comes_after position_cmp k next.0) (sym (last_entry named.areas.items cells))
    ∙ after_sorted position_cmp (map (entry_in named.areas.items) cells) (areas_named_by next)
    (map areas_named_by rest)
    (ap (λ l. is_rising (map (entry_in named.areas.items) cells ++ map areas_named_by l)) (sym is)
    ∙ ap is_rising gathers.entries ∙ rising)

-- each area has a cell
pub paired : (index : List ((ℕ × ℕ) × List Dimensions)) →
    length (all_named index) ≡ length (all_naming index)
paired [] = refl
paired (entry ∷ index) =
    length-append entry.1 (all_named index)
    ∙ (λ i. sym (length-replicate (length entry.1) entry.0) i + paired index i)
    ∙ sym (length-append (replicate (length entry.1) entry.0) (all_naming index))

pub paired_in : (cells : List ((ℕ × ℕ) × (ℕ × ℕ))) (named : NamedAreas)
    (left : List ((ℕ × ℕ) × List ℕ)) (whole : List ((ℕ × ℕ) × List Dimensions)) →
    Gathers cells named left whole → length named.cells.items ≡ length named.areas.items
paired_in cells named left whole gathers =
    ap length gathers.owners ∙ sym (paired (map (entry_in named.areas.items) cells))
    ∙ sym (ap length gathers.areas)

-- a cell more, with the areas of its formula
pub gathers_next : (cells cells' : List ((ℕ × ℕ) × (ℕ × ℕ))) (named named' : NamedAreas)
    (next : (ℕ × ℕ) × List ℕ) (left rest : List ((ℕ × ℕ) × List ℕ))
    (whole : List ((ℕ × ℕ) × List Dimensions)) (first end : ℕ) →
    Gathers cells named left whole → left ≡ next ∷ rest →
    named'.areas.items ≡ named.areas.items ++ areas next.1 →
    named'.cells.items ≡ named.cells.items ++ replicate (length (areas next.1)) next.0 →
    list_all is_sheet_area named'.areas.items ≡ true →
    first ≡ length named.areas.items → end ≡ length named'.areas.items →
    cells' ≡ cells ++ (next.0, (first, end)) ∷ [] →
    Gathers cells' named' rest whole
gathers_next cells cells' named named' next left rest whole first end gathers is more_areas
    more_cells on_sheet begins ends more =
    let all = named.areas.items in
    let more_of = areas next.1 in
    let before = map (entry_in all) cells in
    let entries : map (entry_in named'.areas.items) cells' ≡ before ++ areas_named_by next ∷ [] =
    (λ i. map (entry_in (more_areas i)) (more i))
    ∙ with_cell all more_of cells next.0 first end gathers.within begins
    (ends ∙ ap length more_areas) in
    let count : length named'.areas.items ≡ length all + length more_of =
    ap length more_areas ∙ length-append all more_of in
    let own : lies_within (length named'.areas.items) (next.0, (first, end)) ≡ true =
    grind (arith, nat_tests, begins, ends, count) in
    record {
      within = ap (list_all (lies_within (length named'.areas.items))) more
          ∙ list_all-append (lies_within (length named'.areas.items)) cells
          ((next.0, (first, end)) ∷ [])
          ∙ and_from (list_all (lies_within (length named'.areas.items)) cells)
          (lies_within (length named'.areas.items) (next.0, (first, end)) && true)
          (further (length all) (length named'.areas.items) (omega (arith, count)) cells
          gathers.within)
          (and_from (lies_within (length named'.areas.items) (next.0, (first, end))) true own refl);
      entries = ap (λ es. es ++ map areas_named_by rest) entries
          ∙ append_assoc before (areas_named_by next ∷ []) (map areas_named_by rest)
          ∙ ap (λ l. before ++ map areas_named_by l) (sym is) ∙ gathers.entries;
      areas = more_areas ∙ (λ i. gathers.areas i ++ sym (append-nil more_of) i)
          ∙ sym (flat_map-append (λ (e : (ℕ × ℕ) × List Dimensions). e.1) before
          (areas_named_by next ∷ []))
          ∙ ap all_named (sym entries);
      owners = more_cells
          ∙ (λ i. gathers.owners i
          ++ sym (append-nil (replicate (length more_of) next.0)) i)
          ∙ sym (flat_map-append
          (λ (e : (ℕ × ℕ) × List Dimensions). replicate (length e.1) e.0) before
          (areas_named_by next ∷ []))
          ∙ ap all_naming (sym entries);
      on_sheet = on_sheet;
    }

-- what all formulas name rises as their cells do
pub named_rises : (cells : List ((ℕ × ℕ) × String Global)) → is_rising cells ≡ true →
    is_rising (map areas_named_by (map formula_of_cell cells)) ≡ true
named_rises cells rising =
    rising_positions (map areas_named_by (map formula_of_cell cells))
    ∙ ap positions_rise (same cells) ∙ sym (rising_positions cells) ∙ rising
  where
    same : (cells : List ((ℕ × ℕ) × String Global)) →
        map (λ (e : (ℕ × ℕ) × List Dimensions).
        e.0) (map areas_named_by (map formula_of_cell cells))
        ≡ map (λ (e : (ℕ × ℕ) × String Global). e.0) cells
    same [] = refl
    same (cell ∷ cells) = ap (λ ps. cell.0 ∷ ps) (same cells)

-- no formula is left
pub all_gathered : (cells : List ((ℕ × ℕ) × (ℕ × ℕ))) (named : NamedAreas)
    (left : List ((ℕ × ℕ) × List ℕ)) (whole : List ((ℕ × ℕ) × List Dimensions)) →
    Gathers cells named left whole → left ≡ [] → is_rising whole ≡ true →
    AreCellsGathered cells named × (map (entry_in named.areas.items) cells ≡ whole)
all_gathered cells named left whole gathers none rising =
    let entries : map (entry_in named.areas.items) cells ≡ whole =
    sym (append-nil (map (entry_in named.areas.items) cells))
    ∙ ap (λ l. map (entry_in named.areas.items) cells ++ map areas_named_by l) (sym none)
    ∙ gathers.entries in (
      record {
        within = gathers.within;
        rising = ap is_rising entries ∙ rising;
        areas = gathers.areas;
        owners = gathers.owners;
        on_sheet = gathers.on_sheet;
      },
      entries,
    )
