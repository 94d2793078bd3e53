-- The area of cells has each of them, and lies on a sheet where they do.
use Rattle.std.proofs.Common.{◌≡◌, ℕ, zero, suc, ◌<◌, Bool, true, false, ◌&&◌, List, [], ◌∷◌}
use Rattle.std.proofs.Common.{length, Some, None, Option, refl, sym, ap, ◌∙◌, arith, cond, ◌≤◌}
use Rattle.std.proofs.Common.{get_or}
use Rattle.std.specs.Prelude.{reverse, nat_le, nat_lt, All}
use Rattle.std.specs.declared.cmp.Ordering.{Ordering}
use Rattle.std.specs.declared.cmp.Ordering.TheVariants.{Less, Equal, Greater}
use Rattle.std.specs.FinMap.{empty, from_entries, entries, put, entries-insert, len-entries}
use Rattle.std.specs.FinMap.{len-empty}
use Rattle.std.specs.FinMap.Entries.{by_order}
use Rattle.std.specs.List.{list_all, filter}
use Rattle.std.proofs.lemmas.Bool.Decides.{nat_tests}
use Rattle.std.proofs.lemmas.List.{reverse-append}
use Rattle.std.proofs.lemmas.List.Folds.{list_all-append}
use Rattle.cell_refs.specs.declared.dimensions.Dimensions.{Dimensions}
use Rattle.cell_data.specs.declared.cell.Cell.{Cell}
use Rattle.cell_data.specs.Cells.{placed_cells, IsInSheet, IsPlacedInSheet, AreInSheet}
use Rattle.cell_refs.specs.Words.{position_cmp, area_with, least_area, is_in_area, is_in_bounds}
use Rattle.cell_refs.specs.Words.{lie_inside, is_sheet_area, are_sheet_bounds, lie_from}
use Rattle.cell_refs.specs.Positions.{last_of_each}
use Rattle.cell_data.specs.Range.{start_of}
use Rattle.cell_refs.proofs.PositionOrder.{position_total, and_both}

both_orders : (a b : Bool) → (a && b) ≡ (b && (a && true))
both_orders true true = refl
both_orders true false = refl
both_orders false true = refl
both_orders false false = refl

-- a test of positions
module _ {X : Type 0} (p : ℕ × ℕ → Bool) where
  all : List ((ℕ × ℕ) × X) → Bool
  all cells = list_all (λ cell. p cell.0) cells

  all_cons : (e : (ℕ × ℕ) × X) (es : List ((ℕ × ℕ) × X)) → p e.0 ≡ true → all es ≡ true →
      all (e ∷ es) ≡ true
  unfolding all
  all_cons e es first rest = ap (λ t. t && all es) first ∙ rest

  all_by_order : (o : Ordering) (a b c : List ((ℕ × ℕ) × X)) → all a ≡ true → all b ≡ true →
      all c ≡ true → all (by_order o a b c) ≡ true
  all_by_order Less a b c all_a all_b all_c = all_a
  all_by_order Equal a b c all_a all_b all_c = all_b
  all_by_order Greater a b c all_a all_b all_c = all_c

  all_put : (k : ℕ × ℕ) (v : X) (es : List ((ℕ × ℕ) × X)) → p k ≡ true → all es ≡ true →
      all (put position_cmp k v es) ≡ true
  unfolding all
  all_put k v [] first rest = all_cons (k, v) [] first refl
  all_put k v (e ∷ es) first rest =
      let (own, others) = and_both (p e.0) (all es) rest in
      all_by_order (position_cmp k e.0) ((k, v) ∷ e ∷ es) ((e.0, v) ∷ es)
      (e ∷ put position_cmp k v es)
      (all_cons (k, v) (e ∷ es) first rest) (all_cons (e.0, v) es own others)
      (all_cons e (put position_cmp k v es) own (all_put k v es first others))

  all_none : (es : List ((ℕ × ℕ) × X)) → length es ≡ 0 → all es ≡ true
  unfolding all
  all_none [] none = refl
  all_none (e ∷ es) none = absurd (omega arith)

  all_entries : (cells : List ((ℕ × ℕ) × X)) → all cells ≡ true →
      all (entries (from_entries {R = position_cmp} cells)) ≡ true
  unfolding all
  all_entries [] rest =
      all_none _ (sym (len-entries (empty {X = X} {R = position_cmp})) ∙ len-empty position_cmp X)
  all_entries (e ∷ es) rest =
      let (own, others) = and_both (p e.0) (all es) rest in
      ap all (entries-insert position_total (from_entries {R = position_cmp} es) e.0 e.1)
      ∙ all_put e.0 e.1 _ own (all_entries es others)

  all_reversed : (cells : List ((ℕ × ℕ) × X)) → all (reverse cells) ≡ all cells
  unfolding all
  all_reversed [] = refl
  all_reversed (e ∷ es) =
      ap all (reverse-append (e ∷ []) es)
      ∙ (list_all-append (λ cell. p cell.0) (reverse es) (e ∷ [])
      ∙ (ap (λ t. t && (p e.0 && true)) (all_reversed es) ∙ sym (both_orders (p e.0) (all es))))

  all_last : (cells : List ((ℕ × ℕ) × X)) → list_all (λ cell. p cell.0) cells ≡ true →
      list_all (λ cell. p cell.0) (last_of_each cells) ≡ true
  unfolding last_of_each all
  all_last cells rest = all_entries (reverse cells) (all_reversed cells ∙ rest)

in_area_with : (k q : ℕ × ℕ) (bounds : Option Dimensions) → is_in_bounds bounds q ≡ true →
    is_in_area (area_with k bounds) q ≡ true
in_area_with k q None inside = absurd (cc)
in_area_with k q (Some area) inside =
    let (rows, columns) =
    and_both (nat_le area.start.0 q.0 && nat_le q.0 area.end.0)
    (nat_le area.start.1 q.1 && nat_le q.1 area.end.1) inside in
    let (top, bottom) = and_both (nat_le area.start.0 q.0) (nat_le q.0 area.end.0) rows in
    let (left, right) = and_both (nat_le area.start.1 q.1) (nat_le q.1 area.end.1) columns in
    grind (arith, nat_tests, top, bottom, left, right)

own_area : (k : ℕ × ℕ) (bounds : Option Dimensions) → is_in_area (area_with k bounds) k ≡ true
own_area k None = grind (arith, nat_tests)
own_area k (Some area) = grind (arith, nat_tests)

module _ {X : Type 0} where
  pub all_wider : (p q : ℕ × ℕ → Bool) (cells : List ((ℕ × ℕ) × X)) →
      ((k : ℕ × ℕ) → p k ≡ true → q k ≡ true) → list_all (λ cell. p cell.0) cells ≡ true →
      list_all (λ cell. q cell.0) cells ≡ true
  all_wider p q [] wider inside = refl
  all_wider p q (e ∷ es) wider inside =
      let (own, others) = and_both (p e.0) (list_all (λ cell. p cell.0) es) inside in
      ap (λ t. t && list_all (λ cell. q cell.0) es) (wider e.0 own) ∙ all_wider p q es wider others

  -- each cell lies in the least area
  pub least_inside : (cells : List ((ℕ × ℕ) × X)) → lie_inside (least_area cells) cells ≡ true
  least_inside [] = refl
  least_inside (e ∷ es) =
      ap (λ t. t && list_all (λ cell. is_in_area (area_with e.0 (least_area es)) cell.0) es)
      (own_area e.0 (least_area es))
      ∙ all_wider (is_in_bounds (least_area es)) (is_in_area (area_with e.0 (least_area es))) es
      (λ k inside. in_area_with e.0 k (least_area es) inside) (least_inside es)

  pub last_inside : (cells : List ((ℕ × ℕ) × X)) →
      lie_inside (least_area cells) (last_of_each cells) ≡ true
  last_inside cells = all_last (is_in_bounds (least_area cells)) cells (least_inside cells)

sheet_with : (k : ℕ × ℕ) (bounds : Option Dimensions) → k.0 < 1048576 → k.1 < 16384 →
    are_sheet_bounds bounds ≡ true → is_sheet_area (area_with k bounds) ≡ true
sheet_with k None row column sheet = grind (arith, nat_tests)
sheet_with k (Some area) row column sheet =
    let (rows, columns) =
    and_both (nat_le area.start.0 area.end.0 && nat_lt area.end.0 1048576)
    (nat_le area.start.1 area.end.1 && nat_lt area.end.1 16384) sheet in
    let (top, bottom) =
    and_both (nat_le area.start.0 area.end.0) (nat_lt area.end.0 1048576) rows in
    let (left, right) =
    and_both (nat_le area.start.1 area.end.1) (nat_lt area.end.1 16384) columns in
    grind (arith, nat_tests, top, bottom, left, right)

-- cells of a sheet have an area of the sheet
pub sheet_bounds : {X : Type 0} (cells : List ((ℕ × ℕ) × X)) → AreInSheet cells →
    are_sheet_bounds (least_area cells) ≡ true
sheet_bounds [] inside = refl
sheet_bounds (cell ∷ cells) inside =
    let first = inside 0 cell (omega arith) in
    sheet_with cell.0 (least_area cells) first.0 first.1
    (sheet_bounds cells (λ k d below. inside (suc k) d (omega arith)))

pub placed_in_sheet : {X : Type 0} (cells : List (Cell X)) → All IsInSheet cells →
    AreInSheet (placed_cells cells)
placed_in_sheet [] inside k d below = absurd (omega arith)
placed_in_sheet (cell ∷ cells) inside zero d below = inside 0 cell (omega arith)
placed_in_sheet (cell ∷ cells) inside (suc k) d below =
    placed_in_sheet cells (λ n other within. inside (suc n) other (omega arith)) k d (omega arith)

from_start : (bounds : Option Dimensions) (k : ℕ × ℕ) → is_in_bounds bounds k ≡ true →
    (nat_le (start_of bounds).0 k.0 && nat_le (start_of bounds).1 k.1) ≡ true
from_start None k inside = absurd (cc)
from_start (Some area) k inside =
    let (rows, columns) =
    and_both (nat_le area.start.0 k.0 && nat_le k.0 area.end.0)
    (nat_le area.start.1 k.1 && nat_le k.1 area.end.1) inside in
    let (top, bottom) = and_both (nat_le area.start.0 k.0) (nat_le k.0 area.end.0) rows in
    let (left, right) = and_both (nat_le area.start.1 k.1) (nat_le k.1 area.end.1) columns in
    ap (λ t. t && nat_le area.start.1 k.1) top ∙ left

-- cells of an area stand behind its start
pub lie_from_start : {X : Type 0} (bounds : Option Dimensions) (cells : List ((ℕ × ℕ) × X)) →
    lie_inside bounds cells ≡ true → lie_from (start_of bounds) cells ≡ true
lie_from_start bounds cells inside =
    all_wider (is_in_bounds bounds)
    (λ k. nat_le (start_of bounds).0 k.0 && nat_le (start_of bounds).1 k.1) cells
    (from_start bounds) inside

pub filter_all : {X : Type 0} (p : ℕ × ℕ → Bool) (cells : List ((ℕ × ℕ) × X)) →
    list_all (λ cell. p cell.0) (filter (λ cell. p cell.0) cells) ≡ true
filter_all p [] = refl
filter_all p (e ∷ es) = filter_from p e es (p e.0) refl (filter_all p es)
  where
    filter_from : {X : Type 0} (p : ℕ × ℕ → Bool) (e : (ℕ × ℕ) × X) (es : List ((ℕ × ℕ) × X))
        (test : Bool) → p e.0 ≡ test →
        list_all (λ cell. p cell.0) (filter (λ cell. p cell.0) es) ≡ true →
        list_all (λ cell. p cell.0)
        (cond test (e ∷ filter (λ cell. p cell.0) es) (filter (λ cell. p cell.0) es)) ≡ true
    filter_from p e es true own rest =
        ap (λ t. t && list_all (λ cell. p cell.0) (filter (λ cell. p cell.0) es)) own ∙ rest
    filter_from p e es false own rest = rest

pub area_on_sheet : (area : Dimensions) → area.start.0 ≤ area.end.0 → area.start.1 ≤ area.end.1 →
    area.end.0 < 1048576 → area.end.1 < 16384 → is_sheet_area area ≡ true
area_on_sheet area rows columns in_rows in_columns = grind (arith, nat_tests)

in_sheet : (bounds : Option Dimensions) (k : ℕ × ℕ) → are_sheet_bounds bounds ≡ true →
    is_in_bounds bounds k ≡ true → (k.0 < 1048576) × (k.1 < 16384)
in_sheet None k limits inside = absurd (cc)
in_sheet (Some area) k limits inside =
    let (rows, columns) =
    and_both (nat_le area.start.0 k.0 && nat_le k.0 area.end.0)
    (nat_le area.start.1 k.1 && nat_le k.1 area.end.1) inside in
    let (top, bottom) = and_both (nat_le area.start.0 k.0) (nat_le k.0 area.end.0) rows in
    let (left, right) = and_both (nat_le area.start.1 k.1) (nat_le k.1 area.end.1) columns in
    let (in_rows, in_columns) =
    and_both (nat_le area.start.0 area.end.0 && nat_lt area.end.0 1048576)
    (nat_le area.start.1 area.end.1 && nat_lt area.end.1 16384) limits in
    let (rise, last_row) =
    and_both (nat_le area.start.0 area.end.0) (nat_lt area.end.0 1048576) in_rows in
    let (run, last_column) =
    and_both (nat_le area.start.1 area.end.1) (nat_lt area.end.1 16384) in_columns in
    (grind (arith, nat_tests, bottom, last_row), grind (arith, nat_tests, right, last_column))

used_at : {X : Type 0} (bounds : Option Dimensions) (cells : List ((ℕ × ℕ) × X)) →
    are_sheet_bounds bounds ≡ true → lie_inside bounds cells ≡ true →
    (k : ℕ) (d : (ℕ × ℕ) × X) → k < length cells → IsPlacedInSheet (get_or cells k d)
used_at bounds [] limits inside k d below = absurd (omega arith)
used_at bounds (cell ∷ cells) limits inside zero d below =
    let (own, others) =
    and_both (is_in_bounds bounds cell.0) (lie_inside bounds cells) inside in
    in_sheet bounds cell.0 limits own
used_at bounds (cell ∷ cells) limits inside (suc k) d below =
    let (own, others) =
    and_both (is_in_bounds bounds cell.0) (lie_inside bounds cells) inside in
    used_at bounds cells limits others k d (omega arith)

-- cells of an area of a sheet lie on the sheet
pub used_in_sheet : {X : Type 0} (bounds : Option Dimensions) (cells : List ((ℕ × ℕ) × X)) →
    are_sheet_bounds bounds ≡ true → lie_inside bounds cells ≡ true → AreInSheet cells
used_in_sheet bounds cells limits inside = λ k d below. used_at bounds cells limits inside k d below
