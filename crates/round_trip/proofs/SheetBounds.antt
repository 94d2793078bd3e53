-- What is written of cells on a sheet: positions on the sheet, and numbers that fit.
use Rattle.std.proofs.Common.{◌≡◌, ℕ, suc, ◌+◌, ◌*◌, ◌<◌, ◌≤◌, ◌^◌, Bool, true, false, cond, ◌&&◌}
use Rattle.std.proofs.Common.{List, [], ◌∷◌, ◌++◌, map, length, refl, ap, ◌∙◌, arith}
use Rattle.std.specs.Prelude.{nat_lt}
use Rattle.std.specs.List.{list_all, filter}
use Rattle.std.specs.FinMap.{from_entries, entries, entries-insert}
use Rattle.std.specs.FinMap.Entries.{put, by_order, below_all}
use Rattle.std.specs.Ordering.{nat_cmp, ordering_then, is_lt}
use Rattle.std.specs.declared.cmp.Ordering.{Ordering}
use Rattle.std.specs.declared.cmp.Ordering.TheVariants.{Less, Equal, Greater}
use Rattle.std.proofs.lemmas.Bool.Decides.{nat_tests}
use Rattle.std.proofs.lemmas.List.Elements.{All-head, All-tail}
use Rattle.cell_refs.specs.Words.{position_cmp, is_rising}
use Rattle.cell_refs.proofs.PositionOrder.{position_total, and_both, and_from, less_from}
use Rattle.cell_data.specs.Words.{AreInSheet, IsPlacedInSheet, positions_alone}
use Rattle.cell_data.proofs.Placing.{none_placed}
use Rattle.xlsx_writer.specs.Words.{PlacedFormulas, is_same_position, is_master, group_head}
use Rattle.xlsx_writer.specs.Words.{group_end, group_index, last_group_row, PlacedValues}
use Rattle.xlsx_writer.specs.Words.{written_positions}
use Rattle.round_trip.specs.ReadSheet.{lies_on_sheet}
use Rattle.round_trip.proofs.GroupHeads.{rows_among}

-- ---- positions on a sheet

-- a position lies on a sheet where its row and its column do
pub on_sheet_parts : (p : ℕ × ℕ) → lies_on_sheet p ≡ true → (p.0 < 1048576) × (p.1 < 16384)
on_sheet_parts p on = parts p.0 p.1 (and_both (nat_lt p.0 1048576) (nat_lt p.1 16384) on) where
  parts : (a b : ℕ) → (nat_lt a 1048576 ≡ true) × (nat_lt b 16384 ≡ true) →
      (a < 1048576) × (b < 16384)
  parts a b tests =
      let row = tests.0 in
      let column = tests.1 in
      (grind (arith, nat_tests), grind (arith, nat_tests))

on_sheet_from : (p : ℕ × ℕ) → p.0 < 1048576 → p.1 < 16384 → lies_on_sheet p ≡ true
on_sheet_from p row column =
    and_from (nat_lt p.0 1048576) (nat_lt p.1 16384) (one p.0 1048576 row) (one p.1 16384 column)
  where
    one : (a b : ℕ) → a < b → nat_lt a b ≡ true
    one a b less = grind (arith, nat_tests)

module _ (passes : ℕ × ℕ → Bool) where
  put_passes : (k : ℕ × ℕ) (es : List ((ℕ × ℕ) × Unit {0})) → passes k ≡ true →
      list_all passes (map (λ e. e.0) es) ≡ true →
      list_all passes (map (λ e. e.0) (put position_cmp k tt es)) ≡ true
  put_passes k [] here others = and_from (passes k) true here refl
  put_passes k (e ∷ es) here others =
      let (first, rest) = and_both (passes e.0) (list_all passes (map (λ d. d.0) es)) others in
      by (position_cmp k e.0) first rest (put_passes k es here rest) where
        by : (o : Ordering) → passes e.0 ≡ true → list_all passes (map (λ d. d.0) es) ≡ true →
            list_all passes (map (λ d. d.0) (put position_cmp k tt es)) ≡ true →
            list_all passes (map (λ d. d.0) (by_order o ((k, tt) ∷ e ∷ es) ((e.0, tt) ∷ es)
            (e ∷ put position_cmp k tt es))) ≡ true
        by Less first rest further = and_from _ _ here (and_from _ _ first rest)
        by Equal first rest further = and_from _ _ first rest
        by Greater first rest further = and_from _ _ first further

  -- the keys of a map are among those of its entries
  keys_pass : (es : List ((ℕ × ℕ) × Unit {0})) → list_all (λ e. passes e.0) es ≡ true →
      list_all passes (map (λ e. e.0) (entries (from_entries {R = position_cmp} es))) ≡ true
  keys_pass [] all =
      ap (λ (es : List ((ℕ × ℕ) × Unit {0})). list_all passes (map (λ e. e.0) es)) none_placed
  keys_pass (e ∷ es) all =
      let (first, rest) = and_both (passes e.0) (list_all (λ d. passes d.0) es) all in
      ap (λ (ds : List ((ℕ × ℕ) × Unit {0})). list_all passes (map (λ d. d.0) ds))
      (entries-insert position_total (from_entries {R = position_cmp} es) e.0 e.1)
      ∙ put_passes e.0 (entries (from_entries {R = position_cmp} es)) first (keys_pass es rest)

  used_pass : {X : Type 0} (es : List ((ℕ × ℕ) × X)) (fs : List ((ℕ × ℕ) × Unit {0})) →
      list_all (λ e. passes e.0) es ≡ true → list_all (λ f. passes f.0) fs ≡ true →
      list_all (λ e. passes e.0) (positions_alone es ++ fs) ≡ true
  used_pass [] fs one two = two
  used_pass (e ∷ es) fs one two =
      let (first, rest) = and_both (passes e.0) (list_all (λ d. passes d.0) es) one in
      and_from _ _ first (used_pass es fs rest two)

-- cells that lie on a sheet
pub all_on_sheet : {X : Type 0} (es : List ((ℕ × ℕ) × X)) → AreInSheet es →
    list_all (λ e. lies_on_sheet e.0) es ≡ true
all_on_sheet [] are = refl
all_on_sheet {X} (e ∷ es) are =
    let here = All-head (IsPlacedInSheet {X = X}) e es are in
    and_from _ _ (on_sheet_from e.0 here.0 here.1)
    (all_on_sheet es (All-tail (IsPlacedInSheet {X = X}) e es are))

pub written_on_sheet : (values : PlacedValues) (formulas : PlacedFormulas) → AreInSheet values →
    AreInSheet formulas → list_all lies_on_sheet (written_positions values formulas) ≡ true
written_on_sheet values formulas one two =
    keys_pass lies_on_sheet (positions_alone values ++ positions_alone formulas)
    (used_pass lies_on_sheet values (positions_alone formulas) (all_on_sheet values one)
    (bare formulas (all_on_sheet formulas two))) where
      bare : (es : PlacedFormulas) → list_all (λ e. lies_on_sheet e.0) es ≡ true →
          list_all (λ e. lies_on_sheet e.0) (positions_alone es) ≡ true
      bare [] all = refl
      bare (e ∷ es) all =
          let (first, rest) =
          and_both (lies_on_sheet e.0) (list_all (λ d. lies_on_sheet d.0) es) all in
          and_from _ _ first (bare es rest)

-- ---- the last row of a group

last_inside : (formulas : PlacedFormulas) (head : ℕ × ℕ) (start : ℕ) (es : PlacedFormulas)
    → start < 1048576 →
    list_all (λ e. lies_on_sheet e.0) es ≡ true →
    last_group_row start (rows_among formulas head es) < 1048576
last_inside formulas head start [] inside all = inside
last_inside formulas head start (e ∷ es) inside all =
    let (first, rest) = and_both (lies_on_sheet e.0) (list_all (λ d. lies_on_sheet d.0) es) all in
    by (is_same_position (group_head formulas e.0) head)
    (last_inside formulas head e.0.0 es (on_sheet_parts e.0 first).0 rest)
    (last_inside formulas head start es inside rest) where
      by : (t : Bool) → last_group_row e.0.0 (rows_among formulas head es) < 1048576 →
          last_group_row start (rows_among formulas head es) < 1048576 →
          last_group_row start (map (λ d. d.0.0) (cond t (e ∷ filter
          (λ d. is_same_position (group_head formulas d.0) head) es)
          (filter (λ d. is_same_position (group_head formulas d.0) head) es))) < 1048576
      by true here further = here
      by false here further = further

pub end_fits : (formulas : PlacedFormulas) (head : ℕ × ℕ) → AreInSheet formulas → head.0 < 1048576 →
    group_end formulas head < 1048576
end_fits formulas head are inside =
    last_inside formulas head head.0 formulas inside (all_on_sheet formulas are)

-- ---- how many cells rise on a sheet

lower_place : (p q : ℕ × ℕ) → position_cmp p q ≡ Less → p.1 < 16384 →
    16384 * p.0 + p.1 < 16384 * q.0 + q.1
lower_place p q less inside = by p.0 p.1 q.0 q.1 (nat_cmp p.0 q.0) refl less inside where
  by : (a b c d : ℕ) (o : Ordering) → nat_cmp a c ≡ o → ordering_then o (nat_cmp b d) ≡ Less →
      b < 16384 → 16384 * a + b < 16384 * c + d
  by a b c d Less is less inside = let lower : a < c = grind (arith, nat_tests) in omega arith
  by a b c d Equal is less inside =
      let same : a ≡ c = grind (arith, nat_tests) in
      let lower : b < d = grind (arith, nat_tests) in omega arith
  by a b c d Greater is less inside = absurd (cc)

risen : (e : (ℕ × ℕ) × List ℕ) (es : PlacedFormulas) → is_rising (e ∷ es) ≡ true →
    list_all (λ d. lies_on_sheet d.0) (e ∷ es) ≡ true →
    16384 * e.0.0 + e.0.1 + length es < 2 ^ 34
risen e [] rising all =
    let (here, rest) = and_both (lies_on_sheet e.0) true all in
    let parts = on_sheet_parts e.0 here in
    place e.0.0 e.0.1 parts.0 parts.1 where
      place : (a b : ℕ) → a < 1048576 → b < 16384 → 16384 * a + b + 0 < 2 ^ 34
      place a b row column = omega arith
risen e (next ∷ es) rising all =
    let (below, rise) = and_both (below_all position_cmp e.0 (next ∷ es))
    (is_rising (next ∷ es)) rising in
    let (here, rest) = and_both (lies_on_sheet e.0) (list_all (λ d. lies_on_sheet d.0) (next ∷ es))
    all in
    let (less, others) = and_both (is_lt (position_cmp e.0 next.0))
    (below_all position_cmp e.0 es) below in
    step (16384 * e.0.0 + e.0.1) (16384 * next.0.0 + next.0.1) (length es)
    (lower_place e.0 next.0 (less_from _ less) (on_sheet_parts e.0 here).1)
    (risen next es rise rest) where
      step : (a b n : ℕ) → a < b → b + n < 2 ^ 34 → a + suc n < 2 ^ 34
      step a b n less further = omega arith

fewer : (passes : (ℕ × ℕ) × List ℕ → Bool) (es : PlacedFormulas) → length (filter passes es) ≤
    length es
fewer passes [] = omega arith
fewer passes (e ∷ es) = by (passes e) (fewer passes es) where
  by : (t : Bool) → length (filter passes es) ≤ length es →
      length (cond t (e ∷ filter passes es) (filter passes es)) ≤ suc (length es)
  by true less = omega arith
  by false less = omega arith

count_fits : (es : PlacedFormulas) → is_rising es ≡ true →
    list_all (λ e. lies_on_sheet e.0) es ≡ true → length es ≤ 2 ^ 34
count_fits [] rising all = omega arith
count_fits (e ∷ es) rising all =
    let most = risen e es rising all in
    step (16384 * e.0.0 + e.0.1) (length es) most where
      step : (a n : ℕ) → a + n < 2 ^ 34 → suc n ≤ 2 ^ 34
      step a n less = omega arith

-- an index is a number of 64 bits
pub index_fits : (formulas : PlacedFormulas) (head : ℕ × ℕ) → is_rising formulas ≡ true →
    AreInSheet formulas → group_index formulas head < 2 ^ 64
index_fits formulas head rising are =
    let some = fewer (λ entry. is_lt (position_cmp entry.0 head) && is_master formulas entry.0)
    formulas in
    let all = count_fits formulas rising (all_on_sheet formulas are) in
    omega arith
