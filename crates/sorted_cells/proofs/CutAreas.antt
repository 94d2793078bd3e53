-- The cells of an area.
use Rattle.std.proofs.Common.{◌≡◌, ℕ, true, List, refl, sym, ap, ◌∙◌, subst}
use Rattle.std.specs.Prelude.{nat_le, length}
use Rattle.std.specs.FinMap.Entries.{is_sorted-where_key}
use Rattle.std.specs.List.{filter}
use Rattle.cell_refs.specs.Words.{position_cmp, is_rising, is_in_area}
use Rattle.cell_refs.specs.declared.dimensions.Dimensions.{Dimensions}
use Rattle.sorted_cells.specs.declared.row.Row.{Row}
use Rattle.sorted_cells.specs.declared.row.ColumnCell.{ColumnCell}
use Rattle.sorted_cells.specs.Rows.{cells_by, are_rows, numbers_rise, first_of_rows}
use Rattle.sorted_cells.specs.Thinned.{is_between, cells_between, thinned}
use Rattle.cell_refs.proofs.PositionOrder.{to_T, from_T}
use Rattle.sorted_cells.proofs.Between.{and_turned}
use Rattle.sorted_cells.proofs.Filters.{filter_both}
use Rattle.sorted_cells.proofs.Pushing.{AreKept}
use Rattle.sorted_cells.proofs.Thinning.{thinned_cells, thinned_rise}

module _ {X : Type 0} (area : Dimensions) where
  abbrev in_rows : List ((ℕ × ℕ) × X) → List ((ℕ × ℕ) × X)
  in_rows es =
      filter (λ (e : (ℕ × ℕ) × X). nat_le area.start.0 e.0.0)
      (filter (λ (e : (ℕ × ℕ) × X). nat_le e.0.0 area.end.0) es)

  abbrev in_columns : List ((ℕ × ℕ) × X) → List ((ℕ × ℕ) × X)
  in_columns es = filter (λ (e : (ℕ × ℕ) × X). is_between area.start.1 area.end.1 e.0.1) es

  abbrev in_area : List ((ℕ × ℕ) × X) → List ((ℕ × ℕ) × X)
  in_area es = filter (λ (e : (ℕ × ℕ) × X). is_in_area area e.0) es

  -- an area is cut at its rows and at its sides
  pub cut_columns : (es : List ((ℕ × ℕ) × X)) →
      in_columns (filter (λ (e : (ℕ × ℕ) × X). is_between area.start.0 area.end.0 e.0.0) es)
      ≡ in_area es
  cut_columns es =
      filter_both (λ (e : (ℕ × ℕ) × X). is_between area.start.1 area.end.1 e.0.1)
      (λ (e : (ℕ × ℕ) × X). is_between area.start.0 area.end.0 e.0.0)
      (λ (e : (ℕ × ℕ) × X). is_in_area area e.0)
      (λ e. and_turned (is_between area.start.1 area.end.1 e.0.1)
      (is_between area.start.0 area.end.0 e.0.0)) es

  -- an area is cut below, above and at its sides
  cut_area : (es : List ((ℕ × ℕ) × X)) → in_columns (in_rows es) ≡ in_area es
  cut_area es =
      ap in_columns
      (filter_both (λ (e : (ℕ × ℕ) × X). nat_le area.start.0 e.0.0)
      (λ (e : (ℕ × ℕ) × X). nat_le e.0.0 area.end.0)
      (λ (e : (ℕ × ℕ) × X). is_between area.start.0 area.end.0 e.0.0) (λ e. refl) es)
      ∙ cut_columns es

  -- the rows and the cells that are left, and what they say
  pub record IsArea (rows left : List Row) (cells others : List (ColumnCell X)) : Type 0 where
    pub kept : AreKept left others
    pub is : cells_by left others ≡ in_area (cells_by rows cells)

  pub area_kept : (rows before behind left : List Row)
      (cells others_before others_behind others : List (ColumnCell X)) → AreKept rows cells →
      cells_by behind others_behind
      ≡ filter (λ (e : (ℕ × ℕ) × X). nat_le e.0.0 area.end.0) (cells_by rows cells) →
      are_rows (first_of_rows before) before (length others_before) ≡ true →
      numbers_rise before ≡ true →
      cells_by before others_before
      ≡ filter (λ (e : (ℕ × ℕ) × X). nat_le area.start.0 e.0.0) (cells_by behind others_behind) →
      left ≡ thinned area.start.1 area.end.1 0 before others_before →
      others ≡ cells_between area.start.1 area.end.1 others_before →
      IsArea rows left cells others
  area_kept rows before behind left cells others_before others_behind others kept below are rise
      above left_is others_is =
      let thin =
      thinned_cells area.start.1 area.end.1 (first_of_rows before) 0 before others_before are in
      let whole : cells_by before others_before ≡ in_rows (cells_by rows cells) =
      above ∙ ap (filter (λ (e : (ℕ × ℕ) × X). nat_le area.start.0 e.0.0)) below in
      let is : cells_by (thinned area.start.1 area.end.1 0 before others_before)
      (cells_between area.start.1 area.end.1 others_before)
      ≡ in_area (cells_by rows cells) =
      thin.is ∙ (ap in_columns whole ∙ cut_area (cells_by rows cells)) in
      let area_is : IsArea rows (thinned area.start.1 area.end.1 0 before others_before) cells
      (cells_between area.start.1 area.end.1 others_before) =
      record {
        kept = record {
          shared = thin.shared;
          numbers = thinned_rise area.start.1 area.end.1 0 before others_before rise;
          rising = ap is_rising is
              ∙ from_T _
              (is_sorted-where_key position_cmp (is_in_area area) (cells_by rows cells)
              (to_T _ kept.rising));
        };
        is = is;
      } in
      subst (λ (rs : List Row). IsArea rows rs cells others) (sym left_is)
      (subst (λ (cs : List (ColumnCell X)). IsArea rows
      (thinned area.start.1 area.end.1 0 before others_before) cells cs) (sym others_is) area_is)
