-- The first of the cells that are left.
use Rattle.std.proofs.Common.{◌≡◌, ℕ, zero, suc, ◌<◌, true, List, [], ◌∷◌, ◌++◌, length, map, take}
use Rattle.std.proofs.Common.{drop, Some, None, refl, ap, ◌∙◌, arith}
use Rattle.std.specs.Prelude.{slice_get}
use Rattle.sorted_cells.specs.declared.row.Row.{Row}
use Rattle.sorted_cells.specs.declared.row.ColumnCell.{ColumnCell}
use Rattle.sorted_cells.specs.Placed.{first_position}
use Rattle.sorted_cells.specs.Rows.{row_entry, row_size, cells_by, are_rows, first_of_rows}
use Rattle.sorted_cells.proofs.Pushing.{shared}

module _ {X : Type 0} where
  first_taken : (size number : ℕ) (cell : ColumnCell X) (cells : List (ColumnCell X))
      (rest : List ((ℕ × ℕ) × X)) → 0 < size →
      first_position (map (row_entry number) (take size (cell ∷ cells)) ++ rest)
      ≡ Some (number, cell.column)
  first_taken zero number cell cells rest filled = absurd (omega arith)
  first_taken (suc n) number cell cells rest filled = refl

  -- behind a row of which all was taken stands the first cell of the next one
  pub first_behind : (number : ℕ) (own : List (ColumnCell X)) (rows : List Row)
      (behind : List (ColumnCell X)) (row : Row) (cell : ColumnCell X) → slice_get own 0 ≡ None →
      slice_get rows 0 ≡ Some row → slice_get behind 0 ≡ Some cell →
      are_rows (first_of_rows rows) rows (length behind) ≡ true →
      first_position (map (row_entry number) own ++ cells_by rows behind)
      ≡ Some (row.number, cell.column)
  first_behind number (other ∷ own) rows behind row cell none row_is cell_is are = absurd (cc)
  first_behind number [] [] behind row cell none row_is cell_is are = absurd (cc)
  first_behind number [] (next ∷ rows) [] row cell none row_is cell_is are = absurd (cc)
  first_behind number [] (next ∷ rows) (first ∷ behind) row cell none row_is cell_is are =
      let all = shared next.first next rows (length (first ∷ behind)) are in
      let size : ℕ = row_size next.first rows (length (first ∷ behind)) in
      let same_row : next ≡ row = cc in
      let same_cell : first ≡ cell = cc in
      first_taken size next.number first behind (cells_by rows (drop size (first ∷ behind)))
      all.filled
      ∙ (ap (λ (r : Row). Some (r.number, first.column)) same_row
      ∙ ap (λ (c : ColumnCell X). Some (row.number, c.column)) same_cell)
