-- Cells of a row that are passed over.
use Rattle.std.proofs.Common.{◌≡◌, ℕ, ◌∙◌, Bool, true, false, cond, ◌==◌, List, [], ◌∷◌, ◌++◌}
use Rattle.std.proofs.Common.{length, map, refl, sym, ap, arith}
use Rattle.std.proofs.lemmas.Bool.Decides.{nat_tests}
use Rattle.sorted_cells.specs.declared.row.ColumnCell.{ColumnCell}
use Rattle.sorted_cells.specs.Placed.{past_row}
use Rattle.sorted_cells.specs.Rows.{row_entry}

module _ {X : Type 0} where
  -- the cells of the row that was entered
  pub own_passed : (number : ℕ) (own : List (ColumnCell X)) (rest : List ((ℕ × ℕ) × X)) →
      past_row number (map (row_entry number) own ++ rest) ≡ past_row number rest
  own_passed number [] rest = refl
  own_passed number (cell ∷ own) rest =
      let same : (number == number) ≡ true = grind (arith, nat_tests) in
      ap (λ (test : Bool). cond test (past_row number (map (row_entry number) own ++ rest))
      (row_entry number cell ∷ map (row_entry number) own ++ rest)) same
      ∙ own_passed number own rest

  -- the cells of another row stay
  pub other_stays : (row number : ℕ) (own : List (ColumnCell X)) (rest : List ((ℕ × ℕ) × X)) →
      (number ≡ row → ⊥) → (length own ≡ 0 → map (row_entry number) own ++ rest ≡ []) →
      map (row_entry number) own ++ rest ≡ past_row row (map (row_entry number) own ++ rest)
  other_stays row number [] rest apart none =
      none refl ∙ ap (λ (es : List ((ℕ × ℕ) × X)). past_row row es) (sym (none refl))
  other_stays row number (cell ∷ own) rest apart none =
      let other : (number == row) ≡ false = grind (arith, nat_tests, apart) in
      ap (λ (test : Bool). cond test (past_row row (map (row_entry number) own ++ rest))
      (row_entry number cell ∷ map (row_entry number) own ++ rest)) (sym other)
