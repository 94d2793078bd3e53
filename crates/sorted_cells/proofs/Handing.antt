-- Cells that are handed out row by row.
use Rattle.std.proofs.Common.{◌≡◌, ℕ, zero, suc, ◌+◌, ◌-◌, ◌<◌, ◌≤◌, true, List, ◌∷◌, ◌++◌, length}
use Rattle.std.proofs.Common.{map, take, drop, reverse, [], Option, Some, None, option_to_list}
use Rattle.std.proofs.Common.{refl, IsSome, IsNone, ◌↔◌, sym, ap, ◌∙◌, subst, arith}
use Rattle.std.proofs.lemmas.List.{drop-drop, length-drop, reverse-append, append-nil}
use Rattle.std.proofs.lemmas.List.{length-reverse}
use Rattle.equalities.proofs.Equality.{unequal}
use Rattle.sorted_cells.specs.declared.row.Row.{Row}
use Rattle.sorted_cells.specs.declared.row.ColumnCell.{ColumnCell}
use Rattle.sorted_cells.specs.Rows.{row_entry, row_size, cells_by, are_rows, first_of_rows}
use Rattle.sorted_cells.proofs.Cutting.{placed_first}
use Rattle.sorted_cells.proofs.Pushing.{shared, rest_shared}

module _ {X : Type 0} where
  -- a row that was entered, where no cell was left of the one before
  pub record IsEntered (number own size at : ℕ) (rows : List Row) (row : Row)
      (cells : List (ColumnCell X)) : Type 0 where
    pub within : size ≤ length cells
    pub behind : at + 1 ≤ length rows
    pub shared :
        are_rows (first_of_rows (drop (at + 1) rows)) (drop (at + 1) rows)
        (length (drop size cells)) ≡ true
    pub is :
        map (row_entry row.number) (take size cells)
        ++ cells_by (drop (at + 1) rows) (drop size cells)
        ≡ map (row_entry number) (take own cells) ++ cells_by (drop at rows) (drop own cells)

  entered_next : (number at : ℕ) (rows : List Row) (row : Row) (others : List Row)
      (cells : List (ColumnCell X)) → drop at rows ≡ row ∷ others →
      are_rows (first_of_rows (drop at rows)) (drop at rows) (length cells) ≡ true →
      IsEntered number 0 (row_size row.first others (length cells)) at rows row cells
  entered_next number at rows row others cells split are =
      let size : ℕ = row_size row.first others (length cells) in
      let all =
      shared row.first row others (length cells)
      (subst (λ (rs : List Row). are_rows (first_of_rows rs) rs (length cells) ≡ true) split are) in
      let rest : drop (at + 1) rows ≡ others =
      sym (drop-drop 1 at rows) ∙ ap (λ (rs : List Row). drop 1 rs) split in
      let some : length rows - at ≡ length (row ∷ others) =
      sym (length-drop at rows) ∙ ap (λ (rs : List Row). length rs) split in
      record {
        within = all.within;
        behind = omega (arith, some);
        shared =
            subst
            (λ (rs : List Row). are_rows (first_of_rows rs) rs (length (drop size cells)) ≡ true)
            (sym rest)
            (placed_first (row.first + size) others (length (drop size cells))
            (rest_shared row.first row others cells all));
        is =
            ap (λ (rs : List Row). map (row_entry row.number) (take size cells)
            ++ cells_by rs (drop size cells)) rest
            ∙ sym (ap (λ (rs : List Row). cells_by rs cells) split);
      }

  pub entered : (number own size at : ℕ) (rows : List Row) (row : Row) (others : List Row)
      (cells : List (ColumnCell X)) → own ≤ 0 → drop at rows ≡ row ∷ others →
      are_rows (first_of_rows (drop at rows)) (drop at rows) (length (drop own cells)) ≡ true →
      size ≡ row_size row.first others (length cells) →
      IsEntered number own size at rows row cells
  entered number zero size at rows row others cells none split are is =
      subst (λ (n : ℕ). IsEntered number 0 n at rows row cells) (sym is)
      (entered_next number at rows row others cells split are)
  entered number (suc own) size at rows row others cells none split are is = absurd (omega arith)

  -- the next cell of a row
  pub handed : (number own : ℕ) (rows : List Row) (cell : ColumnCell X)
      (cells all : List (ColumnCell X)) → (own ≡ 0 → ⊥) → all ≡ cell ∷ cells →
      map (row_entry number) (take own all) ++ cells_by rows (drop own all)
      ≡ row_entry number cell
      ∷ (map (row_entry number) (take (own - 1) cells) ++ cells_by rows (drop (own - 1) cells))
  handed number zero rows cell cells all some is = absurd (some refl)
  handed number (suc n) rows cell cells all some is =
      let same : n ≡ suc n - 1 = omega arith in
      ap (λ (cs : List (ColumnCell X)). map (row_entry number) (take (suc n) cs)
      ++ cells_by rows (drop (suc n) cs)) is
      ∙ ap (λ (k : ℕ). row_entry number cell
      ∷ (map (row_entry number) (take k cells) ++ cells_by rows (drop k cells))) same

-- without its first element a list is shorter
pub fewer : {A : Type 0} {x : A} {all rest : List A} → all ≡ x ∷ rest → length rest < length all
fewer {A} {x} {all} {rest} is =
    let count : length all ≡ suc (length rest) = ap (λ (xs : List A). length xs) is in
    omega (arith, count)

-- what leaves at the end comes first the other way round
pub last_first : {A : Type 0} (left : Option A) (all rest : List A)
    → all ≡ rest ++ option_to_list left → reverse all ≡ option_to_list left ++ reverse rest
last_first {A} None all rest is = ap (λ (xs : List A). reverse xs) (is ∙ append-nil rest)
last_first {A} (Some x) all rest is =
    ap (λ (xs : List A). reverse xs) is ∙ reverse-append rest (x ∷ [])

-- where nothing leaves, nothing is there
pub none_left : {A : Type 0} (left : Option A) (all : List A) → IsSome left ↔ (0 < length all)
    → IsNone left → length (reverse all) ≡ 0
none_left {A} None [] some none = refl
none_left {A} None (x ∷ xs) some none =
    absurd (unequal (some.1 (omega arith)))
none_left {A} (Some x) all some none = absurd (unequal (sym none))
