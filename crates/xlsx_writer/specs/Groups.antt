-- Which formulas are written as those of a group. A group runs down a column.
use Rattle.std.specs.Prelude.{ℕ, zero, suc, ◌==◌, ◌&&◌, nat_lt, Bool, true, false, List, [], ◌∷◌}
use Rattle.std.specs.Prelude.{map, length, if◌then◌else◌, Option, Some, None}
use Rattle.std.specs.FinMap.{find}
use Rattle.std.specs.List.{filter}
use Rattle.std.specs.Ordering.{is_lt}
use Rattle.std.specs.Str.{bytes_eq}
use Rattle.cell_refs.specs.Words.{position_cmp}
use Rattle.formula_shift.specs.Words.{moved, offset_between}
use Rattle.xlsx_writer.specs.declared.form.WrittenForm.{WrittenForm}
use Rattle.xlsx_writer.specs.declared.form.WrittenForm.TheVariants.{PackageText, WorkbookFile}

-- formulas by their positions, row by row
abbrev pub PlacedFormulas : Type 0
PlacedFormulas = List ((ℕ × ℕ) × List ℕ)

-- the formula at a position, where one stands there
abbrev pub formula_held : PlacedFormulas → ℕ × ℕ → Option (List ℕ)
formula_held formulas position = find position_cmp position formulas

-- the formula of a position is that of a place, moved to the position
abbrev pub is_moved_from : Option (List ℕ) → ℕ × ℕ → Option (List ℕ) → ℕ × ℕ → Bool
is_moved_from (Some head) place (Some own) position =
    bytes_eq own (moved head (offset_between place position))
is_moved_from (Some head) place None position = false
is_moved_from None place own position = false

-- a formula stands at a position
abbrev pub is_placed : Option (List ℕ) → Bool
is_placed None = false
is_placed (Some formula) = true

-- The row of the head of a formula, in its column: that of the head of the formula above it, where
-- one stands there and the head's text, moved, is this one; else its own.
abbrev pub head_row : PlacedFormulas → ℕ → ℕ → ℕ
head_row formulas column zero = zero
head_row formulas column (suc row) =
    let head = head_row formulas column row in
    if is_placed (formula_held formulas (row, column))
    && is_moved_from (formula_held formulas (head, column)) (head, column)
    (formula_held formulas (suc row, column)) (suc row, column)
    then head else suc row

-- the position of the head of a formula
abbrev pub group_head : PlacedFormulas → ℕ × ℕ → ℕ × ℕ
group_head formulas position = (head_row formulas position.1 position.0, position.1)

-- two positions of cells are one
abbrev pub is_same_position : ℕ × ℕ → ℕ × ℕ → Bool
is_same_position a b = (a.0 == b.0) && (a.1 == b.1)

-- the rows of the formulas of a head, in order
abbrev pub rows_of_head : PlacedFormulas → ℕ × ℕ → List ℕ
rows_of_head formulas head =
    map (λ entry. entry.0.0) (filter (λ entry. is_same_position (group_head formulas entry.0) head)
    formulas)

-- the last of some rows, or the one before them
abbrev pub last_group_row : ℕ → List ℕ → ℕ
last_group_row row [] = row
last_group_row row (next ∷ rows) = last_group_row next rows

-- the last row of the formulas of this head
abbrev pub group_end : PlacedFormulas → ℕ × ℕ → ℕ
group_end formulas head = last_group_row head.0 (rows_of_head formulas head)

-- a formula is a master: its own head, and that of others
abbrev pub is_master : PlacedFormulas → ℕ × ℕ → Bool
is_master formulas position =
    is_same_position (group_head formulas position) position
    && nat_lt position.0 (group_end formulas position)

-- the index of a group: how many masters stand before its own
abbrev pub group_index : PlacedFormulas → ℕ × ℕ → ℕ
group_index formulas head =
    length
    (filter (λ entry. is_lt (position_cmp entry.0 head) && is_master formulas entry.0) formulas)

-- a formula as it is written
pub data WrittenFormula : Type 0 where
  -- its text alone
  plain : List ℕ → WrittenFormula
  -- its text, the last row of its group, and the group's index
  master : List ℕ → ℕ → ℕ → WrittenFormula
  -- the index of its group, without a text
  derived : ℕ → WrittenFormula

-- how the formula of a position is written as one of a group, or as none
abbrev pub grouped_formula : PlacedFormulas → ℕ × ℕ → List ℕ → WrittenFormula
grouped_formula formulas position formula =
    if is_same_position (group_head formulas position) position
    then (if is_master formulas position
    then master formula (group_end formulas position) (group_index formulas position)
    else plain formula)
    else derived (group_index formulas (group_head formulas position))

-- How the formula of a position is written: in groups where this program alone reads it. Other
-- programs move the references of a group in other ways, so for them each is written by itself.
abbrev pub written_formula : WrittenForm → PlacedFormulas → ℕ × ℕ → List ℕ → WrittenFormula
written_formula PackageText formulas position formula = grouped_formula formulas position formula
written_formula WorkbookFile formulas position formula = plain formula
