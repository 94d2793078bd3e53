-- Which cells of an area are left on a way through it, row by row.
use Rattle.std.specs.Prelude.{◌≡◌, ℕ, ◌+◌, true, List, Option}
use Rattle.std.specs.FinMap.{find}
use Rattle.std.specs.Ordering.{is_le}
use Rattle.cell_refs.specs.declared.dimensions.Dimensions.{Dimensions}
use Rattle.cell_refs.specs.Words.{position_cmp, lie_inside}
use Rattle.cell_data.specs.Range.{cells_of, bounds_of, start_of}
use Rattle.cell_data.specs.Splitting.{AreInOrder, none_earlier}
use Rattle.cell_data.specs.declared.range.Range.{Range}

-- the position of a row and a column that are counted from the first ones of the area
abbrev pub position_of : Option Dimensions → ℕ × ℕ → ℕ × ℕ
position_of bounds place =
    let start = start_of bounds in
    (start.0 + place.0, start.1 + place.1)

-- of all cells in order those are left that stand at a position or behind it; all of them lie in
-- the area
pub record AreLeftFrom
    {X : Type 0} (bounds : Option Dimensions) (position : ℕ × ℕ) (all : List ((ℕ × ℕ) × X))
    (left : List ((ℕ × ℕ) × X)) : Type 0 where
  pub first : none_earlier position left ≡ true
  pub order : AreInOrder left
  pub inside : lie_inside bounds left ≡ true
  pub same : (other : ℕ × ℕ) → is_le (position_cmp position other) ≡ true
      → find position_cmp other left ≡ find position_cmp other all

-- the cells of a range are left that stand at a place or behind it
abbrev pub AreLeftAt : {X : Type 0} → Range X → ℕ × ℕ → List ((ℕ × ℕ) × X) → Type 0
AreLeftAt range place left =
    AreLeftFrom (bounds_of range) (position_of (bounds_of range) place) (cells_of range) left
