-- Cells in the order of positions, split at one: the cell that stands there, if one does, and those
-- behind it.
use Rattle.std.specs.Prelude.{◌≡◌, ℕ, Bool, true, List, [], ◌∷◌, ◌++◌, Option, Some, None}
use Rattle.std.specs.Ordering.{is_le}
use Rattle.std.specs.FinMap.Entries.{below_all}
use Rattle.cell_refs.specs.Words.{position_cmp, is_rising}
use Rattle.cell_data.specs.Cells.{AreInSheet}

-- cells row by row, on a sheet
pub record AreInOrder {X : Type 0} (cells : List ((ℕ × ℕ) × X)) : Type 0 where
  pub rising : is_rising cells ≡ true
  pub sheet : AreInSheet cells

-- no cell stands before the position, where the first one doesn't
abbrev pub none_earlier : {X : Type 0} → ℕ × ℕ → List ((ℕ × ℕ) × X) → Bool
none_earlier position [] = true
none_earlier position (cell ∷ cells) = is_le (position_cmp position cell.0)

-- a cell at the position, or none
abbrev pub given : {X : Type 0} → ℕ × ℕ → Option X → List ((ℕ × ℕ) × X)
given position None = []
given position (Some value) = (position, value) ∷ []

-- the cell at the position and the ones behind it
pub record Splits
    {X : Type 0} (position : ℕ × ℕ) (cells : List ((ℕ × ℕ) × X)) (value : Option X)
    (behind : List ((ℕ × ℕ) × X)) : Type 0 where
  pub whole : cells ≡ given position value ++ behind
  pub below : below_all position_cmp position behind ≡ true
  pub order : AreInOrder behind
