-- Several lists of cells in the order of positions, walked at once: which position comes first, and
-- the positions that some list has.
use Rattle.std.specs.Prelude.{◌≡◌, ◌⊎◌, ℕ, true, List, [], ◌∷◌, map, Option, Some, None}
use Rattle.std.specs.FinMap.{from_entries, keys}
use Rattle.std.specs.Ordering.{is_le}
use Rattle.cell_refs.specs.Words.{position_cmp}

-- the first cell stands at the position
abbrev pub IsOfFirst : {X : Type 0} → ℕ × ℕ → List ((ℕ × ℕ) × X) → Type 0
IsOfFirst position [] = ⊥
IsOfFirst position (cell ∷ cells) = cell.0 ≡ position

-- the position isn't behind the other one, where there is one
abbrev pub StandsUpTo : ℕ × ℕ → Option (ℕ × ℕ) → Type 0
StandsUpTo position None = Unit {0}
StandsUpTo position (Some other) = is_le (position_cmp position other) ≡ true

-- the earlier one of two positions
pub record IsEarlier (one other : Option (ℕ × ℕ)) (position : ℕ × ℕ) : Type 0 where
  pub before_one : StandsUpTo position one
  pub before_other : StandsUpTo position other
  pub is_one : (one ≡ Some position) ⊎ (other ≡ Some position)

-- the positions of cells alone, as entries of a map
abbrev pub positions_alone : {X : Type 0} → List ((ℕ × ℕ) × X) → List ((ℕ × ℕ) × Unit {0})
positions_alone cells = map (λ cell. (cell.0, tt)) cells

-- the positions of entries, each once, row by row
abbrev pub positions_of : List ((ℕ × ℕ) × Unit {0}) → List (ℕ × ℕ)
positions_of entries = keys (from_entries {R = position_cmp} entries)
