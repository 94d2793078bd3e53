-- Cells of a range as pairs of a position and what is meant by what they hold.
use Rattle.std.specs.Prelude.{ℕ, List, map, String, string_bytes}
use Rattle.std.specs.declared.alloc.Global.{Global}
use Rattle.cell_data.specs.CellValue.{CellValue, value_of_data, value_of_data_ref}
use Rattle.cell_data.specs.Range.{cells_of}
use Rattle.cell_data.specs.declared.range.Range.{Range}
use Rattle.cell_data.specs.declared.value.Data.{Data}
use Rattle.cell_data.specs.declared.value.DataRef.{DataRef}

-- a position with what something is at it
abbrev pub with_meaning : {X Y : Type 0} → (X → Y) → (ℕ × ℕ) × X → (ℕ × ℕ) × Y
with_meaning meaning entry = (entry.0, meaning entry.1)

-- the cells of a range as pairs of a position and what is meant by what they hold
abbrev pub pairs_by : {X Y : Type 0} → (X → Y) → Range X → List ((ℕ × ℕ) × Y)
pairs_by meaning range = map (with_meaning meaning) (cells_of range)

-- the values of a range by their positions
abbrev pub value_pairs : Range Data → List ((ℕ × ℕ) × CellValue)
value_pairs range = pairs_by value_of_data range

-- the values of a range by their positions, shared strings by their places
abbrev pub place_pairs : Range DataRef → List ((ℕ × ℕ) × CellValue)
place_pairs range = pairs_by value_of_data_ref range

-- the formulas of a range by their positions
abbrev pub formula_pairs : Range (String Global) → List ((ℕ × ℕ) × List ℕ)
formula_pairs range = pairs_by string_bytes range
