use Rattle.std.specs.Prelude.{ℕ, ◌+◌, ◌-◌, ◌*◌, ◌≤◌, List, length, Result, Ok, Err}
use Rattle.cell_refs.specs.declared.dimensions.Dimensions.{Dimensions}
use Rattle.cell_refs.specs.declared.error.RefError.{RefError}

-- the cell lies between the ends, which belong to the area
abbrev pub IsInArea : Dimensions → ℕ → ℕ → Type 0
IsInArea d row column = (d.start.0 ≤ row) × (row ≤ d.end.0) × (d.start.1 ≤ column)
    × (column ≤ d.end.1)

-- how many numbers there are from one to another, none where the last is below the first
abbrev pub span : ℕ → ℕ → ℕ
span first last = last + 1 - first

-- how many cells lie between the ends
abbrev pub cell_count : Dimensions → ℕ
cell_count d = span d.start.0 d.end.0 * span d.start.1 d.end.1

-- how many corners were read
abbrev pub corner_count : Result (List (ℕ × ℕ)) RefError → Result ℕ RefError
corner_count (Err e) = Err e
corner_count (Ok corners) = Ok (length corners)
