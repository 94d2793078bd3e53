-- Areas by their numbers: which of them pass a test, and whose they are.
use Rattle.std.specs.Prelude.{ℕ, ◌+◌, ◌-◌, ◌==◌, ◌&&◌, Bool, false, if◌then◌else◌, List, [], ◌∷◌}
use Rattle.std.specs.Prelude.{◌++◌, length, Option, Some, None}
use Rattle.std.specs.List.{slice_get}
use Rattle.cell_refs.specs.declared.dimensions.Dimensions.{Dimensions}

-- the numbers of the areas that pass, where the first area has this number
abbrev pub numbers_where : (Dimensions → Bool) → ℕ → List Dimensions → List ℕ
numbers_where passes from [] = []
numbers_where passes from (area ∷ areas) =
    if passes area then from ∷ numbers_where passes (from + 1) areas
    else numbers_where passes (from + 1) areas

-- ---- what is found

-- a cell is this one, if there is one
abbrev pub is_this : ℕ × ℕ → Option (ℕ × ℕ) → Bool
is_this cell None = false
is_this cell (Some other) = (other.0 == cell.0) && (other.1 == cell.1)

-- the last of some cells
abbrev pub last_cell : List (ℕ × ℕ) → Option (ℕ × ℕ)
last_cell cells = slice_get cells (length cells - 1)

-- cells with one more, unless it is the last of them
abbrev pub put_once : List (ℕ × ℕ) → ℕ × ℕ → List (ℕ × ℕ)
put_once found cell = if is_this cell (last_cell found) then found else found ++ cell ∷ []

-- cells with one more, if there is one
abbrev pub put_found : List (ℕ × ℕ) → Option (ℕ × ℕ) → List (ℕ × ℕ)
put_found found None = found
put_found found (Some cell) = put_once found cell

-- cells with those that are found by these numbers
abbrev pub found_by : (ℕ → Option (ℕ × ℕ)) → List (ℕ × ℕ) → List ℕ → List (ℕ × ℕ)
found_by look found [] = found
found_by look found (n ∷ ns) = found_by look (put_found found (look n)) ns
