-- The areas that a formula names, and the cells whose formulas name a cell.
use Rattle.std.specs.Prelude.{ℕ, ◌+◌, ◌*◌, ◌&&◌, nat_le, Bool, List, map, length, filter, None}
use Rattle.std.specs.Prelude.{option_to_list, ℤ, String, string_bytes}
use Rattle.std.specs.List.{flat_map, list_any}
use Rattle.std.specs.declared.alloc.Global.{Global}
use Rattle.cell_refs.specs.Words.{is_in_area}
use Rattle.cell_refs.specs.declared.dimensions.Dimensions.{Dimensions}
use Rattle.formula_shift.specs.Words.{area_named, own_references, pieces, shifted}

-- the areas that a formula names, in order
unfoldable pub areas : List ℕ → List Dimensions
areas text = map area_named (own_references None (pieces text))

-- the areas that a formula is to name in its text moved by an offset: those that leave the
-- worksheet are left out
abbrev pub shifted_areas : List ℕ → ℤ × ℤ → List Dimensions
shifted_areas text offset =
    map area_named
    (flat_map (λ r. option_to_list (shifted offset r)) (own_references None (pieces text)))

-- a cell's position and the text of its formula
abbrev pub formula_of_cell : (ℕ × ℕ) × String Global → (ℕ × ℕ) × List ℕ
formula_of_cell cell = (cell.0, string_bytes cell.1)

-- a formula's cell, and the areas that the formula names
abbrev pub areas_named_by : (ℕ × ℕ) × List ℕ → (ℕ × ℕ) × List Dimensions
areas_named_by cell = (cell.0, areas cell.1)

-- one of these areas has the position
abbrev pub names_cell : List Dimensions → ℕ × ℕ → Bool
names_cell all position = list_any (λ area. is_in_area area position) all

-- the cells, row by row, whose formulas name a cell
unfoldable pub direct_dependents : List ((ℕ × ℕ) × List Dimensions) → ℕ × ℕ → List (ℕ × ℕ)
direct_dependents index position =
    map (λ entry. entry.0) (filter (λ entry. names_cell entry.1 position) index)

-- the areas that all formulas name, in order
abbrev pub all_named : List ((ℕ × ℕ) × List Dimensions) → List Dimensions
all_named index = flat_map (λ entry. entry.1) index

-- ---- how many areas a search looks at

-- an area has cells of a row
abbrev pub has_row : ℕ → Dimensions → Bool
has_row row area = nat_le area.start.0 row && nat_le row area.end.0

-- the most steps of a search for a position among areas whose number has so many binary digits: by
-- how many of them have cells of its row
unfoldable pub steps_within : List ((ℕ × ℕ) × List Dimensions) → ℕ × ℕ → ℕ → ℕ
steps_within index position digits =
    2 * (digits * (1 + length (filter (has_row position.0) (all_named index))))
