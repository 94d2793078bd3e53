-- Sheets of formulas, by the cells and what they name.
use Rattle.std.specs.Prelude.{ℕ, zero, suc, List, [], ◌∷◌, codes, map}
use Rattle.cell_refs.specs.declared.dimensions.Dimensions.{Dimensions}
use Rattle.xlsx_precedents.specs.Precedents.{areas_named_by}

-- the areas of two formulas, one of A1 and one of B1
abbrev pub two_formulas : List ((ℕ × ℕ) × List Dimensions)
two_formulas =
    map areas_named_by
    (((0, 0), codes "SUM(B1:C2)+$D$4+Other!E5") ∷ ((0, 1), codes "A:A") ∷ [])

-- so many rows, from the last one up to the first, with a formula that names A1 alone
abbrev pub first_cells : ℕ → List ((ℕ × ℕ) × List Dimensions)
first_cells zero = []
first_cells (suc row) =
    ((row, 0), record { start = (0, 0); end = (0, 0) } ∷ []) ∷ first_cells row
