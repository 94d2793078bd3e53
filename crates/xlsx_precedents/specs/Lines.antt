-- What is printed of what formulas name, and of the cells whose formulas name a cell.
use Rattle.std.specs.Prelude.{ℕ, List, map}
use Rattle.std.specs.List.{flat_map}
use Rattle.list_lines.specs.Lines.{position_line, position_areas_line}
use Rattle.xlsx_precedents.specs.Precedents.{areas, areas_named_by, direct_dependents}

-- the line of a cell and what its formula names
abbrev pub precedents_line : (ℕ × ℕ) × List ℕ → List ℕ
precedents_line cell = position_areas_line cell.0 (areas cell.1)

-- a line for each formula, row by row
abbrev pub precedents_lines : List ((ℕ × ℕ) × List ℕ) → List ℕ
precedents_lines formulas = flat_map precedents_line formulas

-- a line for each cell whose formula names a position, row by row
abbrev pub dependents_lines : List ((ℕ × ℕ) × List ℕ) → ℕ × ℕ → List ℕ
dependents_lines formulas position =
    flat_map position_line (direct_dependents (map areas_named_by formulas) position)
