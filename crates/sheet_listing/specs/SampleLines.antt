-- The lines of a sample: how much its sheet has, and the formula of its last row.
use Rattle.std.specs.Prelude.{ℕ, ◌-◌, List, ◌++◌, codes, length}
use Rattle.std.specs.Fmt.{decimal}
use Rattle.cell_data.specs.Words.{CellValue}
use Rattle.cell_styles.specs.Words.{group_count, StyleMap}
use Rattle.escaped_text.specs.Escaped.{escaped}
use Rattle.sheet_listing.specs.SheetListing.{formula_placed, placed_ids}

-- the line of a number of things that a word names
abbrev pub count_line : List ℕ → ℕ → List ℕ
count_line word count = word ++ (codes " " ++ (decimal count ++ codes "\n"))

-- the formula of column B in a row that is counted from 1
abbrev pub last_line : ℕ → List ℕ → List ℕ
last_line row formula =
    codes "last B" ++ (decimal row ++ (codes " =" ++ (escaped formula ++ codes "\n")))

-- the lines of a sheet with so many rows: of its values, its formulas, its positions with a style
-- id above 0, the groups of equal neighbours among all ids, and of the formula in its last row
abbrev pub sample_lines :
    ℕ → List ((ℕ × ℕ) × CellValue) → List ((ℕ × ℕ) × List ℕ) → StyleMap → List ℕ
sample_lines rows values formulas styles =
    count_line (codes "cells") (length values)
    ++ (count_line (codes "formulas") (length formulas)
    ++ (count_line (codes "styled") (length (placed_ids styles))
    ++ (count_line (codes "runs") (group_count styles.ids)
    ++ last_line rows (formula_placed (rows - 1, 1) formulas))))
