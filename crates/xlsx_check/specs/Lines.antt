-- The lines of formulas: how each stands to the value of its cell.
use Rattle.std.specs.Prelude.{ℕ, true, false, List, [], ◌++◌, codes, map, String, string_bytes}
use Rattle.std.specs.List.{flat_map}
use Rattle.std.specs.declared.alloc.Global.{Global}
use Rattle.cell_refs.specs.Words.{reference}
use Rattle.cell_data.specs.Words.{CellValue, cells_of}
use Rattle.cell_data.specs.declared.range.Range.{Range}
use Rattle.decimals.specs.Words.{printed}
use Rattle.xlsx_check.specs.Evaluation.{Denoted, a_number, a_truth, denotation, value_looked_up}
use Rattle.xlsx_check.specs.Verdicts.{Judged, agreed, differing, without_value, not_computed}
use Rattle.xlsx_check.specs.Verdicts.{overflowing, judged}

-- a number or a boolean that was computed, its kind first; nothing else differs from a value
abbrev pub computed_text : Denoted → List ℕ
computed_text (a_number n) = codes "n:" ++ printed n
computed_text (a_truth true) = codes "b:true"
computed_text (a_truth false) = codes "b:false"
computed_text _ = []

-- what is said of a formula, in words, and what it comes to where the value differs
abbrev pub verdict_text : Judged → List ℕ
verdict_text agreed = codes "agrees"
verdict_text (differing result) = codes "differs\t" ++ computed_text result
verdict_text without_value = codes "no value"
verdict_text not_computed = codes "unsupported"
verdict_text overflowing = codes "overflow"

-- the line of a formula: its cell, and what is said of it
abbrev pub verdict_line : ℕ × ℕ → Judged → List ℕ
verdict_line position said =
    reference position ++ (codes "\t" ++ (verdict_text said ++ codes "\n"))

-- the used cells of a range with their formulas
abbrev pub formulas_of : Range (String Global) → List ((ℕ × ℕ) × List ℕ)
formulas_of range = map (λ cell. (cell.0, string_bytes cell.1)) (cells_of range)

-- what is said of the formula of a cell beside the cell's value
abbrev pub judged_at : List ((ℕ × ℕ) × CellValue) → (ℕ × ℕ) × List ℕ → Judged
judged_at values formula = judged (denotation values formula.1) (value_looked_up values formula.0)

-- the lines of formulas, by the values of their sheet
abbrev pub check_lines : List ((ℕ × ℕ) × CellValue) → List ((ℕ × ℕ) × List ℕ) → List ℕ
check_lines values formulas =
    flat_map (λ formula. verdict_line formula.0 (judged_at values formula)) formulas
