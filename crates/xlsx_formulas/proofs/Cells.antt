-- The formulas that a cell writes, and the last of them.
use Rattle.std.proofs.Common.{◌≡◌, ℕ, List, [], ◌∷◌, ◌++◌, Option, Some, None, refl}
use Rattle.std.specs.List.{last_or}
use Rattle.xlsx_formulas.specs.Formula.{FormulaText, Sharing, own, master, derived, formula_by}
use Rattle.xlsx_formulas.specs.Formula.{behind_formulas, cell_formula, formula_of_last}

-- what stands before the formulas behind a cell with one more
pub behind_further : (passed earlier : List FormulaText) (found : FormulaText)
    → behind_formulas (passed ++ found ∷ []) earlier ≡ found ∷ behind_formulas passed earlier
behind_further [] earlier found = refl
behind_further (first ∷ others) earlier found = behind_further others (first ∷ earlier) found

-- an `f` says the same of its cell behind itself
behind_itself : (earlier : List FormulaText) (position : ℕ × ℕ) (written : List ℕ)
    (sharing : Sharing) → formula_by earlier position written sharing
    ≡ formula_by (record { sharing = sharing; text = written } ∷ earlier) position written sharing
behind_itself earlier position written own = refl
behind_itself earlier position written (master index range) = refl
behind_itself earlier position written (derived index) = refl

-- the formula of a cell is that of its last `f`, behind all that it writes
pub last_formula : (earlier : List FormulaText) (position : ℕ × ℕ) (written : List FormulaText)
    → cell_formula earlier position written
    ≡ formula_of_last (behind_formulas written earlier) position (last_or None written)
last_formula earlier position [] = refl
last_formula earlier position (found ∷ []) =
    behind_itself earlier position found.text found.sharing
last_formula earlier position (first ∷ next ∷ others) =
    last_formula (first ∷ earlier) position (next ∷ others)

pub last_further : (first : Option FormulaText) (passed : List FormulaText) (found : FormulaText)
    → last_or first (passed ++ found ∷ []) ≡ Some found
last_further first [] found = refl
last_further first (next ∷ others) found = last_further (Some next) others found
