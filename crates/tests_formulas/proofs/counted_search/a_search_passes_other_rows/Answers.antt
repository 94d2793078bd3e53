use Rattle.std.proofs.Common.{◌≡◌, ℕ, zero, suc, ◌+◌, ◌*◌, [], ap, ◌∙◌, mul-one, refl, length}
use Rattle.std.specs.Prelude.{filter}
use Rattle.xlsx_precedents.specs.Precedents.{all_named, has_row, steps_within}
use Rattle.tests_formulas.specs.FormulaSheets.{first_cells}
use Rattle.tests_formulas.proofs.counted_search.a_search_passes_other_rows.Goals as goal

none_met : (count : ℕ) → filter (has_row 1) (all_named (first_cells count)) ≡ []
none_met zero = refl
none_met (suc count) = none_met count

pub returns : goal.returns
unfolding steps_within
returns c = λ count digits.
    ap (λ l. 2 * (digits * (1 + length l))) (none_met count) ∙ ap (λ n. 2 * n) (mul-one digits)
