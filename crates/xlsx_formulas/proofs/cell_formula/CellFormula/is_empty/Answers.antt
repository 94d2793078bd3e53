use Rattle.std.proofs.Common.{◌∙◌, ap, length}
use Rattle.std.specs.Prelude.{◌==◌}
use Rattle.formula_shift.specs.Words.{offset_between}
use Rattle.xlsx_formulas.specs.declared.shared_formulas.Master.{Master}
use Rattle.xlsx_formulas.proofs.Emptiness.{empty_as_moved}
use Rattle.xlsx_formulas.proofs.cell_formula.CellFormula.is_empty.Goals as goal

pub returns-in-Derived : goal.returns-in-Derived
returns-in-Derived c =
    let found = c.in-Derived.master.value in
    rw c.in-Derived.is
    (c.is_empty-in-Derived.ensures
    ∙ ap (λ own. length own == 0)
    (c.text.ensures ∙ ap (λ (own : Master). own.formula) c.deref.ensures)
    ∙ empty_as_moved found.formula (offset_between found.corner c.in-Derived.position))
