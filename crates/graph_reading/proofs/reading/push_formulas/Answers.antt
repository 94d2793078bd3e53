use Rattle.std.proofs.Common.{◌≡◌, ◌∙◌, ◌∷◌, ap, drop, drop-cons, map, suc, sym}
use Rattle.std.proofs.lemmas.Result.{err_from_is_err_and}
use Rattle.xlsx_core.specs.Words.{formula_read}
use Rattle.xlsx_core.specs.declared.formula_list.SheetFormula.{SheetFormula}
use Rattle.graph_reading.proofs.FormulasPushed.{refused_together}
use Rattle.graph_reading.proofs.reading.push_formulas.Goals as goal

pub returns-in_err-push_formula-clause-large : goal.returns-in_err-push_formula-clause-large
returns-in_err-push_formula-clause-large c =
    let handed = err_from_is_err_and c.from_residual.result c.from_residual.ensures.1 in
    let now = c.loop-formula.graph.formulas in
    let own = c.formula-item.result in
    let all = c.args.formulas.now in
    let index = c.loop-formula.formula-index in
    let others = drop (suc index) all in
    let left : drop index all ≡ own ∷ others =
    drop-cons all index own c.loop-formula-test.true
    ∙ ap (λ (first : SheetFormula). first ∷ others) (sym c.formula-item.is) in
    rw (handed.1, handed.2)
    (refused_together c.args.book.now (formula_read own) (map formula_read others)
    (map formula_read all) c.args.graph.now.formulas now c.in_err-push_formula.field-0.0
    (rw left at c.loop-formula.invariant.formulas) c.in_err-push_formula.ensures.large)
