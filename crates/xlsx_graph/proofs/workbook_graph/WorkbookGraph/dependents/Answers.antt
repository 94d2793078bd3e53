use Rattle.std.proofs.Common.{◌≡◌, ◌∙◌, ap, get_or, false}
use Rattle.std.proofs.lemmas.Result.{IfOk-weaker}
use Rattle.xlsx_graph.specs.Graph.{needed}
use Rattle.xlsx_graph.proofs.Asking.{dependents_are}
use Rattle.xlsx_graph.proofs.workbook_graph.WorkbookGraph.dependents.Goals as goal

pub returns : goal.returns
returns c =
    let formulas = c.args.self.now.formulas in
    let asking : c.deref.result.now ≡ c.in_ok-asking.asking.items = c.deref.ensures.value in
    IfOk-weaker c.dependents-2.result _ _
    (λ numbers is. is
    ∙ dependents_are (λ n. get_or c.deref.result.now n false) c.args.cell formulas
    (λ n. ap (λ bs. get_or bs n false) asking ∙ c.in_ok-asking.ensures n))
    (c.dependents-2.ensures (needed formulas) c.in_ok-links.ensures.linked)
