use Rattle.std.proofs.Common.{◌≡◌, ◌<◌, ◌∙◌, ap, arith, length, sym}
use Rattle.std.proofs.lemmas.List.{length-map}
use Rattle.xlsx_graph.specs.Gathered.{Gathered, formula_in}
use Rattle.std.specs.List.{slice_get}
use Rattle.xlsx_graph.proofs.Gathering.{words_at}
use Rattle.xlsx_graph.proofs.workbook_graph.WorkbookGraph.named.Goals as goal

pub returns-clause-words : goal.returns-clause-words
returns-clause-words c = λ f at.
    let kept = c.self.inside.findings in
    let placed = c.self.inside.placed.items in
    let size : length placed ≡ length c.args.self.now.formulas =
    sym (length-map placed (formula_in kept.areas kept.words))
    ∙ ap (λ (g : Gathered). length g.formulas) c.self.view_is in
    let asked : c.args.n < length c.args.self.now.formulas = c.requires in
    let within : c.args.n < length placed = omega arith in
    words_at kept.areas kept.words placed c.args.n c.index-placed.result.now c.words.result.now f
    within c.index-placed.ensures c.words.ensures
    (ap (λ (g : Gathered). slice_get g.formulas c.args.n) c.self.view_is ∙ at)
