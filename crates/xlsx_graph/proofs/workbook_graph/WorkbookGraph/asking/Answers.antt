use Rattle.std.proofs.Common.{◌≡◌, ◌∙◌, ◌++◌, ◌∷◌, [], ap, arith, length, map, rules, sym}
use Rattle.std.specs.List.{range_with_len}
use Rattle.std.proofs.lemmas.List.FromFn.{map-range_with_len_more}
use Rattle.xlsx_graph.specs.Graph.{asks_for_cell}
use Rattle.xlsx_graph.proofs.Asking.{asking_at}
use Rattle.xlsx_graph.proofs.workbook_graph.WorkbookGraph.asking.Goals as goal

pub loop-number-preserved : goal.loop-number-preserved
loop-number-preserved c =
    let pushed : c.push.new.self.items ≡ c.loop-number.asking.items ++ c.asks_for.result ∷ [] =
    search rules in
    let asks = asks_for_cell c.args.cell c.args.self.now.formulas in
    pushed ∙ ap (λ bs. bs ++ c.asks_for.result ∷ []) c.loop-number.invariant
    ∙ ap (λ b. map asks (range_with_len 0 c.loop-number.number) ++ b ∷ []) c.asks_for.ensures
    ∙ sym (map-range_with_len_more (asks_for_cell c.args.cell c.args.self.now.formulas) 0
    c.loop-number.number c.loop-number.number (omega arith))

pub returns : goal.returns
returns c = λ n.
    let all : c.loop-number.number ≡ length c.args.self.now.formulas = omega arith in
    asking_at c.args.cell c.args.self.now.formulas c.loop-number.number n c.loop-number.asking.items
    all c.loop-number.invariant
