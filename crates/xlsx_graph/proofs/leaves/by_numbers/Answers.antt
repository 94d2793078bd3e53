use Rattle.std.proofs.Common.{◌≡◌, ◌∙◌, ◌++◌, ◌∷◌, [], ap, sym, rules}
use Rattle.xlsx_graph.proofs.Numbers.{one_more}
use Rattle.xlsx_graph.proofs.leaves.by_numbers.Goals as goal

pub loop-number-preserved : goal.loop-number-preserved
loop-number-preserved c =
    let pushed : c.push.new.self.items ≡ c.loop-number.order.items ++ c.loop-number.number ∷ [] =
    search rules in
    pushed ∙ ap (λ ns. ns ++ c.loop-number.number ∷ []) c.loop-number.invariant
    ∙ sym (one_more c.loop-number.number)
