use Rattle.std.proofs.Common.{◌∙◌, ◌-◌, ◌/◌, ◌%◌, ◌+◌, ◌<◌, ◌≤◌, ◌++◌, ◌∷◌, [], ap, arith}
use Rattle.std.proofs.Common.{append_assoc, sym, string_bytes}
use Rattle.std.proofs.lemmas.Result.{on_ok_weaker}
use Rattle.cell_refs.specs.Words.{capitals_with_fuel}
use Rattle.xlsx_graph.proofs.LineTexts.{capitals_more}
use Rattle.xlsx_graph.proofs.reference.+push_capitals.Goals as goal

pub returns-clause-ok : goal.returns-clause-ok
returns-clause-ok t c =
    let n = c.args.number in
    on_ok_weaker c.push_capital.result
    (λ pushed. λ turns enough.
    let some : 0 < n = omega arith in
    let fewer : (n - 1) / 26 ≤ turns - 1 = omega arith in
    pushed
    ∙ ap (λ bs. bs ++ (65 + (n - 1) % 26) ∷ []) (c.in_ok-push_capitals.ensures.ok (turns - 1) fewer)
    ∙ append_assoc (string_bytes c.args.out.now) (capitals_with_fuel (turns - 1) ((n - 1) / 26))
    ((65 + (n - 1) % 26) ∷ [])
    ∙ ap (λ bs. string_bytes c.args.out.now ++ bs) (sym (capitals_more turns n some enough)))
    c.push_capital.ensures.ok
