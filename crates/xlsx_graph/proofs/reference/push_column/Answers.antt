use Rattle.std.proofs.Common.{◌≡◌, ◌∙◌, ◌+◌, ◌++◌, suc, ap, arith, string_bytes}
use Rattle.std.proofs.lemmas.Result.{on_ok_weaker}
use Rattle.cell_refs.specs.Words.{capitals_with_fuel}
use Rattle.cell_refs.specs.A1.{column_name}
use Rattle.xlsx_graph.proofs.reference.push_column.Goals as goal

pub returns-clause-ok : goal.returns-clause-ok
unfolding column_name
returns-clause-ok c =
    let number : c.from.result + 1 ≡ suc c.args.column = omega arith in
    on_ok_weaker c.push_capitals.result
    (λ all. all (suc c.args.column) (omega arith)
    ∙ ap (λ n. string_bytes c.args.out.now ++ capitals_with_fuel (suc c.args.column) n) number)
    c.push_capitals.ensures.ok
