use Rattle.std.proofs.Common.{rules, ◌≡◌, ◌∙◌, ◌++◌, [], List, map, string_bytes, sym, ap}
use Rattle.std.proofs.lemmas.Result.{on_ok_weaker}
use Rattle.cell_data.specs.Words.{value_of_data, row_left}
use Rattle.cell_data.specs.declared.value.Data.{Data}
use Rattle.json.specs.Json.{Members, no_members}
use Rattle.json.specs.Tree.{members_tokens}
use Rattle.json_rows.specs.RowObjects.{row_members}
use Rattle.json_rows.proofs.EqualKeys.{no_value}
use Rattle.json_rows.proofs.rows.write_members.Goals as goal

pub returns-clause-ok : goal.returns-clause-ok
returns-clause-ok c =
    let options = c.args.options.now in
    let keys = map string_bytes c.loop-value.left.now in
    let none : row_left c.loop-value.value-iterator ≡ [] =
    search (rules, c.in-None.ensures.steps.0) in
    let members : row_members options keys
    (map value_of_data (row_left c.loop-value.value-iterator)) ≡ no_members =
    ap (λ (left : List Data). row_members options keys (map value_of_data left)) none
    ∙ no_value options keys in
    on_ok_weaker c.end_object.result (λ ends. ends
    ∙ ap (λ (left : Members). c.loop-value.writer.tokens ++ members_tokens left) (sym members)
    ∙ c.loop-value.invariant.rest) c.end_object.ensures.ok
