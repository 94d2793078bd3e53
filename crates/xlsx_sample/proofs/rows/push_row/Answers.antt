use Rattle.std.proofs.lemmas.Result.{on_ok_weaker}
use Rattle.std.specs.Prelude.{codes}
use Rattle.std.proofs.Common.{◌∙◌, ◌++◌}
use Rattle.std.specs.Fmt.{decimal}
use Rattle.written_markup.specs.Words.{attribute}
use Rattle.xlsx_sample.specs.Sample.{number_cell, doubled_cell, string_cell}
use Rattle.written_markup.proofs.Drafted.{element_written, three_steps}
use Rattle.xlsx_sample.proofs.rows.push_row.Goals as goal

pub returns : goal.returns
returns c =
    let row = c.args.row in
    let number = number_cell row in
    let doubled = doubled_cell c.args.rows row in
    let string = string_cell row in
    on_ok_weaker c.close.result
    (element_written c.args.builder.now c.open.new.self c.push_string.new.builder c.close.new.self
    (codes "row") c.as_str.result.now (attribute (codes "r") (decimal row))
    (number ++ (doubled ++ string)) c.in_ok-open.ensures
    (c.as_str.ensures.value ∙ c.in_ok-attributes.ensures.ok)
    (three_steps c.open.new.self c.push_number.new.builder c.push_doubled.new.builder
    c.push_string.new.builder number doubled string c.in_ok-push_number.ensures
    c.in_ok-push_doubled.ensures c.in_ok-push_string.ensures))
    c.close.ensures
