use Rattle.std.proofs.Common.{◌++◌, ◌∙◌}
use Rattle.std.proofs.lemmas.Result.{on_ok_weaker}
use Rattle.std.specs.Option.{option_copied, option_map}
use Rattle.std.specs.Prelude.{codes}
use Rattle.written_markup.proofs.Drafted.{element_written}
use Rattle.xlsx_writer.specs.WrittenSheet.{cell_attributes, value_events}
use Rattle.xlsx_writer.specs.Writing.{value_to_write, given_formula, written_of}
use Rattle.xlsx_writer.proofs.cells.push_cell.Goals as goal

pub returns : goal.returns
returns c =
    let position = c.args.position in
    let value = value_to_write (option_copied c.args.value) in
    let formula = option_map written_of c.args.formula in
    on_ok_weaker c.close.result
    (element_written c.args.builder.now c.open.new.self c.push_inside.new.builder c.close.new.self
    (codes "c") c.as_str.result.now (cell_attributes position value)
    (given_formula position formula ++ value_events c.args.form value) c.in_ok-open.ensures
    (c.as_str.ensures.value ∙ c.in_ok-put_cell_attributes.ensures) c.in_ok-push_inside.ensures)
    c.close.ensures
