use Rattle.std.proofs.lemmas.Result.{on_ok_weaker}
use Rattle.std.specs.Option.{option_copied, option_map}
use Rattle.written_markup.proofs.Drafted.{joined_step}
use Rattle.xlsx_writer.specs.WrittenSheet.{value_events}
use Rattle.xlsx_writer.specs.Writing.{value_to_write, given_formula, written_of}
use Rattle.xlsx_writer.proofs.cells.push_inside.Goals as goal

pub returns : goal.returns
returns c =
    on_ok_weaker c.push_value.result
    (joined_step c.args.builder.now c.push_formula.new.builder c.push_value.new.builder
    (given_formula c.args.position (option_map written_of c.args.formula))
    (value_events c.args.form (value_to_write (option_copied c.args.value)))
    c.in_ok-push_formula.ensures)
    c.push_value.ensures
