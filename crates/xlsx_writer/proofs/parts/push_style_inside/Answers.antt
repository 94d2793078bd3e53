use Rattle.std.proofs.lemmas.Result.{on_ok_weaker}
use Rattle.written_markup.proofs.Drafted.{three_steps}
use Rattle.xlsx_writer.specs.WrittenSheet.{style_front, cell_formats, style_behind}
use Rattle.xlsx_writer.proofs.parts.push_style_inside.Goals as goal

pub returns : goal.returns
returns c =
    on_ok_weaker c.push_style_behind.result
    (three_steps c.args.builder.now c.push_style_front.new.builder c.push_cell_formats.new.builder
    c.push_style_behind.new.builder (style_front c.args.form) cell_formats
    (style_behind c.args.form) c.in_ok-push_style_front.ensures
    c.in_ok-push_cell_formats.ensures)
    c.push_style_behind.ensures
