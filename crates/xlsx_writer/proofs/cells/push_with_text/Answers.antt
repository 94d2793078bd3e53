use Rattle.std.proofs.Common.{refl}
use Rattle.std.proofs.lemmas.Result.{on_ok_weaker}
use Rattle.std.specs.Prelude.{codes}
use Rattle.written_markup.specs.Words.{text_events}
use Rattle.written_markup.proofs.Drafted.{element_written}
use Rattle.xlsx_writer.proofs.cells.push_with_text.Goals as goal

pub returns : goal.returns
returns c =
    on_ok_weaker c.close.result
    (element_written c.args.builder.now c.open.new.self c.push_text.new.builder c.close.new.self
    (codes "f") c.args.attributes.now c.args.attributes.now (text_events c.args.text.now)
    c.in_ok-open.ensures refl c.in_ok-push_text.ensures)
    c.close.ensures
