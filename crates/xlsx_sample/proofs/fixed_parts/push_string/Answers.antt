use Rattle.std.proofs.lemmas.Result.{on_ok_weaker}
use Rattle.std.specs.Prelude.{codes, []}
use Rattle.std.proofs.Common.{refl}
use Rattle.written_markup.specs.Words.{element, words}
use Rattle.written_markup.proofs.Drafted.{element_written}
use Rattle.xlsx_sample.proofs.fixed_parts.push_string.Goals as goal

pub returns : goal.returns
returns c =
    on_ok_weaker c.close.result
    (element_written c.args.builder.now c.open.new.self c.push_text.new.self c.close.new.self
    (codes "si") [] [] (element (codes "t") [] (words c.args.content.now)) c.in_ok-open.ensures
    refl c.in_ok-push_text.ensures)
    c.close.ensures
