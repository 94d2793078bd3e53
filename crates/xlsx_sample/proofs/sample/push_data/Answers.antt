use Rattle.std.proofs.lemmas.Result.{on_ok_weaker}
use Rattle.std.specs.Prelude.{codes, []}
use Rattle.std.proofs.Common.{refl}
use Rattle.xlsx_sample.specs.Sample.{first_rows}
use Rattle.written_markup.proofs.Drafted.{element_written}
use Rattle.xlsx_sample.proofs.sample.push_data.Goals as goal

pub returns : goal.returns
returns c =
    on_ok_weaker c.close.result
    (element_written c.args.builder.now c.open.new.self c.push_rows.new.builder c.close.new.self
    (codes "sheetData") [] [] (first_rows c.args.rows c.args.rows) c.in_ok-open.ensures
    refl c.in_ok-push_rows.ensures)
    c.close.ensures
