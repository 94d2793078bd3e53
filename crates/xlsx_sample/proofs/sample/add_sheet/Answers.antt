use Rattle.std.proofs.lemmas.Result.{on_ok_weaker}
use Rattle.std.specs.Prelude.{[], codes}
use Rattle.xlsx_sample.specs.Sample.{data_element}
use Rattle.written_markup.proofs.Drafted.{part_written}
use Rattle.xlsx_sample.proofs.sample.add_sheet.Goals as goal

pub returns : goal.returns
returns c =
    on_ok_weaker c.close.result
    (part_written c.args.builder.now c.begin_part.new.self c.push_data.new.builder c.close.new.self
    (codes "xl/worksheets/sheet1.xml") (codes "worksheet") [] (data_element c.args.rows)
    c.in_ok-begin_part.ensures
    c.in_ok-push_data.ensures)
    c.close.ensures
