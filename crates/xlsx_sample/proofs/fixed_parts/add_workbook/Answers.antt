use Rattle.std.proofs.lemmas.Result.{on_ok_weaker}
use Rattle.std.specs.Prelude.{[], codes}
use Rattle.xlsx_sample.specs.Sample.{sheets_element}
use Rattle.written_markup.proofs.Drafted.{part_written}
use Rattle.xlsx_sample.proofs.fixed_parts.add_workbook.Goals as goal

pub returns : goal.returns
returns c =
    on_ok_weaker c.close.result
    (part_written c.args.builder.now c.begin_part.new.self c.push_sheets.new.builder
    c.close.new.self
    (codes "xl/workbook.xml") (codes "workbook") [] sheets_element c.in_ok-begin_part.ensures
    c.in_ok-push_sheets.ensures)
    c.close.ensures
