use Rattle.std.proofs.lemmas.Result.{on_ok_weaker}
use Rattle.std.specs.Prelude.{[], codes}
use Rattle.xlsx_sample.specs.Sample.{related}
use Rattle.written_markup.proofs.Drafted.{part_written}
use Rattle.xlsx_sample.proofs.fixed_parts.add_relationships.Goals as goal

pub returns : goal.returns
returns c =
    on_ok_weaker c.close.result
    (part_written c.args.builder.now c.begin_part.new.self c.push_empty.new.self c.close.new.self
    (codes "xl/_rels/workbook.xml.rels") (codes "Relationships") []
    (related (codes "worksheet") (codes "worksheets/sheet1.xml")) c.in_ok-begin_part.ensures
    c.in_ok-push_empty.ensures)
    c.close.ensures
