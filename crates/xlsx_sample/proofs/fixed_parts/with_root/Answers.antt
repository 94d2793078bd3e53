use Rattle.std.specs.Prelude.{codes, []}
use Rattle.part_events.specs.Words.{Contents, closed}
use Rattle.xlsx_sample.specs.Sample.{related}
use Rattle.written_markup.proofs.Drafted.{part_written}
use Rattle.xlsx_sample.proofs.fixed_parts.with_root.Goals as goal

pub returns : goal.returns
returns c =
    let fresh : Contents = closed [] 0 in
    part_written fresh c.in_ok-builder.builder c.push_empty.new.self c.close.new.self
    (codes "_rels/.rels") (codes "Relationships") []
    (related (codes "officeDocument") (codes "xl/workbook.xml")) c.in_ok-builder.ensures
    c.in_ok-push_empty.ensures
    c.in_ok-close.ensures
