use Rattle.std.specs.Prelude.{codes}
use Rattle.part_events.specs.Words.{Contents, closed}
use Rattle.written_markup.proofs.Drafted.{part_written}
use Rattle.xlsx_writer.specs.WrittenSheet.{to_workbook, type_parts, space_attributes, of_packages}
use Rattle.xlsx_writer.proofs.parts.with_root.Goals as goal

pub returns : goal.returns
returns c =
    let before : Contents = closed (type_parts c.args.form) 0 in
    part_written before c.in_ok-builder.builder c.push_empty.new.self c.close.new.self
    (codes "_rels/.rels") (codes "Relationships")
    (space_attributes c.args.form (of_packages (codes "relationships"))) to_workbook
    c.in_ok-builder.ensures c.in_ok-push_empty.ensures c.in_ok-close.ensures
