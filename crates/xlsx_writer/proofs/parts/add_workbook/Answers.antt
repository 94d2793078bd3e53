use Rattle.std.proofs.Common.{◌++◌}
use Rattle.std.proofs.lemmas.Result.{on_ok_weaker}
use Rattle.std.specs.Prelude.{codes}
use Rattle.written_markup.proofs.Drafted.{joined_step}
use Rattle.xlsx_writer.specs.WrittenSheet.{properties_by, sheets_events, workbook_attributes}
use Rattle.xlsx_writer.proofs.SpacedParts.{spaced_part}
use Rattle.xlsx_writer.proofs.parts.add_workbook.Goals as goal

pub returns : goal.returns
returns c =
    let properties = properties_by c.args.is_1904 in
    let sheets = sheets_events c.args.sheet_name.now in
    on_ok_weaker c.close.result
    (spaced_part c.args.builder.now c.begin_part.new.self c.push_sheets.new.builder c.close.new.self
    (codes "xl/workbook.xml") (codes "workbook")
    c.workbook_space.result.now (workbook_attributes c.args.form)
    (properties ++ sheets) c.in_ok-begin_part.ensures c.workbook_space.ensures
    (joined_step c.begin_part.new.self c.push_properties.new.builder c.push_sheets.new.builder
    properties sheets c.in_ok-push_properties.ensures c.in_ok-push_sheets.ensures))
    c.close.ensures
