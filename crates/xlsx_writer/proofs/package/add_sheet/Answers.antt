use Rattle.std.proofs.lemmas.Result.{on_ok_weaker}
use Rattle.std.specs.Prelude.{codes, []}
use Rattle.cell_data.specs.Words.{value_pairs, formula_pairs}
use Rattle.written_markup.specs.Words.{element}
use Rattle.xlsx_writer.specs.WrittenSheet.{data_markup, space_attributes, of_sheets}
use Rattle.xlsx_writer.proofs.SpacedParts.{spaced_part}
use Rattle.xlsx_writer.proofs.package.add_sheet.Goals as goal

pub returns : goal.returns
returns c =
    let rows =
    data_markup c.args.form (value_pairs c.args.values.now) (formula_pairs c.args.formulas.now) in
    on_ok_weaker c.close.result
    (spaced_part c.args.builder.now c.begin_part.new.self c.push_data.new.builder c.close.new.self
    (codes "xl/worksheets/sheet1.xml") (codes "worksheet") c.sheet_space.result.now
    (space_attributes c.args.form of_sheets) (element (codes "sheetData") [] rows)
    c.in_ok-begin_part.ensures c.sheet_space.ensures c.in_ok-push_data.ensures)
    c.close.ensures
