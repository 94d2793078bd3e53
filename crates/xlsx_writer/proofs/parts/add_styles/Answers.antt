use Rattle.std.proofs.lemmas.Result.{on_ok_weaker}
use Rattle.std.specs.Prelude.{codes}
use Rattle.xlsx_writer.specs.WrittenSheet.{style_inside, space_attributes, of_sheets}
use Rattle.xlsx_writer.proofs.SpacedParts.{spaced_part}
use Rattle.xlsx_writer.proofs.parts.add_styles.Goals as goal

pub returns : goal.returns
returns c =
    on_ok_weaker c.close.result
    (spaced_part c.args.builder.now c.begin_part.new.self c.push_style_inside.new.builder
    c.close.new.self (codes "xl/styles.xml") (codes "styleSheet")
    c.sheet_space.result.now (space_attributes c.args.form of_sheets)
    (style_inside c.args.form) c.in_ok-begin_part.ensures c.sheet_space.ensures
    c.in_ok-push_style_inside.ensures)
    c.close.ensures
