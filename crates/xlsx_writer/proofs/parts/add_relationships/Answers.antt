use Rattle.std.proofs.Common.{◌++◌}
use Rattle.std.proofs.lemmas.Result.{on_ok_weaker}
use Rattle.std.specs.Prelude.{codes}
use Rattle.written_markup.proofs.Drafted.{joined_step}
use Rattle.xlsx_writer.specs.WrittenSheet.{to_sheet, to_styles, space_attributes, of_packages}
use Rattle.xlsx_writer.proofs.SpacedParts.{spaced_part}
use Rattle.xlsx_writer.proofs.parts.add_relationships.Goals as goal

pub returns : goal.returns
returns c =
    let styles = to_styles c.args.form in
    on_ok_weaker c.close.result
    (spaced_part c.args.builder.now c.begin_part.new.self c.push_to_styles.new.builder
    c.close.new.self
    (codes "xl/_rels/workbook.xml.rels") (codes "Relationships")
    c.relationship_space.result.now
    (space_attributes c.args.form (of_packages (codes "relationships")))
    (to_sheet ++ styles) c.in_ok-begin_part.ensures c.relationship_space.ensures
    (joined_step c.begin_part.new.self c.push_empty.new.self c.push_to_styles.new.builder
    to_sheet styles c.in_ok-push_empty.ensures c.in_ok-push_to_styles.ensures))
    c.close.ensures
