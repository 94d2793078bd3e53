use Rattle.std.proofs.Common.{length, ap, ◌∙◌, arith}
use Rattle.part_events.specs.Words.{part_at}
use Rattle.workbook_file.specs.Contents.{FileContents}
use Rattle.workbook_file.specs.FileParts.{file_parts}
use Rattle.workbook_file.proofs.Opening.{name_there, parts_long}
use Rattle.workbook_file.proofs.workbook_file.WorkbookFile.part_name.Goals as goal

pub member_name-requires : goal.member_name-requires
member_name-requires c =
    let same = ap (λ (a : FileContents). length (file_parts a.archive)) c.self.view_is in
    omega (arith, c.requires, parts_long c.self.inside.archive, same)

pub returns : goal.returns
returns c =
    let same = ap (λ (a : FileContents). length (file_parts a.archive)) c.self.view_is in
    c.member_name.ensures
    ∙ name_there c.self.inside.archive c.args.place
    (omega (arith, c.requires, parts_long c.self.inside.archive, same))
    ∙ ap (λ (a : FileContents). (part_at (file_parts a.archive) c.args.place).name) c.self.view_is
