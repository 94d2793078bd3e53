use Rattle.std.proofs.Common.{length, sym, ap, ◌∙◌}
use Rattle.workbook_file.specs.Contents.{FileContents}
use Rattle.workbook_file.specs.FileParts.{file_parts}
use Rattle.workbook_file.proofs.Opening.{parts_long}
use Rattle.workbook_file.proofs.workbook_file.WorkbookFile.part_count.Goals as goal

pub returns : goal.returns
returns c =
    c.member_count.ensures ∙ sym (parts_long c.self.inside.archive)
    ∙ ap (λ (a : FileContents). length (file_parts a.archive)) c.self.view_is
