use Rattle.std.proofs.Common.{List, [], ◌∷◌, ◌++◌, ap, ◌∙◌, arith}
use Rattle.part_events.specs.Words.{Contents, closed, Part}
use Rattle.workbook_file.specs.Contents.{FileContents}
use Rattle.workbook_file.specs.FileParts.{file_parts}
use Rattle.workbook_file.specs.OpenEvents.{rest_of}
use Rattle.workbook_file.proofs.KeptParts.{parts_all, parts_more}
use Rattle.workbook_file.proofs.workbook_file.WorkbookFile.into_memory.Goals as goal

pub parts-preserved : goal.parts-preserved
parts-preserved c =
    let part = c.in_ok-part.part in
    let name = c.member_name.result.now in
    let own : Part = record { name = name; events = rest_of part } in
    c.in_ok-push_part.ensures
    ∙ ap (λ (held : Contents). closed (held.parts ++ own ∷ []) held.taken) c.parts.invariant
    ∙ ap (λ (parts : List Part). closed parts 0)
    (parts_more c.self.inside.archive c.parts.place c.member_entry-entry.result name part
    (omega (arith, c.parts-test.true, c.member_count-place-end.ensures)) c.member_name.ensures
    c.member_entry-entry.ensures.entry c.in_ok-part.ensures.ok)

pub returns-clause-ok : goal.returns-clause-ok
returns-clause-ok c =
    c.parts.invariant
    ∙ ap (λ (parts : List Part). closed parts 0)
    (parts_all c.self.inside.archive c.parts.place
    (omega (arith, c.parts-test.false, c.member_count-place-end.ensures)))
    ∙ ap (λ (a : FileContents). closed (file_parts a.archive) 0) c.self.view_is
