use Rattle.std.proofs.Common.{Some, get_or, refl, ap, ◌∙◌}
use Rattle.zip_archive.specs.Words.{no_entry}
use Rattle.workbook_file.specs.Contents.{past_of}
use Rattle.workbook_file.specs.FileParts.{held_by}
use Rattle.workbook_file.specs.OpenEvents.{OpenEvents}
use Rattle.workbook_file.proofs.Opening.{opened_past, opens_found, opens_none}
use Rattle.workbook_file.proofs.workbook_file.WorkbookFilePackage.open.Goals as goal

pub returns-in_default-clause-opens : goal.returns-in_default-clause-opens
returns-in_default-clause-opens c = λ told.
    let held = c.self.inside.archive in
    rw (← c.self.view_is) (record {
      part = opens_none held c.args.name.now c.in_default.ensures.entry;
      past = refl;
    })

pub returns-clause-opens : goal.returns-clause-opens
returns-clause-opens c = λ told.
    let held = c.self.inside.archive in
    let place = c.in-Some.place in
    let outcome = held_by held (get_or held.archive.entries place no_entry) in
    rw (← c.self.view_is) (record {
      part = opens_found held c.args.name.now place c.in_ok-part.part c.in-Some.ensures.place
          c.in-Some.ensures.entry c.in_ok-part.ensures.ok;
      past =
          ap (λ (part : OpenEvents). past_of (Some part)) c.in_ok-part.ensures.ok
          ∙ opened_past outcome;
    })
