use Rattle.std.proofs.Common.{◌∙◌, sym, ◌+◌}
use Rattle.part_events.specs.Words.{part_at}
use Rattle.package_text.proofs.EventTexts.{end_found, other_found}
use Rattle.package_text.proofs.written.is_end_behind.Goals as goal

pub returns-in-End : goal.returns-in-End
returns-in-End c =
    let events = (part_at c.args.«package».now.parts c.args.part).events in
    c.eq.ensures
    ∙ sym (end_found events (c.args.event + 1) c.args.name.now c.in-End.own.now c.in-End.ensures)

pub returns-in_default : goal.returns-in_default
returns-in_default c =
    let events = (part_at c.args.«package».now.parts c.args.part).events in
    sym (other_found events (c.args.event + 1) c.args.name.now c.event_at.result c.event_at.ensures
    c.in_default.not-End)
