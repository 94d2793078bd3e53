use Rattle.std.proofs.Common.{◌+◌, drop, sym, ◌∙◌}
use Rattle.part_events.specs.Words.{part_at}
use Rattle.package_text.proofs.EventTexts.{pair_written, alone_written, other_alone}
use Rattle.part_events.specs.declared.event.PartEvent.TheVariants.{Start}
use Rattle.package_text.proofs.written.spelled_at.Goals as goal

pub returns-then-is_end_behind : goal.returns-then-is_end_behind
returns-then-is_end_behind c =
    let events = (part_at c.args.«package».now.parts c.args.part).events in
    pair_written events c.args.event c.in-Start.tag c.in-Start.ensures
    (sym c.is_end_behind.ensures ∙ c.if-is_end_behind.true)

pub returns-else-is_end_behind : goal.returns-else-is_end_behind
returns-else-is_end_behind c =
    let events = (part_at c.args.«package».now.parts c.args.part).events in
    alone_written events c.args.event (Start c.in-Start.tag) c.in-Start.ensures
    (sym c.is_end_behind.ensures ∙ c.if-is_end_behind.false)

pub returns-in_default : goal.returns-in_default
returns-in_default c =
    let events = (part_at c.args.«package».now.parts c.args.part).events in
    alone_written events c.args.event c.event_at.result c.event_at.ensures
    (other_alone (drop (c.args.event + 1) events) c.event_at.result c.in_default.not-Start)
