use Rattle.std.proofs.Common.{◌<◌, length, string_bytes}
use Rattle.part_events.proofs.StoredTexts.{event_count, stored_there, event_there}
use Rattle.part_events.proofs.stored.StoredPart.event.Goals as goal

pub begin_at-begin-requires : goal.begin_at-begin-requires
begin_at-begin-requires c =
    rw (
      c.deref.ensures.value,
      ← event_count (string_bytes c.self.inside.text) c.self.inside.events.items,
    ) (rw (← c.self.view_is) at c.requires)

pub index-requires : goal.index-requires
index-requires c =
    rw (
      c.self.inside.events.ok.0,
      ← event_count (string_bytes c.self.inside.text) c.self.inside.events.items,
    ) (rw (← c.self.view_is) at c.requires)

pub event_from-requires : goal.event_from-requires
event_from-requires c =
    let bytes = string_bytes c.self.inside.text in
    let events = c.self.inside.events.items in
    let within : c.args.place < length events =
    rw (← event_count bytes events) (rw (← c.self.view_is) at c.requires) in
    rw (c.as_str.ensures.value, c.begin_at-begin.ensures, c.deref.ensures.value)
    (stored_there bytes c.args.place events c.index.result.now c.self.invariant.0 within
    c.index.ensures)

pub returns : goal.returns
returns c =
    let bytes = string_bytes c.self.inside.text in
    let events = c.self.inside.events.items in
    let within : c.args.place < length events =
    rw (← event_count bytes events) (rw (← c.self.view_is) at c.requires) in
    rw (
      c.event_from.ensures,
      c.as_str.ensures.value,
      c.begin_at-begin.ensures,
      c.deref.ensures.value,
      ← c.self.view_is,
    ) (event_there bytes c.args.place events c.index.result.now within c.index.ensures)
