use Rattle.std.proofs.Common.{◌∙◌, string_bytes}
use Rattle.part_events.proofs.StoredTexts.{pushed, same_pushed, end_push}
use Rattle.part_events.proofs.stored.StoredPart.push.Goals as goal

pub invariant_of-self-2 : goal.invariant_of-self-2
invariant_of-self-2 c =
    let old = string_bytes c.self.inside.text in
    let new = string_bytes c.push_texts.new.text in
    let events = c.self.inside.events.items in
    let last = rw (c.reserve.ensures.bytes, ← c.self.invariant.1) at c.in_ok-stored.ensures.ok in
    let extends = rw c.reserve.ensures.bytes at c.in_ok-stored.ensures.extends in
    rw (c.in_ok-push.ensures.items, c.reserve-2.ensures.items) (
      pushed old new events c.in_ok-stored.stored extends c.self.invariant.0 last,
      end_push 0 events c.in_ok-stored.stored ∙ c.in_ok-stored.ensures.end,
    )

pub returns-clause-ok : goal.returns-clause-ok
returns-clause-ok c =
    let old = string_bytes c.self.inside.text in
    let new = string_bytes c.push_texts.new.text in
    let events = c.self.inside.events.items in
    let value = rw (c.reserve.ensures.bytes, ← c.self.invariant.1) at
    c.in_ok-stored.ensures.value in
    let extends = rw c.reserve.ensures.bytes at c.in_ok-stored.ensures.extends in
    rw (
      c.in_ok-push.ensures.items,
      c.reserve-2.ensures.items,
      same_pushed old new events c.in_ok-stored.stored extends c.self.invariant.0,
      value,
      ← c.self.view_is,
    )
