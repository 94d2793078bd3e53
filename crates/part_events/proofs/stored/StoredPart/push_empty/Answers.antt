use Rattle.std.proofs.Common.{◌++◌, ◌∷◌, [], ◌∙◌, string_bytes}
use Rattle.part_events.proofs.StoredTexts.{pushed, same_pushed, end_push}
use Rattle.part_events.proofs.stored.StoredPart.push_empty.Goals as goal

pub invariant_of-self-2 : goal.invariant_of-self-2
invariant_of-self-2 c =
    let old = string_bytes c.self.inside.text in
    let mid = string_bytes c.push_texts.new.text in
    let new = string_bytes c.push_texts-2.new.text in
    let events = c.self.inside.events.items in
    let start = c.in_ok-stored_start.stored_start in
    let end = c.in_ok-stored_end.stored_end in
    let behind = end_push 0 events start ∙ c.in_ok-stored_start.ensures.end in
    let first = rw (c.reserve.ensures.bytes, ← c.self.invariant.1) at
    c.in_ok-stored_start.ensures.ok in
    let extends = rw c.reserve.ensures.bytes at c.in_ok-stored_start.ensures.extends in
    let last = rw (← behind) at c.in_ok-stored_end.ensures.ok in
    rw (
      c.in_ok-push-2.ensures.items,
      c.in_ok-push.ensures.items,
      c.reserve-2.ensures.items,
    ) (
      pushed mid new (events ++ start ∷ []) end c.in_ok-stored_end.ensures.extends
          (pushed old mid events start extends c.self.invariant.0 first) last,
      end_push 0 (events ++ start ∷ []) end ∙ c.in_ok-stored_end.ensures.end,
    )

pub returns-clause-ok : goal.returns-clause-ok
returns-clause-ok c =
    let old = string_bytes c.self.inside.text in
    let mid = string_bytes c.push_texts.new.text in
    let new = string_bytes c.push_texts-2.new.text in
    let events = c.self.inside.events.items in
    let start = c.in_ok-stored_start.stored_start in
    let end = c.in_ok-stored_end.stored_end in
    let behind = end_push 0 events start ∙ c.in_ok-stored_start.ensures.end in
    let first = rw (c.reserve.ensures.bytes, ← c.self.invariant.1) at
    c.in_ok-stored_start.ensures.ok in
    let first_value = rw (c.reserve.ensures.bytes, ← c.self.invariant.1) at
    c.in_ok-stored_start.ensures.value in
    let extends = rw c.reserve.ensures.bytes at c.in_ok-stored_start.ensures.extends in
    let last_value = rw (← behind) at c.in_ok-stored_end.ensures.value in
    rw (
      c.in_ok-push-2.ensures.items,
      c.in_ok-push.ensures.items,
      c.reserve-2.ensures.items,
      same_pushed mid new (events ++ start ∷ []) end c.in_ok-stored_end.ensures.extends
          (pushed old mid events start extends c.self.invariant.0 first),
      same_pushed old mid events start extends c.self.invariant.0,
      first_value,
      last_value,
      ← c.self.view_is,
    )
