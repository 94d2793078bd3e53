use Rattle.std.proofs.Common.{◌≡◌, ◌≤◌, ◌-◌, ◌++◌, drop, length, false, string_bytes}
use Rattle.serde_json.specs.Written.{items_text}
use Rattle.part_events.specs.Words.{part_at}
use Rattle.package_text.specs.WrittenPackage.{event_texts, events_data}
use Rattle.package_text.proofs.written.push_events.Given as goal

abbrev pub invariant-events : goal.invariant-events
invariant-events l =
    let events = (part_at l.«package».parts l.part).events in
    (l.next ≤ length events)
    × (string_bytes l.out ++ items_text l.is_later (events_data (event_texts (drop l.next events)))
    ≡ string_bytes l.fn.out ++ items_text false (events_data (event_texts events)))

abbrev pub decreases-events : goal.decreases-events
decreases-events l = l.count - l.next
