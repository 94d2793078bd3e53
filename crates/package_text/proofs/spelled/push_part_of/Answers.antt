use Rattle.std.proofs.Common.{◌++◌, List, ◌∙◌, sym, ap, drop, ◌+◌}
use Rattle.std.specs.Option.{option_map}
use Rattle.part_events.specs.Words.{Contents, closed, Part}
use Rattle.package_text.specs.PackageText.{events_of_items, event_meant, with_last_events}
use Rattle.serde_json.specs.View.{items_view}
use Rattle.package_text.proofs.PackageTextLemmas.{fronts_more, with_events-push, events_more}
use Rattle.package_text.proofs.spelled.push_part_of.Goals as goal

pub loop-value-preserved : goal.loop-value-preserved
loop-value-preserved c =
    let invariant = c.loop-value.invariant in
    let done = invariant.0 in
    let own = event_meant c.in-Some.event in
    let rest = events_of_items c.args.is_second
    (items_view (drop (c.loop-value.value-index + 1) c.args.events.now)) in
    let old = c.args.«package».now in
    let first = events_more c.args.is_second c.args.events.now c.loop-value.value-index
    c.value-item.result own c.loop-value-test.true c.value-item.is c.in-Some.ensures in (
      done ++ own,
      c.in_ok-push_spelled.ensures
          ∙ ap (λ (held : Contents). closed (with_last_events held.parts own) held.taken)
          invariant.1
          ∙ ap (λ (parts : List Part). closed parts old.taken)
          (with_events-push old.parts c.args.name.now done own),
      sym (fronts_more done own rest)
          ∙ ap (λ found. option_map (λ events. done ++ events) found) first
          ∙ invariant.2,
    )
