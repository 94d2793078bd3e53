use Rattle.std.proofs.Common.{◌≡◌, ◌<◌, ◌-◌, ap, arith, length, List, None, subst, sym}
use Rattle.part_events.proofs.NamesFound.{finds_with_event}
use Rattle.part_events.proofs.Parts.{with_event-at}
use Rattle.part_events.specs.Event.{event_of}
use Rattle.part_events.specs.Memory.{Contents}
use Rattle.part_events.specs.Package.{Part}
use Rattle.part_events.specs.PartNames.{FindsParts}
use Rattle.part_events.proofs.memory.MemoryPackage.push_event.Goals as goal

pub returns-clause-ok : goal.returns-clause-ok
returns-clause-ok c =
    let parts = c.self.inside.parts.items in
    let some : 0 < length parts = rw (← c.self.view_is) at c.requires in
    let at : c.len-last.result - 1 ≡ length parts - 1 =
    omega (arith, c.len-last.ensures, c.self.inside.parts.ok.0) in
    rw (← c.self.view_is)
    (ap (λ (seen : List Part). let held : Contents =
    record { parts = seen; place = None; taken = c.self.inside.taken } in held)
    (with_event-at parts (event_of c.args.event) (c.len-last.result - 1) c.index_mut.result.now
    c.push.new.self some at c.index_mut.ensures.value c.in_ok-push.ensures.ok))

pub invariant_of-self-2 : goal.invariant_of-self-2
invariant_of-self-2 c =
    let parts = c.self.inside.parts.items in
    let some : 0 < length parts = rw (← c.self.view_is) at c.requires in
    let at : c.len-last.result - 1 ≡ length parts - 1 =
    omega (arith, c.len-last.ensures, c.self.inside.parts.ok.0) in
    let event = event_of c.args.event in (
      tt,
      subst (λ (own : List Part). FindsParts c.self.inside.names own)
          (sym (with_event-at parts event (c.len-last.result - 1) c.index_mut.result.now
          c.push.new.self some at c.index_mut.ensures.value c.in_ok-push.ensures.ok))
          (finds_with_event c.self.inside.names parts event c.self.invariant.1),
    )
