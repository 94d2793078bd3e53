use Rattle.std.proofs.Common.{◌≡◌, ◌<◌, ◌-◌, ap, arith, length, List, None, subst, sym}
use Rattle.part_events.proofs.NamesFound.{finds_with_event}
use Rattle.part_events.proofs.Parts.{with_both-at}
use Rattle.part_events.specs.Event.{Tag, start, end}
use Rattle.part_events.specs.Memory.{Contents, with_event}
use Rattle.part_events.specs.Package.{Part}
use Rattle.part_events.specs.PartNames.{FindsParts}
use Rattle.part_events.proofs.memory.MemoryPackage.push_empty.Goals as goal

pub returns-clause-ok : goal.returns-clause-ok
returns-clause-ok c =
    let parts = c.self.inside.parts.items in
    let tag : Tag = record { name = c.args.name.now; attributes = c.args.attributes.now } in
    let some : 0 < length parts = rw (← c.self.view_is) at c.requires in
    let at : c.len-last.result - 1 ≡ length parts - 1 =
    omega (arith, c.len-last.ensures, c.self.inside.parts.ok.0) in
    rw (← c.self.view_is)
    (ap (λ (seen : List Part). let held : Contents =
    record { parts = seen; place = None; taken = c.self.inside.taken } in held)
    (with_both-at parts (start tag) (end c.args.name.now) (c.len-last.result - 1)
    c.index_mut.result.now c.push_empty.new.self some at c.index_mut.ensures.value
    c.in_ok-push_empty.ensures.ok))

pub invariant_of-self-2 : goal.invariant_of-self-2
invariant_of-self-2 c =
    let parts = c.self.inside.parts.items in
    let tag : Tag = record { name = c.args.name.now; attributes = c.args.attributes.now } in
    let last = end c.args.name.now in
    let some : 0 < length parts = rw (← c.self.view_is) at c.requires in
    let at : c.len-last.result - 1 ≡ length parts - 1 =
    omega (arith, c.len-last.ensures, c.self.inside.parts.ok.0) in (
      tt,
      subst (λ (own : List Part). FindsParts c.self.inside.names own)
          (sym (with_both-at parts (start tag) last (c.len-last.result - 1)
          c.index_mut.result.now c.push_empty.new.self some at c.index_mut.ensures.value
          c.in_ok-push_empty.ensures.ok))
          (finds_with_event c.self.inside.names (with_event parts (start tag)) last
          (finds_with_event c.self.inside.names parts (start tag) c.self.invariant.1)),
    )
