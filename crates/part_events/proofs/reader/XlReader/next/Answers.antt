use Rattle.std.proofs.Common.{◌+◌, true, sym, subst}
use Rattle.part_events.specs.Reading.{Reading, IsReading}
use Rattle.part_events.proofs.Steps.{breaks_at_end, breaks_at_flaw}
use Rattle.part_events.proofs.reader.XlReader.next.Goals as goal

pub returns-then-not-close-clause-err : goal.returns-then-not-close-clause-err
returns-then-not-close-clause-err g c =
    let inside = c.self.inside in
    let old : Reading = record {
      source = g.P.Package.state inside.package;
      names = inside.names;
      at = inside.at;
      is_failed = inside.failed;
      alloc = inside.alloc;
    } in
    let new : Reading = record old {
      source = g.P.Package.state c.advance.new.self;
      names = c.close.new.self;
      at = inside.at + 1;
      is_failed = true;
    } in
    rw (← c.self.view_is) (λ told.
    breaks_at_end old new c.in-End.name.now _ c.if-not-branch.false
    (subst (λ (r : Reading). IsReading r) (sym c.self.view_is) c.requires) told
    (c.in_ok-advance.ensures.events told) c.in-End.ensures (sym c.if-not-close.ensures.answer))

pub returns-in-Flaw-clause-err : goal.returns-in-Flaw-clause-err
returns-in-Flaw-clause-err g c =
    let inside = c.self.inside in
    let old : Reading = record {
      source = g.P.Package.state inside.package;
      names = inside.names;
      at = inside.at;
      is_failed = inside.failed;
      alloc = inside.alloc;
    } in
    let new : Reading = record old {
      source = g.P.Package.state c.advance.new.self;
      at = inside.at + 1;
      is_failed = true;
    } in
    rw (← c.self.view_is) (λ told.
    breaks_at_flaw old new _ _ c.if-not-branch.false
    (subst (λ (r : Reading). IsReading r) (sym c.self.view_is) c.requires) told
    (c.in_ok-advance.ensures.events told) c.in-Flaw.ensures)
