use Rattle.std.proofs.Common.{◌∙◌}
use Rattle.xlsx_sections.proofs.Failing.{given_back}
use Rattle.xlsx_parts.proofs.WholeRead.{begins_part, whole_step_refused}
use Rattle.xlsx_properties.specs.Said.{AreRefused}
use Rattle.xlsx_properties.proofs.EventsSaid.{events_further, events_refused, events_ended}
use Rattle.xlsx_properties.proofs.keeping_texts.keep_texts.Goals as goal

pub returns-in_err-at-clause-err : goal.returns-in_err-at-clause-err
returns-in_err-at-clause-err g c =
    let old = c.args.xml.now in
    let new = c.next_event_of_part.new.xml in
    given_back _ c.from_residual.result c.from_residual.ensures.1
    (whole_step_refused (AreRefused (g.K.KeepsTexts.following c.args.keeper.now)) old new
    c.in_err-at.field-0.0 (c.in_err-at.ensures.refused old c.events.invariant.keeps.keeps))

pub events-preserved : goal.events-preserved
events-preserved g c =
    let old = c.args.xml.now in
    let step = rw c.in-Some.is at (c.in_ok-at.ensures.step old c.events.invariant.keeps.keeps) in
    record {
      keeps = events_further c.events.invariant.keeps step
          (rw c.event.ensures at c.in_ok-take.ensures.ok);
      beside = λ other. c.take.ensures.beside other ∙ c.events.invariant.beside other;
    }

pub returns-in_err-take-clause-err : goal.returns-in_err-take-clause-err
returns-in_err-take-clause-err g c =
    let old = c.args.xml.now in
    let new = c.next_event_of_part.new.xml.source in
    let step = rw c.in-Some.is at (c.in_ok-at.ensures.step old c.events.invariant.keeps.keeps) in
    given_back _ c.from_residual-in_err-take.result c.from_residual-in_err-take.ensures.1
    (events_refused new c.in_err-take.field-0.0
    (λ told. begins_part old c.requires.reading c.requires.first told) c.events.invariant.keeps step
    (rw c.event.ensures at c.in_err-take.ensures.err))

pub returns-clause-ends : goal.returns-clause-ends
returns-clause-ends g c = λ told.
    let old = c.args.xml.now in
    let ends = (rw c.in_default.is at
    (c.in_ok-at.ensures.step old c.events.invariant.keeps.keeps)) told in
    ends.0.1

pub returns-clause-whole : goal.returns-clause-whole
returns-clause-whole g c = λ told.
    let old = c.args.xml.now in
    let ends = (rw c.in_default.is at
    (c.in_ok-at.ensures.step old c.events.invariant.keeps.keeps)) told in
    ends.0.0

pub returns-clause-said : goal.returns-clause-said
returns-clause-said g c = λ told.
    let old = c.args.xml.now in
    let ends = (rw c.in_default.is at
    (c.in_ok-at.ensures.step old c.events.invariant.keeps.keeps)) told in
    events_ended (λ told. begins_part old c.requires.reading c.requires.first told)
    c.events.invariant.keeps (g.met.K.KeepsTexts.ended c.events.keeper) told ends.0.0 ends.1
