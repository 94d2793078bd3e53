use Rattle.std.proofs.Common.{◌≡◌, ◌++◌, true, sym, ◌∙◌, ap, rules, string_bytes}
use Rattle.part_events.specs.Event.{Event}
use Rattle.part_events.specs.JoinedText.{event_text, is_unknown}
use Rattle.part_events.specs.Walk.{StandsInside, TakesInside}
use Rattle.part_events.specs.declared.walk.Step.TheVariants.{Found}
use Rattle.part_events.proofs.Texts.{front_further, has_read_more, event_fails}
use Rattle.part_events.proofs.reader.XlReader.read_text.Goals as goal

pub returns-in-Err-clause-err : goal.returns-in-Err-clause-err
returns-in-Err-clause-err g c =
    let old = c.args.self.now in
    let mid = c.events.self in
    let new = c.next_inside.new.self in
    let told_there : old.source.is_visible ≡ true → mid.source.is_visible ≡ true =
    λ told. c.events.invariant.reads.moves.parts.is_visible ∙ told in
    let stands : StandsInside c.depth-base.result Found mid new =
    rw c.in-Found.is at c.in_ok-next_inside.ensures.stands in
    rw (c.text_error.ensures.fails, c.text_error.ensures.error)
    (event_fails c.args.char_data c.depth-base.result old mid new _ _ c.in-Err.fault
    c.events.invariant.read
    (λ told. c.events.invariant.reads.stays.reading.tracked (told_there told))
    (λ told. rw c.in-Found.is at (c.in_ok-next_inside.ensures.inside (told_there told)))
    stands.0.at
    (λ told. c.in_ok-next_inside.ensures.reads.stays.part (told_there told)
    ∙ c.events.invariant.reads.stays.part told)
    (rw (← c.event.ensures) c.in-Err.ensures.err))

pub events-preserved : goal.events-preserved
events-preserved g c =
    let old = c.args.self.now in
    let mid = c.events.self in
    let new = c.next_inside.new.self in
    record {
      reads = search rules;
      within = search rules;
      base = search rules;
      front = front_further (string_bytes c.args.out.now) (string_bytes c.events.out) _
          c.events.invariant.front (_, c.in-Ok.ensures.ok);
      read = λ told.
          let told_there : mid.source.is_visible ≡ true =
          c.events.invariant.reads.moves.parts.is_visible
          ∙ told in
          let stands : StandsInside c.depth-base.result Found mid new =
          rw c.in-Found.is at c.in_ok-next_inside.ensures.stands in
          let takes : TakesInside c.depth-base.result mid new =
          rw c.in-Found.is at (c.in_ok-next_inside.ensures.inside told_there) in
          has_read_more c.args.char_data c.depth-base.result old mid new _ _ _
          (c.events.invariant.read told) takes stands.0.at
          (c.in-Ok.ensures.ok ∙ ap
          (λ (event : Event). string_bytes c.events.out ++ event_text c.args.char_data event)
          c.event.ensures)
          (ap is_unknown (sym c.event.ensures) ∙ c.in-Ok.ensures.known);
    }
