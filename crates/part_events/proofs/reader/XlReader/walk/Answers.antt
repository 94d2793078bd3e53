use Rattle.std.proofs.Common.{◌≡◌, true, sym, subst, ◌∙◌}
use Rattle.part_events.specs.Event.{Tag, Event, IsStartAnd, tag_of}
use Rattle.part_events.specs.Walk.{wants, IsNextElement, StandsInside, StepsInside}
use Rattle.part_events.specs.declared.walk.Step.TheVariants.{Found}
use Rattle.part_events.proofs.Walking.{element_later, next_element}
use Rattle.part_events.proofs.reader.XlReader.walk.Goals as goal

pub returns-then-accepts-clause-elements : goal.returns-then-accepts-clause-elements
returns-then-accepts-clause-elements g c = λ told.
    let old = c.args.self.now in
    let mid = c.events.self in
    let new = c.next_inside.new.self in
    let tag = tag_of c.in-Start.tag in
    let told_there : mid.source.is_visible ≡ true = c.events.invariant.reads.moves.parts.is_visible
    ∙ told in
    let stands : StandsInside c.args.base Found mid new =
    rw c.in-Found.is at c.in_ok-next_inside.ensures.stands in
    let steps : StepsInside c.args.base Found mid new =
    rw c.in-Found.is at (c.in_ok-next_inside.ensures.inside told_there) in
    subst (λ (event : Event). IsStartAnd event
    (λ (own : Tag). IsNextElement (wants c.args.wanted) c.args.base own old new)) c.in-Start.ensures
    (element_later (wants c.args.wanted) c.args.base tag old mid new (c.events.invariant.ahead told)
    (next_element (wants c.args.wanted) c.args.base tag mid new stands.0 steps.steps
    c.in-Start.ensures c.events.invariant.within steps.ends (sym c.accepts.ensures
    ∙ c.if-accepts.true)))
