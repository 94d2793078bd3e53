use Rattle.std.proofs.Common.{◌∙◌, [], ◌∷◌, ◌++◌, ap}
use Rattle.std.proofs.lemmas.Result.{on_ok_weaker}
use Rattle.part_events.specs.Words.{Event, start, Contents, closed}
use Rattle.written_markup.specs.Markup.{with_events, opened_part}
use Rattle.written_markup.proofs.Drafted.{part_step}
use Rattle.written_markup.proofs.builder.PackageBuilder.begin_part.Goals as goal

pub returns : goal.returns
returns c =
    let held = c.self.inside.held in
    let added = c.add_part.new.self in
    let root = start (record { name = c.args.root.now; attributes = c.args.attributes.now }) in
    let part = opened_part c.args.name.now c.args.root.now c.args.attributes.now in
    on_ok_weaker c.push.result
    (λ pushed. part_step held added c.push.new.self c.args.name.now [] (root ∷ [])
    c.in_ok-add_part.ensures.ok
    (pushed ∙ ap (λ (event : Event). with_events added (event ∷ [])) c.start.ensures)
    ∙ ap (λ (own : Contents). closed (own.parts ++ part ∷ []) own.taken) c.self.view_is)
    c.push.ensures
