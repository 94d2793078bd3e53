use Rattle.std.proofs.Common.{◌∙◌, sym}
use Rattle.part_events.proofs.StoredTexts.{begins}
use Rattle.part_events.proofs.stored.begin_at.Goals as goal

pub returns : goal.returns
returns c = c.end.ensures
    ∙ sym (begins c.args.place c.args.events.now _ c.if-place-eq0.false c.requires)
