use Rattle.std.proofs.Common.{◌∙◌, sym, string_bytes}
use Rattle.part_events.proofs.StoredTexts.{event_count}
use Rattle.part_events.proofs.stored.StoredPart.len.Goals as goal

pub returns : goal.returns
returns c =
    rw (← c.self.view_is) (c.len.ensures ∙ c.self.inside.events.ok.0
    ∙ sym (event_count (string_bytes c.self.inside.text) c.self.inside.events.items))
