use Rattle.std.proofs.Common.{reverse, ◌∙◌, sym}
use Rattle.std.proofs.lemmas.List.{length-reverse}
use Rattle.part_events.proofs.Opened.{length-names_cut}
use Rattle.part_events.proofs.open_names.OpenNames.len.Goals as goal

pub returns : goal.returns
returns c =
    let inside = c.self.inside in
    rw (← c.self.view_is) (c.len.ensures ∙ inside.sizes.ok.0
    ∙ sym (length-names_cut inside.text.items (reverse inside.sizes.items)
    ∙ length-reverse inside.sizes.items))
