use Rattle.std.proofs.Common.{◌∙◌, length, sym, ap}
use Rattle.calculation_order.proofs.CutLinks.{length-cut_at}
use Rattle.calculation_order.proofs.links.Links.len.Goals as goal

pub returns : goal.returns
returns c =
    c.len.ensures ∙ c.self.inside.ends.ok.0
    ∙ sym (length-cut_at c.self.inside.targets.items 0 c.self.inside.ends.items)
    ∙ ap (λ linked. length linked.links) c.self.view_is
