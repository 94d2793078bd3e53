use Rattle.std.proofs.Common.{◌∙◌, ◌++◌, ap, sym, reverse}
use Rattle.std.specs.Option.{option_to_list}
use Rattle.sorted_cells.proofs.Handing.{last_first}
use Rattle.sorted_cells.proofs.owned_cells.take_last.Goals as goal

pub returns-then-len-eq0-clause-left : goal.returns-then-len-eq0-clause-left
returns-then-len-eq0-clause-left g c =
    last_first c.pop-last.result c.args.cells.now.items c.pop-last.new.self.items
    c.pop-last.ensures.items
    ∙ ap (λ kept. option_to_list c.pop-last.result ++ reverse kept)
    (sym c.shrink_to_fit.ensures.items)

pub returns-else-len-eq0-clause-left : goal.returns-else-len-eq0-clause-left
returns-else-len-eq0-clause-left g c =
    last_first c.pop-last.result c.args.cells.now.items c.pop-last.new.self.items
    c.pop-last.ensures.items
