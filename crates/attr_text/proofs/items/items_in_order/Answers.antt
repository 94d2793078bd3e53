use Rattle.attr_text.proofs.ItemsLemmas.{items_left-first}
use Rattle.attr_text.proofs.items.items_in_order.Goals as goal

pub returns : goal.returns
returns c = items_left-first c.args.size c.args.text.now
