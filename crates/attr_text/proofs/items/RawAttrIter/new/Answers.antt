use Rattle.std.proofs.Common.{length, refl}
use Rattle.attr_text.specs.Attributes.{items}
use Rattle.attr_text.proofs.ItemsLemmas.{length-items_left}
use Rattle.attr_text.proofs.items.RawAttrIter.new.Goals as goal

pub returns-clause-gives : goal.returns-clause-gives
unfolding items
returns-clause-gives c = refl

pub returns-clause-bound : goal.returns-clause-bound
returns-clause-bound c = length-items_left (length c.args.raw.now) c.args.raw.now
