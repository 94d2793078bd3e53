use Rattle.std.proofs.Common.{◌≡◌}
use Rattle.attr_text.specs.Attributes.{items, first_value, ending_fault}
use Rattle.attr_text.specs.AttrIter.{attrs_left}
use Rattle.attr_text.specs.Wanted.{accepts}
use Rattle.attr_text.proofs.lookup.find_value.Given as goal

abbrev pub invariant-loop-item : goal.invariant-loop-item
invariant-loop-item l = record {
  value : first_value (accepts l.wanted) (attrs_left l.item-iterator)
      ≡ first_value (accepts l.wanted) (items l.raw);
  fault : ending_fault (attrs_left l.item-iterator) ≡ ending_fault (items l.raw);
}
