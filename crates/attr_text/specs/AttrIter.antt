-- What an iterator over an attribute text has left to give.
use Rattle.std.specs.Prelude.{ℕ, List, Result, Ok, Err}
use Rattle.std.specs.Borrow.{Bor}
use Rattle.attr_text.specs.Attributes.{Item, items_left}
use Rattle.attr_text.specs.declared.fault.AttrFault.{AttrFault}
use Rattle.attr_text.specs.declared.items.RawAttrIter.{RawAttrIter}

-- the items that were not given yet
abbrev pub attrs_left : RawAttrIter → List Item
attrs_left it = items_left it.size it.rest.now

-- the item that the iterator gave, by its bytes
abbrev pub item_of : Result (Bor (List ℕ) × Bor (List ℕ)) AttrFault → Item
item_of (Ok pair) = Ok (pair.0.now, pair.1.now)
item_of (Err fault) = Err fault
