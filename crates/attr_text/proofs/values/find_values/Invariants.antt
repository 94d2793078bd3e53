use Rattle.std.proofs.Common.{◌≡◌, map, false}
use Rattle.std.specs.Prelude.{is_some}
use Rattle.std.specs.List.{list_all}
use Rattle.std.specs.Option.{option_copied}
use Rattle.attr_text.specs.Attributes.{items, first_values, ending_fault}
use Rattle.attr_text.specs.AttrIter.{attrs_left}
use Rattle.attr_text.proofs.ValuesLemmas.{found_later}
use Rattle.attr_text.proofs.values.find_values.Given as goal

abbrev pub invariant-loop-item : goal.invariant-loop-item
invariant-loop-item l = record {
  found : first_values (map (λ k. k.now) l.keys) (items l.raw)
      ≡ found_later (attrs_left l.item-iterator) (map (λ k. k.now) l.keys)
      (map option_copied l.values);
  fault : ending_fault (attrs_left l.item-iterator) ≡ ending_fault (items l.raw);
  missing : list_all is_some l.values ≡ false;
}
