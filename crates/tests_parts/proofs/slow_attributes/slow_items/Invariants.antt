use Rattle.std.proofs.Common.{◌≡◌, ◌≤◌, ◌++◌, map, length}
use Rattle.attr_text.specs.Words.{items, items_left, item_of}
use Rattle.tests_parts.proofs.slow_attributes.slow_items.Given as goal

abbrev pub invariant-loop-first : goal.invariant-loop-first
invariant-loop-first l = record {
  read : items l.text ≡ map item_of l.list.items ++ items_left (length l.text) l.left;
  within : length l.left ≤ length l.text;
}

abbrev pub decreases-loop-first : goal.decreases-loop-first
decreases-loop-first l = length l.left
