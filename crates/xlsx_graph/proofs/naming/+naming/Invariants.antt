use Rattle.std.proofs.Common.{◌≡◌, ◌+◌, ◌-◌, ◌*◌, drop, length}
use Rattle.formula_tokens.specs.Told.{formula_items_left}
use Rattle.xlsx_graph.specs.Kept.{Kept, Adds, KeepsInFront, TellsKept}
use Rattle.xlsx_graph.specs.Naming.{Found, found_within, mention_found, function_found}
use Rattle.xlsx_graph.specs.Naming.{range_length}
use Rattle.xlsx_graph.proofs.Along.{Counts}
use Rattle.xlsx_graph.proofs.Ranging.{SoFar}
use Rattle.xlsx_graph.proofs.naming.+naming.Given as goal

abbrev pub decreases-push_text : goal.decreases-push_text
decreases-push_text l = 8 * l.turns

abbrev pub decreases-push_name : goal.decreases-push_name
decreases-push_name l = 8 * l.turns + 1

abbrev pub decreases-push_meaning : goal.decreases-push_meaning
decreases-push_meaning l = 8 * l.turns + 2

abbrev pub decreases-push_mention : goal.decreases-push_mention
decreases-push_mention l = 8 * l.turns + 3

abbrev pub decreases-push_function : goal.decreases-push_function
decreases-push_function l = 8 * l.turns + 3

abbrev pub decreases-push_ends : goal.decreases-push_ends
decreases-push_ends l = 8 * l.turns + 4

abbrev pub decreases-push_range : goal.decreases-push_range
decreases-push_range l = 8 * l.turns + 5

abbrev pub decreases-push_item : goal.decreases-push_item
decreases-push_item l = 8 * l.turns + 6

abbrev pub invariant-push_text-items : goal.invariant-push_text-items
invariant-push_text-items l = record {
  counts : Counts (mention_found (l.turns - 1) l.book l.reader l.fn.out.opened)
      (function_found (l.turns - 1) l.book l.reader l.fn.out.opened) l.before
      (formula_items_left l.items) l.fn.out l.out
      (found_within l.turns l.book l.reader l.fn.out.opened l.text);
  front : KeepsInFront l.fn.out l.out;
  opened : l.out.opened ≡ l.fn.out.opened;
}

abbrev pub decreases-push_text-items : goal.decreases-push_text-items
decreases-push_text-items l = length (formula_items_left l.items)

abbrev pub invariant-push_ends-ends : goal.invariant-push_ends-ends
invariant-push_ends-ends l = record {
  so_far : (kept : Kept) (f : Found) → TellsKept l.start kept → Adds kept l.fn.out f →
      SoFar (mention_found l.turns l.book l.reader l.fn.out.opened) kept f
      (formula_items_left l.fn.items) (formula_items_left l.items) l.out;
  behind : drop (range_length (formula_items_left l.items)) (formula_items_left l.items)
      ≡ drop (range_length (formula_items_left l.fn.items)) (formula_items_left l.fn.items);
  opened : l.out.opened ≡ l.fn.out.opened;
}

abbrev pub decreases-push_ends-ends : goal.decreases-push_ends-ends
decreases-push_ends-ends l = length (formula_items_left l.items)
