use Rattle.std.proofs.Common.{◌≡◌, ◌<◌, ◌||◌, ℕ, drop, false, get_or, length}
use Rattle.calculation_order.specs.Edges.{is_number_of}
use Rattle.xlsx_graph.proofs.order_marks.are_in_order.Given as goal

abbrev pub invariant-loop-number : goal.invariant-loop-number
invariant-loop-number l = record {
  size : length l.in_order.items ≡ l.count;
  told : (n : ℕ) → n < l.count →
      (get_or l.in_order.items n false || is_number_of (drop l.number-index l.order) n)
      ≡ is_number_of l.order n;
}
