use Rattle.std.proofs.Common.{◌≡◌, ℕ, true, false, take, length, get_or}
use Rattle.std.specs.Prelude.{nat_lt}
use Rattle.std.specs.List.{list_all}
use Rattle.calculation_order.specs.Edges.{is_number_of}
use Rattle.xlsx_graph.proofs.leaves.are_numbers.Given as goal

abbrev pub invariant-loop-number : goal.invariant-loop-number
invariant-loop-number l = record {
  size : length l.seen.items ≡ length l.order;
  below : list_all (λ m. nat_lt m (length l.order)) (take l.number-index l.order) ≡ true;
  stand : (m : ℕ) → get_or l.seen.items m false ≡ true →
      is_number_of (take l.number-index l.order) m ≡ true;
}
