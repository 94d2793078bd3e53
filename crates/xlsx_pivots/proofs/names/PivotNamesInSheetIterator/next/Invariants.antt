use Rattle.std.proofs.Common.{◌≡◌, length}
use Rattle.xlsx_pivots.specs.PivotTables.{pivot_names_left}
use Rattle.xlsx_pivots.proofs.names.PivotNamesInSheetIterator.next.Given as goal

abbrev pub invariant-pivots : goal.invariant-pivots
invariant-pivots l = record {
  left : pivot_names_left l.self ≡ pivot_names_left l.fn.self;
  sheet : l.self.sheet ≡ l.fn.self.sheet;
}

abbrev pub decreases-pivots : goal.decreases-pivots
decreases-pivots l = length l.self.left.now
