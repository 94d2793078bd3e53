use Rattle.std.proofs.Common.{◌≡◌, length}
use Rattle.xlsx_core.specs.TableList.{table_names_left}
use Rattle.xlsx_core.proofs.table_list.TableNamesIterator.next.Given as goal

abbrev pub invariant-tables : goal.invariant-tables
invariant-tables l = record {
  left : table_names_left l.self ≡ table_names_left l.fn.self;
  sheets : l.self.sheets ≡ l.fn.self.sheets;
  sheet : l.self.sheet ≡ l.fn.self.sheet;
}

abbrev pub decreases-tables : goal.decreases-tables
decreases-tables l = length l.self.left.now
