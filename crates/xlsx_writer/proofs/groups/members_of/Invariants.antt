use Rattle.std.proofs.Common.{◌≡◌, ◌≤◌, ◌++◌, length, string_bytes}
use Rattle.std.specs.Prelude.{map}
use Rattle.cell_data.proofs.Stepping.{meant}
use Rattle.sorted_cells.specs.Words.{placed_left}
use Rattle.xlsx_writer.specs.Grouping.{AreHeads, member_entry, member_head}
use Rattle.xlsx_writer.proofs.Heads.{PassedBy}
use Rattle.xlsx_writer.proofs.groups.members_of.Given as goal

abbrev pub invariant-loop-position : goal.invariant-loop-position
invariant-loop-position l =
    let placed = meant string_bytes (placed_left l.fn.formulas) in
    let left = meant string_bytes (placed_left l.position-iterator) in
    record {
      whole : map member_entry l.members.items ++ left ≡ placed;
      heads : AreHeads placed (map member_head l.members.items);
      within : l.above ≤ length l.members.items;
      passed : PassedBy (map member_entry l.members.items) l.above left;
    }
