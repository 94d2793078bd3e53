use Rattle.std.specs.Prelude.{map}
use Rattle.xlsx_writer.specs.Grouping.{member_entry}
use Rattle.xlsx_writer.proofs.LastRows.{AreLastOf}
use Rattle.xlsx_writer.proofs.groups.last_rows_of.Given as goal

abbrev pub invariant-loop-member : goal.invariant-loop-member
invariant-loop-member l = AreLastOf (map member_entry l.members) l.member-index l.rows.items
