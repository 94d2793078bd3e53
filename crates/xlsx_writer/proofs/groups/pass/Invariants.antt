use Rattle.std.proofs.Common.{◌≤◌, ◌-◌, length}
use Rattle.std.specs.Prelude.{map}
use Rattle.xlsx_writer.specs.Grouping.{ArePassed, member_entry}
use Rattle.xlsx_writer.proofs.groups.pass.Given as goal

abbrev pub invariant-members : goal.invariant-members
invariant-members l =
    (l.place ≤ l.next)
    × (l.next ≤ length l.members)
    × ArePassed (map member_entry l.members) l.place l.next l.position

abbrev pub decreases-members : goal.decreases-members
decreases-members l = length l.members - l.next
