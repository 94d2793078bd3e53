use Rattle.std.proofs.Common.{◌≡◌, ◌<◌, ◌≤◌, ℕ, length, take}
use Rattle.std.specs.Prelude.{map, slice_index, All}
use Rattle.xlsx_writer.specs.Groups.{group_index}
use Rattle.xlsx_writer.specs.Grouping.{member_entry, formula_at_place}
use Rattle.xlsx_writer.specs.Writing.{form_entries, IsFormInSheet}
use Rattle.xlsx_writer.proofs.Masters.{masters_among, written_first}
use Rattle.xlsx_writer.proofs.groups.forms_of.Given as goal

abbrev pub invariant-loop-member : goal.invariant-loop-member
invariant-loop-member l =
    let placed = map member_entry l.members in
    record {
      count : length l.formulas.items ≡ l.member-index;
      forms : form_entries l.formulas.items ≡ written_first placed l.member-index;
      sheet : All IsFormInSheet l.formulas.items;
      known : length l.indices.items ≡ l.member-index;
      indices : (k : ℕ) → k < l.member-index →
          slice_index l.indices.items k ≡ group_index placed (formula_at_place placed k).0;
      masters : l.masters ≡ masters_among placed (take l.member-index placed);
      few : l.masters ≤ l.member-index;
    }
