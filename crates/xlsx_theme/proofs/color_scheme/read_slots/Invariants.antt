use Rattle.std.proofs.Common.{[]}
use Rattle.xlsx_sections.proofs.ListsRead.{KeepsList}
use Rattle.xlsx_theme.specs.ColorScheme.{is_slot, slot_said}
use Rattle.xlsx_theme.proofs.color_scheme.read_slots.Given as goal

abbrev pub invariant-slots : goal.invariant-slots
invariant-slots g l =
    let old = l.fn.xml in
    let now = l.xml in
    KeepsList is_slot slot_said l.base [] l.colors.items old now

abbrev pub decreases-slots : goal.decreases-slots
decreases-slots g l = l.xml.source.left
