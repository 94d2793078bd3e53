use Rattle.xlsx_sections.proofs.StartsSaid.{KeepsSaid}
use Rattle.xlsx_theme.specs.ColorScheme.{is_color_model, slot_color}
use Rattle.xlsx_theme.proofs.SchemeRead.{colors_behind}
use Rattle.xlsx_theme.proofs.slot.read_slot.Given as goal

abbrev pub invariant-models : goal.invariant-models
invariant-models g l =
    let old = l.fn.xml in
    let now = l.xml in
    KeepsSaid is_color_model colors_behind slot_color l.base l.color old now

abbrev pub decreases-models : goal.decreases-models
decreases-models g l = l.xml.source.left
