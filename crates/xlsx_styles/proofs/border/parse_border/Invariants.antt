use Rattle.xlsx_sections.proofs.ElementsSaid.{KeepsElementsSaid}
use Rattle.xlsx_sections.proofs.StartsSaid.{changes_behind}
use Rattle.xlsx_styles.specs.Borders.{border_change, border_of, is_side}
use Rattle.xlsx_styles.proofs.border.parse_border.Given as goal

abbrev pub invariant-sides : goal.invariant-sides
invariant-sides g l =
    let old = l.fn.xml in
    let now = l.xml in
    KeepsElementsSaid is_side
    (changes_behind (border_change l.theme_colors l.diagonal_down l.diagonal_up))
    (border_of l.theme_colors l.diagonal_down l.diagonal_up) l.base l.borders old now

abbrev pub decreases-sides : goal.decreases-sides
decreases-sides g l = l.xml.source.left
