use Rattle.xlsx_stylesheet.proofs.StyleListsRead.{KeepsLists}
use Rattle.xlsx_stylesheet.proofs.style_lists.lists_in.Given as goal

abbrev pub invariant-lists : goal.invariant-lists
invariant-lists g l =
    let old = l.fn.xml in
    let now = l.xml in
    KeepsLists l.theme_colors l.base l.lists old now

abbrev pub decreases-lists : goal.decreases-lists
decreases-lists g l = l.xml.source.left
