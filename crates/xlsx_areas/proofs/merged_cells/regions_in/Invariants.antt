use Rattle.std.proofs.Common.{[]}
use Rattle.xlsx_sections.specs.Words.{changed_in, put_behind}
use Rattle.xlsx_sections.proofs.StartsSaid.{KeepsSaid, changes_behind}
use Rattle.xlsx_areas.specs.MergedCells.{is_merge, merge_of}
use Rattle.xlsx_areas.proofs.merged_cells.regions_in.Given as goal

abbrev pub invariant-starts : goal.invariant-starts
invariant-starts g l =
    let old = l.fn.xml in
    let now = l.xml in
    KeepsSaid is_merge (changes_behind (put_behind merge_of))
    (changed_in is_merge (put_behind merge_of) []) 0 l.areas.items old now

abbrev pub decreases-starts : goal.decreases-starts
decreases-starts g l = l.xml.source.left
