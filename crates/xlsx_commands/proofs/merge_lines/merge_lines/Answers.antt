use Rattle.xlsx_core.specs.Words.{events_at}
use Rattle.xlsx_commands.proofs.AreasInside.{merges_lie_inside}
use Rattle.xlsx_commands.proofs.merge_lines.merge_lines.Goals as goal

pub lines_of_areas-requires : goal.lines_of_areas-requires
lines_of_areas-requires c =
    let has = c.in_ok-areas.ensures.ok in
    rw c.deref.ensures.value
    (merges_lie_inside (events_at has.0 c.args.package.parts) c.in_ok-areas.areas.items has.2)
