use Rattle.std.proofs.Common.{◌<◌, arith}
use Rattle.cell_styles.specs.StyleRuns.{end_along}
use Rattle.cell_styles.proofs.RunSteps.{begins_before_end}
use Rattle.cell_styles.proofs.style_cells.StyleRangeCellsIterator.next.Goals as goal

pub position_in-row-requires-clause-within : goal.position_in-row-requires-clause-within
position_in-row-requires-clause-within c =
    let begins : c.self.inside.place < end_along c.self.inside.place c.self.inside.runs.now =
    begins_before_end c.self.inside.place c.self.inside.runs.now c.in_ok-run.run'.now
    c.self.invariant.canonical c.in_ok-run.ensures.value in
    omega (arith, begins, c.self.invariant.within)
