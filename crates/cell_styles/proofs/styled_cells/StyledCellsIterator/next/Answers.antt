use Rattle.std.proofs.Common.{◌<◌, arith}
use Rattle.cell_styles.specs.StyleRuns.{end_along}
use Rattle.cell_styles.proofs.RunSteps.{begins_before_end}
use Rattle.cell_styles.proofs.styled_cells.StyledCellsIterator.next.Goals as goal

pub position_in-row-requires-clause-within : goal.position_in-row-requires-clause-within
position_in-row-requires-clause-within c =
    let place = c.behind_blank-place.result.0 in
    let runs = c.behind_blank-place.result.1.now in
    let passed = c.behind_blank-place.ensures in
    let begins : place < end_along place runs =
    begins_before_end place runs c.in_ok-id.field-0.now passed.canonical c.in_ok-id.ensures.value in
    omega (arith, begins, passed.ends, c.self.invariant.within)
