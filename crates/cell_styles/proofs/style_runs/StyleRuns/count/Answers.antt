use Rattle.std.proofs.Common.{◌≡◌, length, ap, arith}
use Rattle.cell_styles.specs.Groups.{group_count}
use Rattle.cell_styles.specs.StyleRuns.{numbers_along}
use Rattle.cell_styles.proofs.RunLists.{groups_are_runs}
use Rattle.cell_styles.proofs.style_runs.StyleRuns.count.Goals as goal

pub returns : goal.returns
returns c =
    let runs = c.self.inside.runs.items in
    let view : numbers_along 0 runs ≡ c.args.self.now = c.self.view_is in
    let groups : group_count (numbers_along 0 runs) ≡ length runs =
    groups_are_runs 0 runs c.self.invariant in
    omega (arith, ap group_count view, groups, c.len.ensures)
