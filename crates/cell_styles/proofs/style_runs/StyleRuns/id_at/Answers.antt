use Rattle.std.proofs.Common.{◌≡◌, length, ap, arith}
use Rattle.cell_styles.specs.Groups.{group_count}
use Rattle.cell_styles.specs.StyleRuns.{numbers_along}
use Rattle.cell_styles.proofs.RunLists.{groups_are_runs}
use Rattle.cell_styles.proofs.style_runs.StyleRuns.id_at.Goals as goal

pub returns-clause-cost : goal.returns-clause-cost
returns-clause-cost g c =
    let runs = c.self.inside.runs.items in
    let view : numbers_along 0 runs ≡ c.args.self.now = c.self.view_is in
    let groups : group_count (numbers_along 0 runs) ≡ length runs =
    groups_are_runs 0 runs c.self.invariant in
    let all : length c.deref.result.now ≡ length runs = ap length c.deref.ensures.value in
    omega (arith, ap group_count view, groups, all, c.found_id.ensures.cost)
