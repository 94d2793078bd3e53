use Rattle.std.proofs.Common.{◌≡◌, ap}
use Rattle.cell_styles.proofs.Grouping.{group_bound}
use Rattle.cell_styles.proofs.style_range.StyleRange.run_count.Goals as goal

pub returns-clause-bound : goal.returns-clause-bound
returns-clause-bound c =
    let view : c.self.inside.ids ≡ c.args.self.now.ids = ap (λ styles. styles.ids) c.self.view_is in
    rw (c.count.ensures, view) (group_bound c.args.self.now.ids)
