use Rattle.std.proofs.Common.{◌≡◌, ◌+◌, length, ap, ◌∙◌, arith}
use Rattle.cell_styles.specs.StyleRuns.{end_along, numbers_along}
use Rattle.cell_styles.proofs.RunLists.{end_is}
use Rattle.cell_styles.proofs.style_runs.StyleRuns.len.Goals as goal

pub returns : goal.returns
returns c =
    let runs = c.self.inside.runs.items in
    let view : numbers_along 0 runs ≡ c.args.self.now = c.self.view_is in
    let e : end_along 0 runs ≡ 0 + length (numbers_along 0 runs) = end_is 0 runs c.self.invariant in
    let answer : c.end_of.result ≡ end_along 0 runs =
    c.end_of.ensures ∙ ap (end_along 0) c.deref.ensures.value in
    omega (arith, ap length view, answer, e)
