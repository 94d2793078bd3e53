use Rattle.std.proofs.Common.{◌-◌}
use Rattle.cell_styles.proofs.RunSearch.{IsSearched}
use Rattle.cell_styles.proofs.style_runs.found_id.Given as goal

abbrev pub invariant-loop-low : goal.invariant-loop-low
invariant-loop-low g l = IsSearched l.runs l.place l.initial.steps l.steps l.low l.high

abbrev pub decreases-loop-low : goal.decreases-loop-low
decreases-loop-low g l = l.high - l.low
