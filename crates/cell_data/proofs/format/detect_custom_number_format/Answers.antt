use Rattle.std.proofs.Common.{◌∙◌}
use Rattle.cell_data.specs.NumberFormat.{custom_format}
use Rattle.cell_data.proofs.Formats.{told, left_says, left_shorter, nothing_says}
use Rattle.cell_data.proofs.format.detect_custom_number_format.Goals as goal

pub returns-in-Break : goal.returns-in-Break
unfolding custom_format
returns-in-Break c =
    told _ _ _ _ c.in-Some.ensures.cases.0 c.in-Break.ensures ∙ c.loop-first.invariant

pub loop-first-smaller : goal.loop-first-smaller
loop-first-smaller c = left_shorter _ _ _ _ c.in-Some.ensures.cases.0 c.in-Continue.ensures

pub loop-first-preserved : goal.loop-first-preserved
loop-first-preserved c =
    left_says _ _ _ _ c.in-Some.ensures.cases.0 c.in-Continue.ensures ∙ c.loop-first.invariant

pub returns : goal.returns
unfolding custom_format
returns c = nothing_says c.loop-first.rest.now c.in_default.ensures.cases ∙ c.loop-first.invariant
