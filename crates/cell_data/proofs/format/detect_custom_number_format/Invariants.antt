use Rattle.std.proofs.Common.{◌≡◌, length}
use Rattle.cell_data.specs.NumberFormat.{format_with_fuel}
use Rattle.cell_data.proofs.format.detect_custom_number_format.Given as goal

abbrev pub invariant-loop-first : goal.invariant-loop-first
invariant-loop-first l =
    format_with_fuel (length l.rest) l.rest ≡ format_with_fuel (length l.fn.format) l.fn.format

abbrev pub decreases-loop-first : goal.decreases-loop-first
decreases-loop-first l = length l.rest
