use Rattle.std.proofs.Common.{◌≡◌, ◌++◌, map, length}
use Rattle.std.specs.List.{slice_split}
use Rattle.format_codes.specs.Pieces.{is_divider}
use Rattle.format_codes.proofs.shown_format.divided.Given as goal

abbrev pub invariant-loop-sections : goal.invariant-loop-sections
invariant-loop-sections l =
    map (λ s. s.items) l.sections.items ++ slice_split is_divider l.rest
    ≡ slice_split is_divider l.fn.pieces

abbrev pub decreases-loop-sections : goal.decreases-loop-sections
decreases-loop-sections l = length l.rest
