use Rattle.std.proofs.Common.{◌≡◌, ◌+◌, ◌≤◌, length}
use Rattle.std.specs.Str.{IsUtf8}
use Rattle.cell_refs.specs.A1.{parts, corners}
use Rattle.cell_refs.specs.Dimensions.{corner_count}
use Rattle.cell_refs.proofs.Parts.{counted_behind}
use Rattle.cell_refs.proofs.dimensions.count_parts.Given as goal

abbrev pub invariant-loop-part : goal.invariant-loop-part
invariant-loop-part l = record {
  is_text : IsUtf8 l.rest;
  counted : corner_count (corners (parts l.dimension))
      ≡ counted_behind l.before (corner_count (corners (parts l.rest)));
  small : l.before + length l.rest ≤ length l.dimension;
}

abbrev pub decreases-loop-part : goal.decreases-loop-part
decreases-loop-part l = length l.rest
