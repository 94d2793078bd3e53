-- What is known of all sorted cells.
use Rattle.std.proofs.Common.{◌≡◌, true}
use Rattle.cell_refs.specs.Words.{is_rising}
use Rattle.sorted_cells.specs.Kept.{kept_cells}
use Rattle.sorted_cells.specs.declared.sorted.SortedCells.{SortedCells}

-- they are in the order of positions
pub kept_rises : {X : Type 0} (sorted : SortedCells X) → is_rising (kept_cells sorted) ≡ true
kept_rises sorted = sorted.rising
