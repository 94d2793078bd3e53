use Rattle.std.proofs.Common.{◌<◌, ◌^◌, ℕ, subst, sym}
use Rattle.std.proofs.lemmas.List.{length-map}
use Rattle.cell_data.specs.Range.{bounds_of, cells_of, start_of}
use Rattle.cell_data.specs.RangeItems.{used_item}
use Rattle.cell_data.proofs.range_iterators.UsedCells.new.Goals as goal

pub returns-clause-fits : goal.returns-clause-fits
returns-clause-fits g c =
    subst (λ (count : ℕ). count < 2 ^ 64)
    (sym (length-map (cells_of c.args.range.now)
    (used_item (start_of (bounds_of c.args.range.now))))) c.used.ensures.fits
