use Rattle.std.proofs.Common.{◌/◌, ◌%◌}
use Rattle.std.proofs.Math.Nat.{zero-div, zero-mod}
use Rattle.cell_data.specs.Range.{bounds_of, width_of}
use Rattle.cell_data.proofs.CellSteps.{all_at}
use Rattle.cell_data.proofs.range_iterators.Cells.new.Goals as goal

pub invariant_of-result : goal.invariant_of-result
invariant_of-result g c =
    let range = c.args.range.now in
    let width = width_of (bounds_of range) in record {
      from =
          rw c.used.ensures.cells
          (all_at range (0 / width) (0 % width) (zero-div width) (zero-mod width)
          (record { rising = c.used.ensures.rising; sheet = c.used.ensures.sheet })
          c.used.ensures.from c.used.ensures.inside);
    }
