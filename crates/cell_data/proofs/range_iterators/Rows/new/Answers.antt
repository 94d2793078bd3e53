use Rattle.std.proofs.Common.{refl}
use Rattle.cell_data.proofs.CellSteps.{all_at}
use Rattle.cell_data.proofs.range_iterators.Rows.new.Goals as goal

pub invariant_of-result : goal.invariant_of-result
invariant_of-result g c = record {
  from =
      rw c.used.ensures.cells
      (all_at c.args.range.now 0 0 refl refl
      (record { rising = c.used.ensures.rising; sheet = c.used.ensures.sheet })
      c.used.ensures.from c.used.ensures.inside);
}
