use Rattle.std.proofs.Common.{◌≡◌, length}
use Rattle.xlsx_areas.specs.Regions.{regions_left}
use Rattle.xlsx_areas.proofs.regions.MergedRegionsIterator.next.Given as goal

abbrev pub invariant-regions : goal.invariant-regions
invariant-regions l = record {
  left : regions_left l.self ≡ regions_left l.fn.self;
  name : l.self.name ≡ l.fn.self.name;
}

abbrev pub decreases-regions : goal.decreases-regions
decreases-regions l = length l.self.left.now
