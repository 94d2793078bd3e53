use Rattle.std.proofs.Common.{◌≡◌, ◌++◌, List, map}
use Rattle.xlsx_parts.specs.Words.{sheet_at}
use Rattle.xlsx_areas.specs.Regions.{region_in, region_of}
use Rattle.xlsx_areas.specs.declared.regions.MergedRegion.{MergedRegion}
use Rattle.xlsx_areas.proofs.regions.push_regions.Given as goal

abbrev pub invariant-loop-dimensions : goal.invariant-loop-dimensions
invariant-loop-dimensions l = (more : List MergedRegion)
    × (l.regions.items ≡ l.fn.regions.items ++ more)
    × (map region_of l.regions.items
    ≡ map region_of l.fn.regions.items ++ map (region_in (sheet_at l.sheet l.path)) l.yielded)
