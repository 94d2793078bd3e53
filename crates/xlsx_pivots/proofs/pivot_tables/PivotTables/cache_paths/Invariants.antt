use Rattle.std.proofs.Common.{◌≡◌, map, length}
use Rattle.xlsx_pivots.specs.PivotTables.{pivot_kept, pivots_kept, paths_of}
use Rattle.xlsx_pivots.proofs.pivot_tables.PivotTables.cache_paths.Given as goal

abbrev pub invariant-pivots : goal.invariant-pivots
invariant-pivots l =
    paths_of (map pivot_kept l.left) l.sheet_name l.pivot_table_name
    ≡ paths_of (pivots_kept l.self) l.sheet_name l.pivot_table_name

abbrev pub decreases-pivots : goal.decreases-pivots
decreases-pivots l = length l.left
