use Rattle.std.proofs.Common.{◌≡◌, ℕ, ◌<◌, map, vec_len}
use Rattle.std.specs.List.{slice_get}
use Rattle.book_names.specs.Numbers.{FindsColumnsOf}
use Rattle.book_names.specs.Told.{table_told}
use Rattle.book_names.proofs.indexed.column_numbers.Given as goal

abbrev pub invariant-loop-table : goal.invariant-loop-table
invariant-loop-table l = record {
  size : vec_len l.found ≡ l.table-index;
  each : (n : ℕ) → n < l.table-index →
      FindsColumnsOf (slice_get l.found.items n) (slice_get (map table_told l.tables) n);
}
