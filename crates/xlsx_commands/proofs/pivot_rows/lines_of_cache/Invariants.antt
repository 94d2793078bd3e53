use Rattle.std.proofs.Common.{◌≡◌, ◌++◌, true, List, Some, string_bytes}
use Rattle.std.specs.Prelude.{option_map}
use Rattle.cell_data.specs.Words.{CellValue}
use Rattle.part_events.specs.Words.{part_of, events_of}
use Rattle.xlsx_pivot_cache.specs.Words.{fields_at, cache_rows, pivot_rows, IsAtRecords}
use Rattle.xlsx_pivot_cache.specs.Words.{cache_rows_left}
use Rattle.xlsx_commands.specs.CacheRows.{row_lines}
use Rattle.xlsx_commands.proofs.pivot_rows.lines_of_cache.Given as goal

abbrev pub invariant-rows : goal.invariant-rows
invariant-rows l =
    let now = pivot_rows l.xml l.cursor in
    let parts = l.fn.package.parts in
    record {
      told : l.xml.source.is_visible ≡ true;
      at : IsAtRecords now;
      fields : fields_at parts l.definitions ≡ Some now.fields;
      part : part_of parts l.records ≡ Some (events_of now.reading);
      rows :
          (taken : List (List CellValue)) × (string_bytes l.out ≡ row_lines taken)
          × (cache_rows parts l.definitions l.records
          ≡ option_map (λ (rest : List (List CellValue)). taken ++ rest) (cache_rows_left now));
    }

abbrev pub decreases-rows : goal.decreases-rows
decreases-rows l = l.xml.source.left
