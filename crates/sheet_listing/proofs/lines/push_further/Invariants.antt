use Rattle.std.proofs.Common.{◌≡◌, ◌++◌, drop, map, string_bytes}
use Rattle.cell_data.specs.Words.{value_of_data}
use Rattle.sheet_listing.specs.SheetListing.{further_fields}
use Rattle.sheet_listing.proofs.lines.push_further.Given as goal

abbrev pub invariant-loop-value : goal.invariant-loop-value
invariant-loop-value l =
    string_bytes l.out ++ further_fields (map value_of_data (drop l.value-index l.values))
    ≡ string_bytes l.fn.out ++ further_fields (map value_of_data l.values)
