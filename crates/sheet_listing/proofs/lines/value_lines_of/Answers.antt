use Rattle.std.proofs.Common.{ap, string_bytes}
use Rattle.std.proofs.lemmas.List.Elements.{All-rest}
use Rattle.cell_data.specs.Words.{value_of_data, IsPlacedInSheet, cells_of}
use Rattle.sorted_cells.specs.Words.{placed_left}
use Rattle.sheet_listing.specs.SheetListing.{cell_values, value_line, value_lines}
use Rattle.sheet_listing.proofs.SheetListingLemmas.{goes_on}
use Rattle.sheet_listing.proofs.lines.value_lines_of.Goals as goal

pub loop-position-preserved : goal.loop-position-preserved
loop-position-preserved c =
    let left = placed_left c.loop-position.position-iterator in
    let rest = placed_left c.next.new.self in
    record {
      printed = goes_on (string_bytes c.loop-position.out) (string_bytes c.push_value_line.new.out)
          (value_line (c.in-Some.position, value_of_data c.in-Some.value.now))
          (value_lines (cell_values rest)) (value_lines (cell_values left))
          (value_lines (cell_values (cells_of c.args.values.now)))
          c.in_ok-push_value_line.ensures
          (ap (λ cells. value_lines (cell_values cells)) c.in-Some.ensures.steps)
          c.loop-position.invariant.printed;
      sheet = All-rest IsPlacedInSheet (c.in-Some.position, c.in-Some.value.now) rest left
          c.in-Some.ensures.steps c.loop-position.invariant.sheet;
    }
