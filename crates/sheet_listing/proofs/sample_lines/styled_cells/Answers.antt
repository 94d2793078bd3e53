use Rattle.std.proofs.Common.{subst}
use Rattle.cell_styles.specs.Words.{RiseOnSheet}
use Rattle.sorted_cells.specs.Words.{kept_cells}
use Rattle.sheet_listing.specs.SheetListing.{placed_ids}
use Rattle.sheet_listing.proofs.SheetListingLemmas.{styled_after}
use Rattle.sheet_listing.proofs.sample_lines.styled_cells.Goals as goal

pub push-requires : goal.push-requires
push-requires c =
    let rise = subst RiseOnSheet c.styled-row-items.ensures.cells
    c.styled-row-items.ensures.order in
    styled_after (kept_cells c.loop-row.cells) (c.in-Some.row, c.in-Some.column, c.in-Some.id)
    c.loop-row.row-iterator c.next.new.self (placed_ids c.args.styles.now)
    c.in-Some.ensures.steps c.loop-row.invariant rise.rising
