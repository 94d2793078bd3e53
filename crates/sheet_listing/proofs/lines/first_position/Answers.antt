use Rattle.sorted_cells.specs.Words.{placed_left}
use Rattle.sheet_listing.specs.SheetListing.{ids_left}
use Rattle.sheet_listing.proofs.SheetListingLemmas.{first_is_found}
use Rattle.sheet_listing.proofs.lines.first_position.Goals as goal

pub returns : goal.returns
returns c =
    first_is_found (placed_left c.args.values.now) (placed_left c.args.formulas.now)
    (ids_left c.args.ids.now) c.next_position-3.result c.next_position.result
    c.next_position-2.result c.earlier-behind_values.result c.earlier.result
    c.next_position-3.ensures c.next_position.ensures c.next_position-2.ensures
    c.requires.values c.requires.formulas c.requires.ids c.earlier-behind_values.ensures
    c.earlier.ensures
