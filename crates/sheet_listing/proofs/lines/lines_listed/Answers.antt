use Rattle.std.proofs.Common.{◌≡◌, ◌∙◌, ◌++◌, List, ap, map, sym}
use Rattle.cell_data.specs.Words.{cells_of}
use Rattle.cell_styles.specs.Words.{styled_entry, id_among, style_named, StyledCell}
use Rattle.sorted_cells.specs.Words.{placed_left}
use Rattle.sheet_listing.specs.SheetListing.{cell_values, cell_formulas, ids_left, placed_ids}
use Rattle.sheet_listing.specs.CellObjects.{lines_in}
use Rattle.sheet_listing.proofs.SheetListingLemmas.{by_ids, styled_order}
use Rattle.sheet_listing.proofs.lines.lines_listed.Goals as goal

pub push_lines-requires-clause-ids : goal.push_lines-requires-clause-ids
push_lines-requires-clause-ids c = styled_order _ _ c.new-ids.ensures c.styled.ensures.order

pub returns : goal.returns
returns c =
    let styles = c.args.styles.now in
    let by = style_named styles in
    let ids : ids_left c.new-ids.result ≡ placed_ids styles =
    c.new-ids.ensures ∙ ap (map styled_entry) c.styled.ensures.cells in
    c.in_ok-push_lines.ensures
    ∙ ap (λ front. front ++ lines_in c.args.form by (cell_values (placed_left c.used.result))
    (cell_formulas (placed_left c.used-2.result)) (ids_left c.new-ids.result))
    c.new-out.ensures.bytes
    ∙ (λ i. lines_in c.args.form by (cell_values (c.used.ensures.cells i))
    (cell_formulas (c.used-2.ensures.cells i)) (ids i))
    ∙ by_ids c.args.form styles (cell_values (cells_of c.args.values.now))
    (cell_formulas (cells_of c.args.formulas.now)) (placed_ids styles)
    (λ position. ap (λ (cells : List StyledCell). style_named styles position
    (id_among cells position)) (sym c.styled.ensures.cells)
    ∙ c.styled.ensures.ids position)
