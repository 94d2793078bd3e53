use Rattle.std.proofs.Common.{◌∙◌, ap, Some}
use Rattle.cell_refs.specs.declared.dimensions.Dimensions.{Dimensions}
use Rattle.cell_refs.specs.Words.{lie_inside, is_in_area}
use Rattle.sorted_cells.specs.Words.{kept_cells}
use Rattle.cell_data.proofs.Areas.{area_on_sheet, filter_all}
use Rattle.cell_data.proofs.range.Range.range.Goals as goal

pub invariant_of-result : goal.invariant_of-result
invariant_of-result g c =
    let area : Dimensions = record { start = c.args.start; end = c.args.end } in
    record {
      inside = ap (lie_inside (Some area)) c.keep_area.ensures
          ∙ filter_all (is_in_area area) (kept_cells c.args.self.cells);
      limits = area_on_sheet area c.requires.rows c.requires.columns c.requires.in_rows
          c.requires.in_columns;
    }
