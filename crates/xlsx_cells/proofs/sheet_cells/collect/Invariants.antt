use Rattle.std.proofs.Common.{◌≡◌, true}
use Rattle.std.specs.Prelude.{All}
use Rattle.cell_data.specs.Words.{AreInSheet, cells_gathered}
use Rattle.cell_styles.specs.Words.{IsOnSheet}
use Rattle.xlsx_sections.specs.Words.{KeepsElements}
use Rattle.xlsx_values.specs.Words.{context_of}
use Rattle.xlsx_cells.specs.Marks.{is_cell_start}
use Rattle.xlsx_cells.specs.SheetPart.{value_entries, formula_entries, LackUnwanted}
use Rattle.xlsx_cells.specs.Stream.{stream, IsGoing}
use Rattle.xlsx_cells.proofs.Collecting.{HasCollected}
use Rattle.xlsx_cells.proofs.sheet_cells.collect.Given as goal

abbrev pub invariant-cells : goal.invariant-cells
invariant-cells g l =
    let old = stream l.fn.xml l.fn.sheet in
    let now = stream l.xml l.sheet in
    record {
      base : now.base ≡ old.base;
      keeps : KeepsElements is_cell_start old.base old.reading now.reading;
      going : IsGoing now;
      values_inside : AreInSheet (cells_gathered l.cells.values);
      formulas_inside : AreInSheet (cells_gathered l.cells.formulas);
      ids_inside : All IsOnSheet l.cells.style_ids.items;
      unwanted : LackUnwanted l.asked.wants (cells_gathered l.cells.values)
          (cells_gathered l.cells.formulas) l.cells.style_ids.items;
      collected : old.reading.source.is_visible ≡ true →
          HasCollected l.asked.wants (context_of l.asked.book) l.asked.style_count old now
          (value_entries (cells_gathered l.cells.values))
          (formula_entries (cells_gathered l.cells.formulas)) l.cells.style_ids.items;
    }

abbrev pub decreases-cells : goal.decreases-cells
decreases-cells g l = l.xml.source.left
