use Rattle.std.proofs.Common.{◌≡◌, true}
use Rattle.cell_data.specs.Words.{AreInSheet, cells_gathered}
use Rattle.xlsx_sections.specs.Words.{KeepsElements}
use Rattle.xlsx_values.specs.Words.{context_of}
use Rattle.xlsx_cells.specs.Marks.{is_cell_start}
use Rattle.xlsx_cells.specs.Stream.{stream, IsGoing}
use Rattle.xlsx_cells.specs.StyledValues.{styled_entries}
use Rattle.xlsx_cells.proofs.StyledCollected.{HasStyled}
use Rattle.xlsx_cells.proofs.styled_cells.collect_styled.Given as goal

abbrev pub invariant-cells : goal.invariant-cells
invariant-cells g l =
    let old = stream l.fn.xml l.fn.sheet in
    let now = stream l.xml l.sheet in
    record {
      base : now.base ≡ old.base;
      keeps : KeepsElements is_cell_start old.base old.reading now.reading;
      going : IsGoing now;
      inside : AreInSheet (cells_gathered l.cells);
      collected : old.reading.source.is_visible ≡ true →
          HasStyled l.asked.wants (context_of l.asked.book) old now
          (styled_entries (cells_gathered l.cells));
    }

abbrev pub decreases-cells : goal.decreases-cells
decreases-cells g l = l.xml.source.left
