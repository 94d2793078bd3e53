use Rattle.std.proofs.Common.{◌≡◌, ◌≤◌, List, true}
use Rattle.xlsx_sections.specs.Words.{KeepsElements}
use Rattle.xlsx_formulas.specs.Words.{FormulaText}
use Rattle.xlsx_cells.specs.Marks.{Mark, is_cell_start}
use Rattle.xlsx_cells.specs.Stream.{stream, IsGoing, StandsBehind}
use Rattle.xlsx_cells.proofs.Unstyled.{HasSkipped}
use Rattle.xlsx_cells.proofs.sheet_cursor.SheetCursor.next_styled.Given as goal

abbrev pub invariant-cells : goal.invariant-cells
invariant-cells g l =
    let old = stream l.fn.xml l.fn.self in
    let now = stream l.xml l.self in
    record {
      base : now.base ≡ old.base;
      further : old.reading.at ≤ now.reading.at;
      keeps : KeepsElements is_cell_start old.base old.reading now.reading;
      first : IsGoing old;
      going : IsGoing now;
      skipped : old.reading.source.is_visible ≡ true →
          (before : List Mark) (earlier : List FormulaText) → StandsBehind before earlier old →
          HasSkipped l.style_count before earlier old now;
    }

abbrev pub decreases-cells : goal.decreases-cells
decreases-cells g l = l.xml.source.left
