use Rattle.std.proofs.Common.{◌≡◌, List, true}
use Rattle.part_events.specs.Words.{SameAhead}
use Rattle.xlsx_sections.specs.Words.{KeepsSection}
use Rattle.xlsx_cells.specs.Counting.{AreKept}
use Rattle.xlsx_cells.specs.Marks.{Mark, is_cell_start}
use Rattle.xlsx_cells.proofs.Passing.{HasPassed}
use Rattle.xlsx_cells.proofs.finding.find_cell.Given as goal

abbrev pub invariant-events : goal.invariant-events
invariant-events g l =
    let old = l.fn.xml in
    let now = l.xml in
    record {
      section : KeepsSection l.base old now;
      same : old.source.is_visible ≡ true → SameAhead is_cell_start l.base old now;
      passed : old.source.is_visible ≡ true → (before : List Mark) → AreKept before l.fn.counters
          → HasPassed before l.base old now l.counters;
    }

abbrev pub decreases-events : goal.decreases-events
decreases-events g l = l.xml.source.left
