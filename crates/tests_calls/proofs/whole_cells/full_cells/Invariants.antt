use Rattle.std.proofs.Common.{◌≡◌}
use Rattle.part_events.specs.Words.{SameParts}
use Rattle.xlsx_cells.specs.Words.{stream, IsStreaming}
use Rattle.tests_calls.proofs.whole_cells.full_cells.Given as goal

abbrev pub invariant-cells : goal.invariant-cells
invariant-cells g l =
    let now = stream l.xml l.sheet in
    record {
      streaming : IsStreaming now;
      parts : SameParts l.fn.xml.source now.reading.source;
      faults : now.reading.source.faults ≡ l.fn.xml.source.faults;
    }

abbrev pub decreases-cells : goal.decreases-cells
decreases-cells g l = l.xml.source.left
