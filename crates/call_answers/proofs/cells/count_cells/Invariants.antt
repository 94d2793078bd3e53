use Rattle.std.proofs.Common.{◌≡◌}
use Rattle.part_events.specs.Words.{SameParts}
use Rattle.xlsx_cells.specs.Words.{stream_by, reference_of, IsStreaming}
use Rattle.call_answers.proofs.cells.count_cells.Given as goal

abbrev pub invariant-cells : goal.invariant-cells
invariant-cells g l =
    let stream = stream_by l.reader in
    record {
      hold : reference_of l.reader ≡ reference_of l.initial.reader;
      streaming : IsStreaming stream;
      parts : SameParts l.fn.xml.source stream.reading.source;
      faults : stream.reading.source.faults ≡ l.fn.xml.source.faults;
    }

abbrev pub decreases-cells : goal.decreases-cells
decreases-cells g l = (stream_by l.reader).reading.source.left
