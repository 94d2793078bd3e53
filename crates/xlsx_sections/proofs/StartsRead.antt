-- How an element is read start by start, to its end.
use Rattle.std.proofs.Common.{ℕ, ◌≤◌, length, refl}
use Rattle.part_events.specs.Words.{Reading, IsReading}
use Rattle.part_events.proofs.Onward.{reads_nothing}
use Rattle.xlsx_sections.specs.Elements.{KeepsStarts}

pub starts_none : (base : ℕ) (first : Reading) → IsReading first → base ≤ length first.names
    → KeepsStarts base first first
starts_none base first is within = record {
  section = record {
    reads = reads_nothing first is;
    within = within;
    closed = λ _. refl;
    last = λ _. refl;
  };
  behind = λ _. refl;
}
