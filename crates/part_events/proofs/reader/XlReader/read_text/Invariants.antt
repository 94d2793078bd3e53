use Rattle.std.proofs.Common.{◌≡◌, ◌≤◌, length, true, string_bytes}
use Rattle.part_events.specs.JoinedText.{IsFrontOf}
use Rattle.part_events.specs.Reading.{ReadsOn}
use Rattle.part_events.proofs.Texts.{HasRead}
use Rattle.part_events.proofs.reader.XlReader.read_text.Given as goal

abbrev pub invariant-events : goal.invariant-events
invariant-events g l =
    let old = l.fn.self in
    let now = l.self in
    record {
      reads : ReadsOn old now;
      within : l.base ≤ length l.self.names;
      base : l.base ≡ length l.fn.self.names;
      front : IsFrontOf (string_bytes l.fn.out) (string_bytes l.out);
      read : old.source.is_visible ≡ true
          → HasRead l.char_data l.base old now (string_bytes l.fn.out, string_bytes l.out);
    }

abbrev pub decreases-events : goal.decreases-events
decreases-events g l = l.self.source.left
