use Rattle.std.proofs.Common.{◌≡◌, length}
use denote.Text.{Utf8}
use denote.Shadow.{shadow}
use Rattle.written_markup.specs.Words.{with_events, text_events}
use Rattle.xlsx_writer.proofs.texts.push_text.Given as goal

abbrev pub invariant-runs : goal.invariant-runs
invariant-runs l =
    shadow (Utf8 l.rest)
    × (with_events l.builder (text_events l.rest) ≡ with_events l.fn.builder (text_events l.text))

abbrev pub decreases-runs : goal.decreases-runs
decreases-runs l = length l.rest
