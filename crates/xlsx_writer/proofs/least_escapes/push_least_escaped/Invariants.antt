use Rattle.std.proofs.Common.{◌≡◌, ◌++◌, length, string_bytes}
use denote.Text.{Utf8}
use denote.Shadow.{shadow}
use Rattle.written_markup.specs.Words.{least_escaped}
use Rattle.xlsx_writer.proofs.least_escapes.push_least_escaped.Given as goal

abbrev pub invariant-runs : goal.invariant-runs
invariant-runs l =
    shadow (Utf8 l.rest)
    × (string_bytes l.out ++ least_escaped l.rest
    ≡ string_bytes l.fn.out ++ least_escaped l.text)

abbrev pub decreases-runs : goal.decreases-runs
decreases-runs l = length l.rest
