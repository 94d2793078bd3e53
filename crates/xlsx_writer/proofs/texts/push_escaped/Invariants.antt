use Rattle.std.proofs.Common.{◌≡◌, ◌++◌, length, string_bytes}
use denote.Text.{Utf8}
use denote.Shadow.{shadow}
use Rattle.xlsx_writer.specs.Escaping.{escaped_by}
use Rattle.xlsx_writer.proofs.texts.push_escaped.Given as goal

abbrev pub invariant-runs : goal.invariant-runs
invariant-runs l =
    shadow (Utf8 l.rest)
    × (string_bytes l.out ++ escaped_by l.escaping l.rest
    ≡ string_bytes l.fn.out ++ escaped_by l.escaping l.text)

abbrev pub decreases-runs : goal.decreases-runs
decreases-runs l = length l.rest
