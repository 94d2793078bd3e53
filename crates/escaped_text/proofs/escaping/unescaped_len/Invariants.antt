use Rattle.std.proofs.Common.{◌≡◌, ◌+◌, drop}
use Rattle.std.specs.List.{prefix_len}
use Rattle.escaped_text.specs.Escaped.{is_unescaped}
use Rattle.escaped_text.proofs.escaping.unescaped_len.Given as goal

abbrev pub invariant-loop-place : goal.invariant-loop-place
invariant-loop-place l =
    l.place + prefix_len is_unescaped (drop l.place l.bytes) ≡ prefix_len is_unescaped l.bytes
