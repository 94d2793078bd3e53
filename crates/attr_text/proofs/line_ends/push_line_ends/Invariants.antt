use Rattle.std.proofs.Common.{◌≡◌, ◌+◌, ◌≤◌, ◌++◌, length, IsUtf8}
use Rattle.std.specs.Prelude.{string_bytes}
use Rattle.std.specs.String.{string_len, string_capacity}
use Rattle.attr_text.specs.Text.{line_ends}
use Rattle.attr_text.proofs.line_ends.push_line_ends.Given as goal

abbrev pub invariant-loop-run : goal.invariant-loop-run
invariant-loop-run l = record {
  written : string_bytes l.out ++ line_ends l.rest ≡ string_bytes l.fn.out ++ line_ends l.text;
  room : string_len l.out + length l.rest ≤ string_capacity l.out;
  capacity : string_capacity l.fn.out ≤ string_capacity l.out;
  utf8 : IsUtf8 l.rest;
}

abbrev pub decreases-loop-run : goal.decreases-loop-run
decreases-loop-run l = length l.rest
