use Rattle.std.proofs.Common.{◌≡◌, ◌++◌, length, IsUtf8}
use Rattle.std.specs.Prelude.{string_bytes}
use Rattle.attr_text.specs.Text.{unescaped}
use Rattle.attr_text.proofs.escapes.unescape_hex.Given as goal

abbrev pub invariant-loop-at : goal.invariant-loop-at
invariant-loop-at l = record {
  written : unescaped l.text ≡ string_bytes l.out ++ unescaped l.rest;
  utf8 : IsUtf8 l.rest;
}

abbrev pub decreases-loop-at : goal.decreases-loop-at
decreases-loop-at l = length l.rest
