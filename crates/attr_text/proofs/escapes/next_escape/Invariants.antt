use Rattle.std.proofs.Common.{◌≡◌, ◌++◌, take, drop}
use Rattle.attr_text.specs.Text.{unescaped}
use Rattle.attr_text.proofs.escapes.next_escape.Given as goal

abbrev pub invariant-loop-i : goal.invariant-loop-i
invariant-loop-i l = unescaped l.bytes ≡ take l.i l.bytes ++ unescaped (drop l.i l.bytes)
