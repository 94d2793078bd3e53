use Rattle.std.proofs.Common.{◌≡◌, ◌++◌, length, string_bytes}
use Rattle.std.specs.Str.{IsUtf8}
use Rattle.escaped_text.specs.Escaped.{escaped, AddsBehind}
use Rattle.escaped_text.proofs.escaping.push_pieces.Given as goal

abbrev pub invariant-pieces : goal.invariant-pieces
invariant-pieces l =
    IsUtf8 l.rest
    × AddsBehind (string_bytes l.fn.out) (string_bytes l.out)
    × (string_bytes l.out ++ escaped l.rest ≡ string_bytes l.fn.out ++ escaped l.text)

abbrev pub decreases-pieces : goal.decreases-pieces
decreases-pieces l = length l.rest
