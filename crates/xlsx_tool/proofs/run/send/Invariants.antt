use Rattle.std.proofs.Common.{◌≡◌, ◌++◌, List, ℕ, length, true}
use Rattle.xlsx_tool.proofs.run.send.Given as goal

abbrev pub invariant-pieces : goal.invariant-pieces
invariant-pieces g l =
    let first = g.K.Sink.state l.fn.sink in
    let now = g.K.Sink.state l.sink in
    (now.is_visible ≡ first.is_visible)
    × (now.faults ≡ first.faults)
    × (front : List ℕ) × (l.bytes ≡ front ++ l.rest)
    × (first.is_visible ≡ true → now.written ≡ first.written ++ front)

abbrev pub decreases-pieces : goal.decreases-pieces
decreases-pieces g l = length l.rest
