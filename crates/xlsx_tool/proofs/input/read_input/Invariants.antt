use Rattle.std.proofs.Common.{◌≡◌, ◌-◌, length}
use Rattle.input_package.specs.Reading.{longest_input}
use Rattle.xlsx_tool.proofs.InputLemmas.{IsReading}
use Rattle.xlsx_tool.proofs.input.read_input.Given as goal

abbrev pub invariant-pieces : goal.invariant-pieces
invariant-pieces g l =
    IsReading l.bytes.items (g.S.Source.state l.fn.source) (g.S.Source.state l.source)
    × (length l.piece.items ≡ 65536)
    × (l.limit ≡ longest_input l.bytes.items)

abbrev pub decreases-pieces : goal.decreases-pieces
decreases-pieces g l = 268435457 - length l.bytes.items
