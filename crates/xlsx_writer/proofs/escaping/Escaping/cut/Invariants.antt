use Rattle.std.proofs.Common.{◌≡◌, take, false}
use Rattle.xlsx_writer.specs.Escaping.{has_escape}
use Rattle.xlsx_writer.proofs.escaping.Escaping.cut.Given as goal

abbrev pub invariant-loop-place : goal.invariant-loop-place
invariant-loop-place l = has_escape l.self (take l.place l.text) ≡ false
