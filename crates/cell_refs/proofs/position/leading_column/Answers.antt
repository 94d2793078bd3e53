use Rattle.std.proofs.Common.{arith, sym, ◌∙◌}
use Rattle.cell_refs.proofs.Scans.{letters_end, letters_value_is}
use Rattle.cell_refs.proofs.position.leading_column.Goals as goal

-- the letters before a byte that is none are all that stand in front
pub returns-then-not-is_ascii_alphabetic-clause-number :
    goal.returns-then-not-is_ascii_alphabetic-clause-number
returns-then-not-is_ascii_alphabetic-clause-number c =
    letters_value_is c.args.text.now c.loop-i.i c.loop-i.number
    (letters_end c.args.text.now c.loop-i.i (omega arith) c.loop-i.invariant.letters
    (λ _. sym c.is_ascii_alphabetic.ensures.value ∙ c.if-not-is_ascii_alphabetic.true))
    c.loop-i.invariant.number
