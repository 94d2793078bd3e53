use Rattle.std.proofs.Common.{◌≡◌, length}
use Rattle.formula_shift.specs.Words.{pieces_left}
use Rattle.xlsx_check.specs.TokenView.{unsigned_left}
use Rattle.xlsx_check.proofs.tokens.Tokens.next_unsigned.Given as goal

abbrev pub invariant-pieces : goal.invariant-pieces
invariant-pieces l = record {
  left : unsigned_left l.self ≡ unsigned_left l.fn.self;
  sign : l.self.behind_operand ≡ l.fn.self.behind_operand;
}

abbrev pub decreases-pieces : goal.decreases-pieces
decreases-pieces l = length (pieces_left l.self.pieces)
