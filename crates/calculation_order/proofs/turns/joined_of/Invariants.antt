use Rattle.std.proofs.Common.{◌≡◌, drop}
use Rattle.calculation_order.specs.Turns.{joined, joined_of, turn_at, turn_of_none}
use Rattle.calculation_order.proofs.turns.joined_of.Given as goal

abbrev pub invariant-loop-number : goal.invariant-loop-number
invariant-loop-number l = record {
  all : joined l.waiting l.turn (joined_of l.waiting l.most (turn_at l.most l.turns)
      (drop l.number-index l.numbers))
      ≡ joined_of l.waiting l.most (turn_at l.most l.turns) l.numbers;
  kept : joined l.waiting l.turn (turn_of_none l.waiting l.most) ≡ l.turn;
}
