use Rattle.std.proofs.Common.{◌≡◌, ℕ, ◌<◌, min, true, get_or, take, map}
use Rattle.std.specs.Char.{is_ascii_alphabetic}
use Rattle.std.specs.Int.Digits.{number_from_digits}
use Rattle.cell_refs.specs.A1.{letter_value}
use Rattle.cell_refs.proofs.position.leading_column.Given as goal

abbrev pub invariant-loop-i : goal.invariant-loop-i
invariant-loop-i l = record {
  letters : (k : ℕ) → k < l.i → is_ascii_alphabetic (get_or l.text k 0) ≡ true;
  number : l.number ≡ min (number_from_digits 26 (take l.i (map letter_value l.text))) 16385;
}
