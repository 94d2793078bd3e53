use Rattle.std.proofs.Common.{◌≡◌, ◌++◌, length, string_bytes}
use Rattle.escaped_text.specs.Escaped.{AddsBehind}
use Rattle.shown_text.specs.Digits.{surplus}
use Rattle.shown_text.specs.GivenDigits.{digits_in}
use Rattle.shown_text.proofs.digits.push_surplus.Given as goal

abbrev pub invariant-loop-left : goal.invariant-loop-left
invariant-loop-left l = record {
  text : string_bytes l.out ++ surplus l.grouped (digits_in l.digits) l.places l.left
      ≡ string_bytes l.initial.out
      ++ surplus l.grouped (digits_in l.digits) l.places (length (digits_in l.digits));
  extends : AddsBehind (string_bytes l.initial.out) (string_bytes l.out);
}

abbrev pub decreases-loop-left : goal.decreases-loop-left
decreases-loop-left l = l.left
