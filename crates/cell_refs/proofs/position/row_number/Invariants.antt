use Rattle.std.proofs.Common.{◌≡◌, min, take, drop, not}
use Rattle.std.specs.Prelude.{find}
use Rattle.std.specs.Char.{is_ascii_digit}
use Rattle.std.specs.Str.Parse.{digits_value}
use Rattle.cell_refs.proofs.position.row_number.Given as goal

abbrev pub invariant-loop-byte : goal.invariant-loop-byte
invariant-loop-byte l = record {
  no_stray : find (λ b. not (is_ascii_digit b)) (drop l.byte-index l.digits)
      ≡ find (λ b. not (is_ascii_digit b)) l.digits;
  number : l.number ≡ min (digits_value 10 (take l.byte-index l.digits)) 1048577;
}
