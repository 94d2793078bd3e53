use Rattle.std.proofs.Common.{◌≡◌, ◌≤◌, true, take}
use Rattle.std.specs.Char.{is_ascii_digit}
use Rattle.std.specs.List.{list_all}
use Rattle.std.specs.Str.Parse.{digits_value}
use Rattle.cell_refs.specs.declared.TheConstants.{MAX_ROWS}
use Rattle.formula_shift.proofs.corner.row_of_digits.Given as goal

abbrev pub invariant-loop-b : goal.invariant-loop-b
invariant-loop-b l =
    record {
      value : l.number ≡ digits_value 10 (take l.b-index l.digits);
      digits : list_all is_ascii_digit (take l.b-index l.digits) ≡ true;
      small : l.number ≤ MAX_ROWS;
    }
