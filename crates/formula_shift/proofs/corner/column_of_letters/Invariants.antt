use Rattle.std.proofs.Common.{◌≡◌, ◌≤◌, take}
use Rattle.cell_refs.specs.Words.{letters_value}
use Rattle.cell_refs.specs.declared.TheConstants.{MAX_COLUMNS}
use Rattle.formula_shift.proofs.corner.column_of_letters.Given as goal

abbrev pub invariant-loop-b : goal.invariant-loop-b
invariant-loop-b l =
    record {
      value : l.number ≡ letters_value (take l.b-index l.letters);
      small : l.number ≤ MAX_COLUMNS;
    }
