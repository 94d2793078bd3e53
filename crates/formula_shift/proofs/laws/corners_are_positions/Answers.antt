use Rattle.std.proofs.Common.{refl}
use Rattle.formula_shift.proofs.Positions.{corner-corner_of}
use Rattle.formula_shift.proofs.laws.corners_are_positions.Goals as goal

pub returns : goal.returns
returns c = record {
  read = corner-corner_of;
  cell = λ row column. refl;
  row = λ row. refl;
  column = λ column. refl;
}
