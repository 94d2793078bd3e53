use Rattle.round_trip.proofs.GroupsRead.{formulas_read_back}
use Rattle.round_trip.proofs.WrittenPositions.{written_rise, formulas_among}
use Rattle.xlsx_writer.specs.Words.{written_positions}
use Rattle.round_trip.proofs.groups.groups_read_back.Goals as goal

pub returns : goal.returns
returns c form values formulas rising writable =
    formulas_read_back form formulas (written_positions values formulas) rising
    (written_rise values formulas) (formulas_among values formulas) writable
