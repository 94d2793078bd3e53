use Rattle.xlsx_cells.proofs.WholeReadings.{same_readings}
use Rattle.xlsx_cells.proofs.laws.readings_have_the_same_values.Goals as goal

pub returns : goal.returns
returns c = same_readings
