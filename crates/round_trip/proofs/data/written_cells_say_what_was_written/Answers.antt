use Rattle.round_trip.proofs.SheetRead.{formulas_of_sheet, ids_of_data}
use Rattle.round_trip.proofs.data.written_cells_say_what_was_written.Goals as goal

pub returns-clause-formulas : goal.returns-clause-formulas
returns-clause-formulas c = formulas_of_sheet

pub returns-clause-styles : goal.returns-clause-styles
returns-clause-styles c = ids_of_data
