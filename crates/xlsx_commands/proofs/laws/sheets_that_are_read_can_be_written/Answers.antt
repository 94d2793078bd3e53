use Rattle.xlsx_commands.proofs.ReadsWritable.{reads_writable, found_writable}
use Rattle.xlsx_commands.proofs.laws.sheets_that_are_read_can_be_written.Goals as goal

pub returns-clause-pairs : goal.returns-clause-pairs
returns-clause-pairs c parts name values formulas styles reads = reads_writable reads

pub returns-clause-ranges : goal.returns-clause-ranges
returns-clause-ranges c = found_writable
