use Rattle.file_reads_back.proofs.SheetsResaved.{resaved_read}
use Rattle.file_reads_back.proofs.laws.resaved_files_are_read_back.Goals as goal

pub returns : goal.returns
returns c = resaved_read c.written_files_are_read_back.ensures
