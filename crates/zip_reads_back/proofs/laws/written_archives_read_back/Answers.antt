use Rattle.zip_reads_back.proofs.ArchiveRead.{written_read}
use Rattle.zip_reads_back.proofs.EntriesRead.{files_opened}
use Rattle.zip_reads_back.proofs.PartsRead.{parts_found}
use Rattle.zip_reads_back.proofs.laws.written_archives_read_back.Goals as goal

pub returns : goal.returns
returns c = record { entries = written_read; bytes = files_opened; parts = parts_found }
