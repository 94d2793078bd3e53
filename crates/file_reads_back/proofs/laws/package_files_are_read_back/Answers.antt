use Rattle.file_reads_back.proofs.FilesRead.{package_read}
use Rattle.file_reads_back.proofs.laws.package_files_are_read_back.Goals as goal

pub returns : goal.returns
returns c =
    package_read (record {
      entries = c.written_archives_read_back.ensures.entries;
      bytes = c.written_archives_read_back.ensures.bytes;
    })
