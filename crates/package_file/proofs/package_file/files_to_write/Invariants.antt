use Rattle.std.proofs.Common.{◌≡◌, take}
use Rattle.zip_writer.specs.Files.{files_of}
use Rattle.package_file.specs.PackageFile.{part_files}
use Rattle.package_file.proofs.package_file.files_to_write.Given as goal

abbrev pub invariant-loop-part : goal.invariant-loop-part
invariant-loop-part l = files_of l.files.items ≡ part_files (take l.part l.package.parts)
