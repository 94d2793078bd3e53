-- The workbook file that is written of a package is that package.
use Rattle.std.proofs.Common.{◌≡◌, ℕ, ◌+◌, ◌<◌, ◌≤◌, List, [], ◌∷◌, ◌++◌, length, get_or, true, Ok}
use Rattle.std.proofs.Common.{Some, refl, ap, ◌∙◌, arith, zero, suc}
use Rattle.std.specs.Prelude.{nat_le, slice_index_or, option_map}
use Rattle.std.specs.Result.{result_ok}
use Rattle.std.proofs.lemmas.Bool.{cond-true, le-leb}
use Rattle.std.proofs.lemmas.List.{get_or-map, length-map}
use Rattle.zip_writer.specs.Sizes.{taken}
use Rattle.part_events.specs.Words.{Part}
use Rattle.zip_writer.specs.Written.{File, written, entry, IsPlain, IsWritableArchive}
use Rattle.zip_writer.proofs.Lengths.{length-written}
use Rattle.zip_archive.specs.Words.{archive_of, ArchiveFile, no_entry, opened}
use Rattle.zip_reads_back.specs.ReadArchive.{archive_of_files, entries_of, AreBytes, no_file}
use Rattle.workbook_file.specs.FileParts.{file_parts, longest_part}
use Rattle.input_package.specs.Reading.{package_of_input, begins_as_file}
use Rattle.package_file.specs.PackageFile.{part_file, part_files, package_file}
use Rattle.file_reads_back.specs.FilePackages.{IsFilePackage}
use Rattle.file_reads_back.proofs.EntriesNamed.{HoldsFiles, parts_there}

-- what is read of archives that are written
pub record ArchivesRead : Type 0 where
  pub entries : (files : List File) → IsWritableArchive files → IsPlain files → AreBytes files →
      archive_of (written files) ≡ Ok (archive_of_files files)
  pub bytes : (files : List File) (i limit : ℕ) → IsWritableArchive files → AreBytes files →
      i < length files → length (slice_index_or files i no_file).bytes ≤ limit →
      opened limit (archive_of_files files) (written files)
      (slice_index_or (entries_of 0 files) i no_entry)
      ≡ Ok (slice_index_or files i no_file).bytes

-- an archive begins with the mark of a file's own header
begins : (file : File) (files : List File) → begins_as_file (written (file ∷ files)) ≡ true
unfolding written entry
begins file files = refl

some_begins : (parts : List Part) → 0 < length parts
    → begins_as_file (package_file parts) ≡ true
some_begins [] some = absurd (omega arith)
some_begins (part ∷ parts) some = begins (part_file part) (part_files parts)

-- the files of a package can be written
pub can_be_written : (parts : List Part) → IsFilePackage parts
    → IsWritableArchive (part_files parts)
can_be_written parts is = record {
  names = λ k d below.
      let within : k < length parts = omega (arith, length-map parts part_file) in
      let none : Part = record { name = []; events = [] } in
      let named = ap (λ (f : File). length f.name) (get_or-map part_file parts k none d within) in
      omega (arith, is.short k none within);
  count = omega (arith, length-map parts part_file, is.few);
  size = omega (arith, is.size);
}

-- each file is no longer than the archive
no_longer : (files : List File) (i : ℕ) → i < length files
    → length (get_or files i no_file).bytes ≤ taken files
no_longer [] i below = absurd (omega arith)
no_longer (file ∷ files) zero below = omega arith
no_longer (file ∷ files) (suc i) below = omega (arith, no_longer files i (omega arith))

pub package_read : ArchivesRead → (parts : List Part) → IsFilePackage parts
    → package_of_input (package_file parts) ≡ Some parts
unfolding package_of_input
package_read laws parts is =
    let files = part_files parts in
    let writable = can_be_written parts is in
    let holds : HoldsFiles files = record {
      names = is.names;
      held = λ i below. laws.bytes files i longest_part writable is.bytes below
          (omega (arith, no_longer files i below, length-written files, is.size));
    } in
    cond-true (begins_as_file (package_file parts)) _ _ (some_begins parts is.some)
    ∙ ap (λ found. option_map (λ archive. let held : ArchiveFile =
    record { file = package_file parts; archive = archive } in file_parts held) (result_ok found))
    (laws.entries files writable is.plain is.bytes)
    ∙ ap Some (parts_there parts holds is.cut)
