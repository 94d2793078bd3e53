-- The package that an input is: a workbook file, or the package that a package text spells.
use Rattle.std.specs.Prelude.{◌≡◌, ◌||◌, ℕ, List, [], ◌∷◌, take, Bool, true, false, if◌then◌else◌}
use Rattle.std.specs.Prelude.{Option, None, Err, option_map}
use Rattle.std.specs.Result.{result_ok}
use Rattle.std.specs.Str.{bytes_eq}
use Rattle.part_events.specs.Words.{Part}
use Rattle.package_text.specs.PackageText.{package_in as package_in_text}
use Rattle.workbook_file.specs.FileParts.{file_parts}
use Rattle.zip_archive.specs.Words.{archive_of, compound_mark, ArchiveFile}
use Rattle.zip_archive.specs.declared.fault.ArchiveFault.{ArchiveFault}
use Rattle.input_package.specs.declared.reading.InputError.{InputError}
use Rattle.input_package.specs.declared.reading.InputError.TheVariants.{NotAPackage, OutOfMemory}
use Rattle.input_package.specs.declared.reading.InputError.TheVariants.{NotAWorkbookFile}

-- the bytes begin as a zip archive does, by `PK`
abbrev pub begins_as_archive : List ℕ → Bool
begins_as_archive bytes = bytes_eq (take 2 bytes) (80 ∷ 75 ∷ [])

-- the bytes begin as a workbook file does, or as a compound file, in which older ones and encrypted
-- ones lie. No package text begins so
abbrev pub begins_as_file : List ℕ → Bool
begins_as_file bytes = begins_as_archive bytes || bytes_eq (take 8 bytes) compound_mark

-- the most bytes of an input: 2 ^ 28 of a file, and 2 ^ 26 of a package text
abbrev pub longest : Bool → ℕ
longest is_file = if is_file then 268435456 else 67108864

-- the most bytes of an input that begins as these
abbrev pub longest_input : List ℕ → ℕ
longest_input bytes = longest (begins_as_file bytes)

-- the parts of a workbook file, where the bytes are an archive
abbrev pub parts_of_file : List ℕ → Option (List Part)
parts_of_file bytes =
    option_map (λ archive. let held : ArchiveFile = record { file = bytes; archive = archive } in
    file_parts held) (result_ok (archive_of bytes))

-- The parts of the package that an input is. Bytes that begin as a file are a workbook file or
-- nothing.
unfoldable pub package_of_input : List ℕ → Option (List Part)
package_of_input bytes =
    if begins_as_file bytes then parts_of_file bytes else package_in_text bytes

-- bytes that begin as a file are no workbook file, for this fault
pub record IsFaultyFile (bytes : List ℕ) (fault : ArchiveFault) : Type 0 where
  pub begins : begins_as_file bytes ≡ true
  pub fault_is : archive_of bytes ≡ Err fault
  pub none : package_of_input bytes ≡ None

-- bytes that begin as no file spell no package
pub record IsNoText (bytes : List ℕ) : Type 0 where
  pub begins : begins_as_file bytes ≡ false
  pub none : package_of_input bytes ≡ None

-- why these bytes were not read: they are no package, or memory is wanting
abbrev pub IsNoPackage : List ℕ → InputError → Type 0
IsNoPackage bytes NotAPackage = IsNoText bytes
IsNoPackage bytes (NotAWorkbookFile fault) = IsFaultyFile bytes fault
IsNoPackage bytes OutOfMemory = Unit {0}

-- why a package text spells none
abbrev pub SpellsNone : Option (List Part) → InputError → Type 0
SpellsNone parts NotAPackage = parts ≡ None
SpellsNone parts (NotAWorkbookFile fault) = ⊥
SpellsNone parts OutOfMemory = Unit {0}

-- why a file is no archive
abbrev pub IsNoArchive : List ℕ → InputError → Type 0
IsNoArchive bytes NotAPackage = ⊥
IsNoArchive bytes (NotAWorkbookFile fault) = archive_of bytes ≡ Err fault
IsNoArchive bytes OutOfMemory = Unit {0}
