-- Packages that a workbook file can be written of so that it is read back.
use Rattle.std.specs.Prelude.{◌≡◌, ℕ, ◌<◌, ◌≤◌, ◌^◌, List, length, Some}
use Rattle.std.specs.List.{All}
use Rattle.part_events.specs.Words.{Part}
use Rattle.package_file.specs.PackageFile.{part_files, package_file, longest_file}
use Rattle.cell_styles.specs.Words.{StyleMap}
use Rattle.input_package.specs.Reading.{package_of_input}
use Rattle.xlsx_core.specs.Words.{ReadsAs}
use Rattle.xlsx_writer.specs.Words.{PlacedFormulas, PlacedValues, written_parts}
use Rattle.xlsx_writer.specs.declared.form.WrittenForm.TheVariants.{WorkbookFile}
use Rattle.round_trip.specs.ReadStyles.{styles_read}
use Rattle.xlsx_writer_as_markup.specs.WrittenPieces.{AreCutBack}
use Rattle.zip_reads_back.specs.ReadArchive.{AreBytes, ArePartNames}
use Rattle.zip_writer.specs.Written.{IsPlain}

-- Parts whose bytes are cut into their events, with names of which no two are one part, in a file
-- of no more bytes than it may have, which doesn't look like one with records of 64 bits.
pub record IsFilePackage (parts : List Part) : Type 0 where
  pub some : 0 < length parts
  pub few : length parts < 65535
  pub short : All (λ part. length part.name < 2 ^ 16) parts
  pub names : ArePartNames (part_files parts)
  pub cut : AreCutBack parts
  pub bytes : AreBytes (part_files parts)
  pub plain : IsPlain (part_files parts)
  pub size : length (package_file parts) ≤ longest_file

-- The workbook file that is written of values and formulas, as an input, is the package that is
-- written of them, and that package's sheet of this name reads as these values and formulas, and
-- the styles of dates and durations.
pub record FileReadsBack (name : List ℕ) (values : PlacedValues) (formulas : PlacedFormulas)
    : Type 0 where
  pub input : package_of_input (package_file (written_parts WorkbookFile name values formulas))
      ≡ Some (written_parts WorkbookFile name values formulas)
  pub sheet : ReadsAs (written_parts WorkbookFile name values formulas) name values formulas
      (styles_read values formulas)

-- Bytes, as an input, are a package, whose sheet of this name has the values and the formulas that
-- the one of these parts has.
pub record HasSameSheet (parts : List Part) (name output : List ℕ) : Type 0 where
  pub values : PlacedValues
  pub formulas : PlacedFormulas
  pub styles : StyleMap
  pub reads : ReadsAs parts name values formulas styles
  pub own : List Part
  pub input : package_of_input output ≡ Some own
  pub again : ReadsAs own name values formulas (styles_read values formulas)
