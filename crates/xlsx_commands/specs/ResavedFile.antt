-- The workbook file that is written of a sheet, and when none is.
use Rattle.std.specs.Prelude.{◌≡◌, ◌⊎◌, ℕ, ◌<◌, ◌&&◌, not, nat_le, length, List, Bool, true, false}
use Rattle.std.specs.Prelude.{String}
use Rattle.std.specs.Str.{IsUtf8}
use Rattle.std.specs.declared.alloc.Global.{Global}
use Rattle.cell_data.specs.Words.{CellValue, value_pairs, formula_pairs}
use Rattle.cell_data.specs.declared.range.Range.{Range}
use Rattle.cell_data.specs.declared.value.Data.{Data}
use Rattle.cell_styles.specs.Words.{StyleMap}
use Rattle.part_events.specs.Words.{Part}
use Rattle.package_file.specs.PackageFile.{package_file, part_files, longest_file}
use Rattle.zip_writer.specs.Written as archive
use Rattle.xlsx_core.specs.Words.{ReadsAs}
use Rattle.xlsx_writer.specs.Words.{PlacedFormulas, IsWritable, has_zero_left, PlacedValues}
use Rattle.xlsx_writer.specs.Words.{written_parts}
use Rattle.xlsx_writer.specs.declared.form.WrittenForm.TheVariants.{WorkbookFile}
use Rattle.xlsx_commands.specs.declared.error.ToolError.{ToolError}
use Rattle.xlsx_commands.specs.declared.error.ToolError.TheVariants.{OutOfMemory, Unwritable}

-- the workbook file that is written of a sheet of this name
abbrev pub sheet_file : List ℕ → PlacedValues → PlacedFormulas → List ℕ
sheet_file name values formulas =
    package_file (written_parts WorkbookFile name values formulas)

-- a workbook file can hold the sheet: no character 0 is left in it, and it isn't too long
abbrev pub fits_file : List ℕ → PlacedValues → PlacedFormulas → Bool
fits_file name values formulas =
    not (has_zero_left WorkbookFile name values formulas)
    && nat_le (length (sheet_file name values formulas)) longest_file

-- Bytes are the workbook file that is written of the sheet of this name, as it is read from these
-- parts: of ranges of values and formulas that can be written, in which each text is UTF-8.
pub record IsResavedFile (parts : List Part) (name output : List ℕ) : Type 0 where
  pub values : Range Data
  pub formulas : Range (String Global)
  pub styles : StyleMap
  pub reads : ReadsAs parts name (value_pairs values) (formula_pairs formulas) styles
  pub writable : IsWritable values formulas
  pub named : IsUtf8 name
  pub fits : fits_file name (value_pairs values) (formula_pairs formulas) ≡ true
  pub saved : output ≡ sheet_file name (value_pairs values) (formula_pairs formulas)

-- no workbook file can hold the sheet of this name, as it is read from these parts
pub record HasNoFile (parts : List Part) (name : List ℕ) : Type 0 where
  pub values : List ((ℕ × ℕ) × CellValue)
  pub formulas : List ((ℕ × ℕ) × List ℕ)
  pub styles : StyleMap
  pub reads : ReadsAs parts name values formulas styles
  pub none : fits_file name values formulas ≡ false

-- no archive can have these parts, or one would look like another
abbrev pub HaveNoArchive : List Part → Type 0
HaveNoArchive parts =
    (¬ archive.IsWritableArchive (part_files parts)) ⊎ (¬ archive.IsPlain (part_files parts))

-- why no workbook file is made of a package of these parts: no archive can have them, it would be
-- too long, or want of memory
abbrev pub MakingFails : List Part → ToolError → Type 0
MakingFails parts Unwritable = HaveNoArchive parts ⊎ (longest_file < length (package_file parts))
MakingFails parts OutOfMemory = Unit {0}
MakingFails parts _ = ⊥
