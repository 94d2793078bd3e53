-- What is printed of a sample.
use Rattle.std.specs.Prelude.{◌≡◌, ℕ, List, codes}
use Rattle.part_events.specs.Words.{Part}
use Rattle.cell_data.specs.Words.{CellValue}
use Rattle.cell_styles.specs.Words.{StyleMap}
use Rattle.sheet_listing.specs.SampleLines.{sample_lines}
use Rattle.xlsx_core.specs.Words.{ReadsAs}

-- the name of the sheet of a sample
abbrev pub sample_name : List ℕ
sample_name = codes "Sample"

-- the sheet of a sample is read, and these are the lines of what was read, where it has so many
-- rows
pub record AreSampleLines (rows : ℕ) (parts : List Part) (lines : List ℕ) : Type 0 where
  pub values : List ((ℕ × ℕ) × CellValue)
  pub formulas : List ((ℕ × ℕ) × List ℕ)
  pub styles : StyleMap
  pub reads : ReadsAs parts sample_name values formulas styles
  pub listed : lines ≡ sample_lines rows values formulas styles
