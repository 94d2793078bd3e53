-- Values that read back as themselves, from what is written of them.
use Rattle.std.specs.Prelude.{◌≡◌, ⊤, Bool, true, List, ◌∷◌, []}
use Rattle.cell_data.specs.Words.{CellValue, nothing, integer, number, text, shared_text, truth}
use Rattle.cell_data.specs.Words.{time, iso_time, failure}
use Rattle.cell_data.specs.declared.format.CellFormat.{CellFormat}
use Rattle.cell_data.specs.declared.format.CellFormat.TheVariants.{Other, DateTime, TimeDelta}
use Rattle.xlsx_writer.specs.Words.{is_kept, is_decimal}

-- the value is nothing, or one that is read as it is written, in a workbook with this first year
abbrev pub IsKeptAs : Bool → CellValue → Type 0
IsKeptAs is_1904 nothing = ⊤
IsKeptAs is_1904 (integer n) = ⊥
IsKeptAs is_1904 (number n) = is_decimal n ≡ true
IsKeptAs is_1904 (text bytes) = ⊤
IsKeptAs is_1904 (shared_text place) = ⊥
IsKeptAs is_1904 (truth holds) = ⊤
IsKeptAs is_1904 (time days kind epoch) = (is_decimal days ≡ true) × (epoch ≡ is_1904)
IsKeptAs is_1904 (iso_time bytes) = ⊤
IsKeptAs is_1904 (failure error) = is_kept error ≡ true

-- what the three styles that are written make of numbers
abbrev pub written_formats : List CellFormat
written_formats = Other ∷ DateTime ∷ TimeDelta ∷ []
