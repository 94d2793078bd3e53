-- The worksheets of an open workbook, listed.
use Rattle.std.specs.Prelude.{◌≡◌, ◌⊎◌, ◌++◌, ℕ, List, [], ◌∷◌, Bool, true, false, Option, String}
use Rattle.std.specs.Prelude.{string_bytes, min, ◌+◌, ◌-◌, ◌^◌, ◌≤◌}
use Rattle.std.specs.List.{sum_by}
use Rattle.std.specs.declared.alloc.Global.{Global}
use Rattle.part_events.specs.Words.{Part}
use Rattle.cell_data.specs.declared.range.Range.{Range}
use Rattle.cell_data.specs.declared.value.Data.{Data}
use Rattle.cell_data.specs.declared.value.HeaderRow.{HeaderRow}
use Rattle.xlsx_error.specs.declared.error.XlsxError.{XlsxError}
use Rattle.xlsx_error.specs.declared.error.XlsxError.TheVariants.{OutOfMemory, Io}
use Rattle.xlsx_values.specs.Words.{ValueContext}
use Rattle.xlsx_cells.specs.Words.{values_alone}
use Rattle.xlsx_workbook.specs.declared.sheet.Sheet.{Sheet}
use Rattle.xlsx_core.specs.SheetReading.{placed_events, data_events}
use Rattle.xlsx_core.specs.Worksheets.{ReadsValues, RangeCause}

-- a sheet's name, and the range of values of the first sheet of this name; `place` tells where the
-- part of that sheet is
pub record IsListedAs
    (context : ValueContext) (header : HeaderRow) (place : List ℕ → Option (List ℕ))
    (parts : List Part) (sheet : Sheet) (listed : String Global × Range Data) : Type 0 where
  pub name : string_bytes listed.0 ≡ string_bytes sheet.name
  pub reads : ReadsValues context header (place (string_bytes sheet.name)) parts listed.1

-- the range of the values of the first sheet of a sheet's name isn't read
abbrev pub IsLeftOut : ValueContext → (List ℕ → Option (List ℕ)) → List Part → Sheet → Type 0
IsLeftOut context place parts sheet =
    let name = string_bytes sheet.name in
    (error : XlsxError) × RangeCause name values_alone context (place name) parts error

-- what is listed of these sheets, in their order: names and ranges, without those that aren't read
abbrev pub AreListed :
    ValueContext → HeaderRow → (List ℕ → Option (List ℕ)) → List Part → List Sheet →
    List (String Global × Range Data) → Type 0
AreListed context header place parts [] listed = listed ≡ []
AreListed context header place parts (sheet ∷ sheets) listed =
    (IsLeftOut context place parts sheet × AreListed context header place parts sheets listed)
    ⊎ ((first : String Global × Range Data) × (others : List (String Global × Range Data))
    × (listed ≡ first ∷ others) × IsListedAs context header place parts sheet first
    × AreListed context header place parts sheets others)

-- how many events the reading of sheets that are listed may take: those of the part of each, by the
-- first sheet of its name
abbrev pub listed_events : (List ℕ → Option (List ℕ)) → List Part → List Sheet → ℕ
listed_events place parts sheets =
    sum_by (λ (sheet : Sheet). placed_events (place (string_bytes sheet.name)) parts) sheets

-- how many events stand up to the ends of the data of the sheets that are listed
abbrev pub listed_data :
    (List ℕ → Option (List ℕ)) → List Part → List (String Global × Range Data) → ℕ
listed_data place parts listed =
    sum_by (λ (own : String Global × Range Data). data_events (place (string_bytes own.0)) parts)
    listed

-- a count of 64 bits rose by so many at least, up to its end
abbrev pub CountsAtLeast : ℕ → ℕ → ℕ → Type 0
CountsAtLeast least old new = min (old + least) (2 ^ 64 - 1) ≤ new

-- a refusal of a range ends the listing: a fault of the package, or want of memory
abbrev pub ends_listing : XlsxError → Bool
ends_listing Io = true
ends_listing OutOfMemory = true
ends_listing _ = false

-- a range was put behind others, with this name
abbrev pub IsPutBehind :
    List ℕ → List (String Global × Range Data) → List (String Global × Range Data) → Range Data →
    Type 0
IsPutBehind name old new range =
    (own : String Global) × (string_bytes own ≡ name) × (new ≡ old ++ (own, range) ∷ [])
