-- Parts as pieces of markup, and the texts of a sheet that can be the text of a part.
use Rattle.std.specs.Prelude.{◌≡◌, ⊤, ℕ, Bool, true, false, List, map, String}
use Rattle.std.specs.List.{All, flat_map, list_any}
use Rattle.std.specs.Str.{IsUtf8}
use Rattle.std.specs.declared.alloc.Global.{Global}
use Rattle.cell_data.specs.Words.{CellValue, text, iso_time, value_pairs, formula_pairs}
use Rattle.cell_data.specs.declared.range.Range.{Range}
use Rattle.cell_data.specs.declared.value.Data.{Data}
use Rattle.part_events.specs.Words.{Event, Part}
use Rattle.markup.specs.Words.{Piece, one, events_of_piece, spelled, are_spellable}
use Rattle.text_package.specs.PartText.{part_markup}
use Rattle.text_package.specs.PartSpelling.{IsPartText}
use Rattle.written_markup.specs.Words.{has_byte}
use Rattle.xlsx_writer.specs.Words.{PlacedFormulas, has_zero, PlacedValues}
use Rattle.xlsx_writer.specs.declared.form.WrittenForm.{WrittenForm}
use Rattle.xlsx_writer.specs.declared.form.WrittenForm.TheVariants.{PackageText, WorkbookFile}

-- each event as a piece of its own
abbrev pub pieces_of : List Event → List Piece
pieces_of events = map (λ event. one event) events

-- a part's events are those of pieces that markup spells
pub record IsSpelled (part : Part) : Type 0 where
  pub spellable : are_spellable (pieces_of part.events) ≡ true
  pub events : flat_map events_of_piece (pieces_of part.events) ≡ part.events

-- each of these parts is spelled
abbrev pub AreSpelled : List Part → Type 0
AreSpelled parts = All IsSpelled parts

-- the bytes of each of these parts, read as a part, are its events
abbrev pub AreCutBack : List Part → Type 0
AreCutBack parts = All (λ part. part_markup (spelled (pieces_of part.events)) ≡ part.events) parts

-- the text of a value of this kind can be written: it is UTF-8, and without a character 0 where
-- that isn't written as an escape
abbrev pub IsTextIn : WrittenForm → List ℕ → Type 0
IsTextIn PackageText bytes = IsPartText bytes
IsTextIn WorkbookFile bytes = IsUtf8 bytes

-- the text of a value, where it has one, can be written
abbrev pub HasPartText : WrittenForm → CellValue → Type 0
HasPartText form (text bytes) = IsTextIn form bytes
HasPartText form (iso_time bytes) = IsPartText bytes
HasPartText form _ = ⊤

-- The texts of a sheet are UTF-8 without a character 0, as each Rust `&str` without a NUL is; one
-- of a value may have it in a workbook file. It can't be left out: where the name is the byte 0, or
-- the byte 255, or a formula is, the bytes of the part that it stands in are no text, and are read
-- as one flaw (`NotText`).
pub record HaveTexts (form : WrittenForm) (name : List ℕ) (values : PlacedValues)
    (formulas : PlacedFormulas) : Type 0 where
  pub of_name : IsPartText name
  pub of_values : All (λ entry. HasPartText form entry.1) values
  pub of_formulas : All (λ entry. IsPartText entry.1) formulas

-- no text of a sheet's ranges has a character 0 that isn't written as an escape; that it is UTF-8
-- is known of each `String`
pub record HaveNoZero (form : WrittenForm) (values : Range Data)
    (formulas : Range (String Global)) : Type 0 where
  pub of_values : list_any (λ entry. has_zero form entry.1) (value_pairs values) ≡ false
  pub of_formulas : list_any (λ entry. has_byte 0 entry.1) (formula_pairs formulas) ≡ false
