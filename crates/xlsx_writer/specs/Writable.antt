-- Which values and formulas are written so that they read back.
use Rattle.std.specs.Prelude.{◌≡◌, ℤ, ◌%◌, ◌&&◌, ◌||◌, ◌==◌, not, nat_abs, length, Bool, true, ℕ}
use Rattle.std.specs.Prelude.{List, false, if◌then◌else◌, String}
use Rattle.std.specs.List.{list_all, list_any}
use Rattle.std.specs.declared.alloc.Global.{Global}
use Rattle.cell_data.specs.Words.{CellValue, nothing, integer, number, shared_text, time, failure}
use Rattle.cell_data.specs.Words.{text, iso_time, value_pairs, formula_pairs, IsLeast}
use Rattle.cell_data.specs.declared.range.Range.{Range}
use Rattle.cell_data.specs.declared.value.CellErrorType.{CellErrorType}
use Rattle.cell_data.specs.declared.value.CellErrorType.TheVariants.{GettingData}
use Rattle.cell_data.specs.declared.value.Data.{Data}
use Rattle.decimals.specs.Words.{has_bits}
use Rattle.written_markup.specs.Words.{has_byte}
use Rattle.xlsx_writer.specs.Groups.{PlacedFormulas}
use Rattle.xlsx_writer.specs.WrittenSheet.{PlacedValues}
use Rattle.xlsx_writer.specs.declared.form.WrittenForm.{WrittenForm}
use Rattle.xlsx_writer.specs.declared.form.WrittenForm.TheVariants.{PackageText, WorkbookFile}

-- a cell can hold this error
abbrev pub is_kept : CellErrorType → Bool
is_kept GettingData = false
is_kept _ = true

-- a number in the one form that a decimal has: it fits, and its last digit is 0 for zero alone
abbrev pub is_decimal : ℤ × ℤ → Bool
is_decimal n =
    (has_bits 127 n.0 && has_bits 31 n.1)
    && (not (nat_abs n.0 % 10 == 0) || (nat_abs n.0 == 0 && nat_abs n.1 == 0))

-- a value that reads back as itself
abbrev pub is_writable_value : CellValue → Bool
is_writable_value (number n) = is_decimal n
is_writable_value (time days kind is_1904) = is_decimal days
is_writable_value nothing = false
is_writable_value (integer n) = false
is_writable_value (shared_text place) = false
is_writable_value (failure error) = is_kept error
is_writable_value _ = true

-- the time of a value counts from this first year, where it is one: 1904, or 1900
abbrev pub counts_from : Bool → CellValue → Bool
counts_from true (time days kind is_1904) = is_1904
counts_from false (time days kind is_1904) = not is_1904
counts_from epoch _ = true

-- all times count from the same first year
abbrev pub have_one_epoch : PlacedValues → Bool
have_one_epoch values =
    if list_all (λ entry. counts_from true entry.1) values then true
    else list_all (λ entry. counts_from false entry.1) values

-- values that read back as themselves
abbrev pub are_writable_values : PlacedValues → Bool
are_writable_values values =
    list_all (λ entry. is_writable_value entry.1) values && have_one_epoch values

-- formulas that read back as themselves: none is empty
abbrev pub are_writable_formulas : PlacedFormulas → Bool
are_writable_formulas formulas = list_all (λ entry. not (length entry.1 == 0)) formulas

-- values and formulas that are written so that they read back
pub record IsWritable (values : Range Data) (formulas : Range (String Global)) : Type 0 where
  pub values_least : IsLeast values
  pub formulas_least : IsLeast formulas
  pub values_kept : are_writable_values (value_pairs values) ≡ true
  pub formulas_kept : are_writable_formulas (formula_pairs formulas) ≡ true

-- ---- characters 0

-- the text of a value has a character 0 that isn't written as an escape
abbrev pub text_has_zero : WrittenForm → List ℕ → Bool
text_has_zero PackageText bytes = has_byte 0 bytes
text_has_zero WorkbookFile bytes = false

-- the text of a value has a character 0 that isn't written as an escape; that of an ISO time is
-- written as it is
abbrev pub has_zero : WrittenForm → CellValue → Bool
has_zero form (text bytes) = text_has_zero form bytes
has_zero form (iso_time bytes) = has_byte 0 bytes
has_zero form _ = false

-- a character 0 is left in what is written of a sheet, which no markup has (XML 1.0, 2.2)
abbrev pub has_zero_left : WrittenForm → List ℕ → PlacedValues → PlacedFormulas → Bool
has_zero_left form name values formulas =
    has_byte 0 name || (list_any (λ entry. has_zero form entry.1) values
    || list_any (λ entry. has_byte 0 entry.1) formulas)
