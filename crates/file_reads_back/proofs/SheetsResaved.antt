-- The output of a command that writes a workbook file is read back.
use Rattle.std.proofs.Common.{◌≡◌, ◌∙◌, ℕ, List, Bool, true, false, ap, length}
use Rattle.std.specs.Prelude.{◌≤◌, ◌||◌, not, nat_le, String}
use Rattle.std.specs.List.{list_any}
use Rattle.std.specs.declared.alloc.Global.{Global}
use Rattle.std.proofs.lemmas.Bool.{and_parts, or_parts, leb-true, not-true}
use Rattle.cell_data.specs.Words.{value_pairs, formula_pairs}
use Rattle.cell_data.specs.declared.range.Range.{Range}
use Rattle.cell_data.specs.declared.value.Data.{Data}
use Rattle.part_events.specs.Words.{Part}
use Rattle.input_package.specs.Reading.{package_of_input}
use Rattle.package_file.specs.PackageFile.{package_file, longest_file}
use Rattle.text_package.specs.PartSpelling.{IsPartText}
use Rattle.written_markup.specs.Words.{has_byte}
use Rattle.xlsx_writer.specs.Words.{IsWritable, has_zero, has_zero_left, written_parts}
use Rattle.xlsx_writer.specs.declared.form.WrittenForm.TheVariants.{WorkbookFile}
use Rattle.xlsx_writer_as_markup.specs.WrittenPieces.{HaveNoZero}
use Rattle.xlsx_commands.specs.Words.{resave_file}
use Rattle.xlsx_commands.specs.Outputs.{IsOutput}
use Rattle.file_reads_back.specs.FilePackages.{FileReadsBack, HasSameSheet}

-- what is written as a workbook file is read back, as it is
abbrev pub FilesReadBack : Type 0
FilesReadBack =
    (name : List ℕ) (values : Range Data) (formulas : Range (String Global)) → IsPartText name
    → HaveNoZero WorkbookFile values formulas → IsWritable values formulas
    → length (package_file (written_parts WorkbookFile name (value_pairs values)
    (formula_pairs formulas))) ≤ longest_file
    → FileReadsBack name (value_pairs values) (formula_pairs formulas)

pub resaved_read : FilesReadBack → (parts : List Part) (name output : List ℕ)
    → IsOutput (resave_file name) parts output → HasSameSheet parts name output
unfolding IsOutput
resaved_read law parts name output prints =
    let values = value_pairs prints.values in
    let formulas = formula_pairs prints.formulas in
    let fits = and_parts (not (has_zero_left WorkbookFile name values formulas)) _ prints.fits in
    let none = or_parts (has_byte 0 name)
    (list_any (λ entry. has_zero WorkbookFile entry.1) values
    || list_any (λ entry. has_byte 0 entry.1) formulas) (not-true _ fits.0) in
    let more = or_parts (list_any (λ entry. has_zero WorkbookFile entry.1) values)
    (list_any (λ entry. has_byte 0 entry.1) formulas) none.1 in
    let back = law name prints.values prints.formulas
    (record { utf8 = prints.named; no_zero = none.0 })
    (record { of_values = more.0; of_formulas = more.1 }) prints.writable
    (leb-true _ _ fits.1) in
    record {
      values = values;
      formulas = formulas;
      styles = prints.styles;
      reads = prints.reads;
      own = written_parts WorkbookFile name values formulas;
      input = ap package_of_input prints.saved ∙ back.input;
      again = back.sheet;
    }
