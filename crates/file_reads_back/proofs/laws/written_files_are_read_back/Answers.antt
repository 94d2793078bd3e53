use Rattle.cell_data.specs.Words.{value_pairs, formula_pairs}
use Rattle.xlsx_writer.specs.Words.{written_parts}
use Rattle.xlsx_writer.specs.declared.form.WrittenForm.TheVariants.{WorkbookFile}
use Rattle.file_reads_back.proofs.SheetsFiled.{sheet_filed}
use Rattle.file_reads_back.proofs.laws.written_files_are_read_back.Goals as goal

pub returns : goal.returns
returns c name values formulas own none writable size =
    let parts =
    written_parts WorkbookFile name (value_pairs values) (formula_pairs formulas) in record {
      input = c.package_files_are_read_back.ensures parts
          (sheet_filed name (value_pairs values) (formula_pairs formulas)
          (c.written_parts_are_cut_back.ensures.ranges WorkbookFile name values formulas own none)
          size);
      sheet = c.written_packages_read_back.ensures WorkbookFile name values formulas writable;
    }
