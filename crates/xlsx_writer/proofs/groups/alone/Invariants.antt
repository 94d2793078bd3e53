use Rattle.std.proofs.Common.{◌≡◌, ◌++◌, string_bytes}
use Rattle.std.specs.Prelude.{All}
use Rattle.cell_data.proofs.Stepping.{meant}
use Rattle.sorted_cells.specs.Words.{placed_left}
use Rattle.xlsx_writer.specs.Writing.{form_entries, placed_forms, IsFormInSheet}
use Rattle.xlsx_writer.specs.declared.form.WrittenForm.TheVariants.{WorkbookFile}
use Rattle.xlsx_writer.proofs.groups.alone.Given as goal

abbrev pub invariant-loop-position : goal.invariant-loop-position
invariant-loop-position l =
    let placed = meant string_bytes (placed_left l.fn.formulas) in
    let left = meant string_bytes (placed_left l.position-iterator) in
    record {
      forms : form_entries l.listed.items ++ placed_forms WorkbookFile left
          ≡ placed_forms WorkbookFile placed;
      sheet : All IsFormInSheet l.listed.items;
    }
