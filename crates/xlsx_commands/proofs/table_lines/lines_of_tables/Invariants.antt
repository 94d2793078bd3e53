use Rattle.std.proofs.Common.{◌≡◌, ◌≤◌, ◌++◌, drop, length, map, string_bytes}
use Rattle.xlsx_core.specs.Words.{loaded_tables, table_names_left}
use Rattle.xlsx_commands.specs.TableLists.{table_lines}
use Rattle.xlsx_commands.proofs.TablesListed.{name_said}
use Rattle.xlsx_commands.proofs.table_lines.lines_of_tables.Given as goal

abbrev pub invariant-tables : goal.invariant-tables
invariant-tables l = record {
  within : l.index ≤ length (loaded_tables l.xlsx);
  names : table_names_left l.name-iterator ≡ map name_said (drop l.index (loaded_tables l.xlsx));
  listed : string_bytes l.out ++ table_lines l.form (drop l.index (loaded_tables l.xlsx))
      ≡ table_lines l.form (loaded_tables l.xlsx);
}
