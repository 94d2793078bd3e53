-- What a table says, apart from where its texts lie in memory.
use Rattle.std.specs.Prelude.{ℕ, List, map, string_bytes}
use Rattle.cell_data.specs.declared.range.Range.{Range}
use Rattle.cell_data.specs.declared.table.Table.{Table}

-- the name of a table, as the bytes that it has
abbrev pub table_name : {X : Type 0} → Table X → List ℕ
table_name table = string_bytes table.name

-- the name of the sheet that a table stands on
abbrev pub table_sheet : {X : Type 0} → Table X → List ℕ
table_sheet table = string_bytes table.sheet_name

-- the names of a table's columns
abbrev pub table_columns : {X : Type 0} → Table X → List (List ℕ)
table_columns table = map string_bytes table.columns.items

-- the range of a table's data
abbrev pub table_data : {X : Type 0} → Table X → Range X
table_data table = table.data
