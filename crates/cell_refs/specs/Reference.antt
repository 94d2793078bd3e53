-- The A1 text of a position.
use Rattle.std.specs.Prelude.{ℕ, ◌+◌, List, ◌++◌}
use Rattle.std.specs.Fmt.{decimal}
use Rattle.cell_refs.specs.A1.{column_name}

-- the row's text: its number, counted from 1
abbrev pub row_reference : ℕ → List ℕ
row_reference row = decimal (row + 1)

-- the text of a position in capitals, without leading zeros
abbrev pub reference : ℕ × ℕ → List ℕ
reference position = column_name position.1 ++ row_reference position.0
