-- What holds of all that formulas name: words of the laws.
use Rattle.std.specs.Prelude.{ℕ, Bool, true, false, List}
use Rattle.std.specs.List.{list_any}
use Rattle.formula_tokens.specs.Items.{ItemText, says, calls, formula_items}
use Rattle.book_names.specs.Book.{Book, BookName}
use Rattle.xlsx_graph.specs.Naming.{MeaningText, means_name, mention_meaning, function_meaning}
use Rattle.xlsx_graph.specs.declared.named.Standing.{Standing}
use Rattle.xlsx_graph.specs.declared.reader.Reader.{Reader}

-- a workbook with other defined names: its sheets and tables stay
abbrev pub with_names : Book → List BookName → Book
with_names book names = record { sheets = book.sheets; names = names; tables = book.tables }

-- how the formula in a cell is read: on the sheet of the cell, as it is written
abbrev pub formula_reader : Standing → Reader
formula_reader cell = record { cell = cell; sheet = cell.sheet; is_name = false }

-- what is meant is a defined name
abbrev pub is_name : MeaningText → Bool
is_name (means_name n sheet w) = true
is_name _ = false

-- an item of the formula in a cell is a defined name of the workbook, as a mention or as a function
abbrev pub is_name_item : Book → Standing → ItemText → Bool
is_name_item book cell (says place named) =
    is_name (mention_meaning book (formula_reader cell) place named)
is_name_item book cell (calls place w) =
    is_name (function_meaning book (formula_reader cell) place w)
is_name_item book cell _ = false

-- the formula in a cell says a defined name of the workbook
abbrev pub says_name : Book → Standing → List ℕ → Bool
says_name book cell text = list_any (is_name_item book cell) (formula_items text)
