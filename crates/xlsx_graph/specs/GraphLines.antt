-- What is printed of a workbook's graph: lines of fields, a tab between two of them.
use Rattle.std.specs.Prelude.{ℕ, zero, suc, ◌==◌, not, Bool, true, false, if◌then◌else◌, List, []}
use Rattle.std.specs.Prelude.{◌∷◌, ◌++◌, length, filter, codes}
use Rattle.std.specs.List.{list_any, slice_index_or, flat_map}
use Rattle.cell_refs.specs.Words.{reference}
use Rattle.escaped_text.specs.Escaped.{escaped}
use Rattle.list_lines.specs.Fields.{area_field, next_field}
use Rattle.book_names.specs.Book.{Book}
use Rattle.xlsx_graph.specs.Naming.{OpenText}
use Rattle.calculation_order.specs.Edges.{order_of, cycles_of, is_number_of, numbers_below}
use Rattle.calculation_order.specs.OrderLaws.{is_on_cycle}
use Rattle.xlsx_graph.specs.Graph.{GraphFormula, dependents_at, needed}
use Rattle.xlsx_graph.specs.declared.named.BookArea.{BookArea}
use Rattle.xlsx_graph.specs.declared.named.Cause.{Cause}
use Rattle.xlsx_graph.specs.declared.named.Cause.TheVariants.{Computed, External, Gone, NoSheet}
use Rattle.xlsx_graph.specs.declared.named.Cause.TheVariants.{NoName, NoTable, NoColumn, Endless}
use Rattle.xlsx_graph.specs.declared.named.Cause.TheVariants.{NoRange, NotRead}
use Rattle.xlsx_graph.specs.declared.named.Standing.{Standing}

-- a text with its apostrophes doubled
abbrev pub doubled : List ℕ → List ℕ
doubled text = flat_map (λ b. if b == 39 then 39 ∷ 39 ∷ [] else b ∷ []) text

-- the name of a sheet in apostrophes
abbrev pub sheet_text : Book → ℕ → List ℕ
sheet_text book n =
    39 ∷ (escaped (doubled (slice_index_or book.sheets n [])) ++ 39 ∷ [])

-- the text of a cell of a sheet, behind the sheet's name
abbrev pub cell_text : Book → Standing → List ℕ
cell_text book s = sheet_text book s.sheet ++ (33 ∷ reference (s.row, s.column))

-- the text of the sheets of an area
abbrev pub sheets_text : Book → BookArea → List ℕ
sheets_text book a =
    if a.first == a.last then sheet_text book a.first
    else sheet_text book a.first ++ (58 ∷ sheet_text book a.last)

-- an area, behind a mark where its place alone is asked for
abbrev pub book_area_field : Book → BookArea → List ℕ
book_area_field book a =
    (if a.is_valued then [] else codes "~") ++ (sheets_text book a ++ (33 ∷ area_field a.area))

-- why a word is left open
abbrev pub cause_text : Cause → List ℕ
cause_text Computed = codes "computed"
cause_text External = codes "external"
cause_text Gone = codes "gone"
cause_text NoSheet = codes "sheet"
cause_text NoName = codes "name"
cause_text NoTable = codes "table"
cause_text NoColumn = codes "column"
cause_text Endless = codes "endless"
cause_text NoRange = codes "range"
cause_text NotRead = codes "text"

-- a word that is left open, behind its cause
abbrev pub open_field : OpenText → List ℕ
open_field o = 63 ∷ (cause_text o.cause ++ (32 ∷ escaped o.text))

-- a formula by its cell, and what it names
abbrev pub graph_line : Book → GraphFormula → List ℕ
graph_line book f =
    cell_text book f.cell
    ++ (flat_map (λ a. next_field (book_area_field book a)) f.found.areas
    ++ (flat_map (λ o. next_field (open_field o)) f.found.words ++ codes "\n"))

-- a line for each formula, sheet by sheet and row by row
unfoldable pub graph_lines : Book → List GraphFormula → List ℕ
graph_lines book formulas = flat_map (graph_line book) formulas

-- the formula of a number alone, or none
abbrev pub one_of : List GraphFormula → ℕ → List GraphFormula
one_of [] n = []
one_of (f ∷ fs) zero = f ∷ []
one_of (f ∷ fs) (suc n) = one_of fs n

-- the cell of the formula of a number
abbrev pub cell_numbered : Book → List GraphFormula → ℕ → List ℕ
cell_numbered book formulas n = flat_map (λ f. cell_text book f.cell) (one_of formulas n)

-- a cause that may hide cells of the workbook: all but a lost reference and another file
abbrev pub is_hiding : Cause → Bool
is_hiding External = false
is_hiding Gone = false
is_hiding _ = true

-- a word that may name cells of the workbook
abbrev pub may_name : OpenText → Bool
may_name o = is_hiding o.cause

-- the formula of a number may name more cells than are known
abbrev pub is_open : List GraphFormula → ℕ → Bool
is_open formulas n = list_any (λ f. list_any may_name f.found.words) (one_of formulas n)

-- the mark of the formula of a number that may name more cells than are known, and else none
abbrev pub mark_of_open : List GraphFormula → ℕ → List ℕ
mark_of_open formulas n = if is_open formulas n then next_field (codes "open") else []

-- the line of a formula by its number, with its marks
abbrev pub order_line : Book → List GraphFormula → List ℕ → ℕ → List ℕ
order_line book formulas mark n =
    cell_numbered book formulas n ++ (mark ++ (mark_of_open formulas n ++ codes "\n"))

-- the mark of a formula that has no place in the order: it needs itself, or one that does
abbrev pub left_mark : List (List ℕ) → ℕ → List ℕ
left_mark edges n = next_field (if is_on_cycle edges n then codes "cycle" else codes "behind")

-- the line of a formula that has no place in the order, by its number, with its marks
abbrev pub left_line : Book → List GraphFormula → List (List ℕ) → ℕ → List ℕ
left_line book formulas edges n = order_line book formulas (left_mark edges n) n

-- the formulas in an order; then the others, by their numbers
abbrev pub order_lines_by : Book → List GraphFormula → List (List ℕ) → List ℕ → List ℕ
order_lines_by book formulas edges order =
    flat_map (order_line book formulas []) order
    ++ flat_map (left_line book formulas edges)
    (filter (λ n. not (is_number_of order n)) (numbers_below (length edges)))

-- a line for each formula: those that can be computed, then those on cycles and behind them
unfoldable pub order_lines : Book → List GraphFormula → List ℕ
order_lines book formulas =
    order_lines_by book formulas (needed formulas) (order_of (needed formulas))

-- the cells of a cycle, a tab between two of them
abbrev pub cycle_line : Book → List GraphFormula → List ℕ → List ℕ
cycle_line book formulas [] = []
cycle_line book formulas (n ∷ ns) =
    cell_numbered book formulas n
    ++ (flat_map (λ m. next_field (cell_numbered book formulas m)) ns ++ codes "\n")

-- a line for each cycle
unfoldable pub cycles_lines : Book → List GraphFormula → List ℕ
cycles_lines book formulas =
    flat_map (cycle_line book formulas) (cycles_of (needed formulas))

-- the line of a formula by its number: its cell
abbrev pub numbered_line : Book → List GraphFormula → ℕ → List ℕ
numbered_line book formulas n = cell_numbered book formulas n ++ codes "\n"

-- a line for each formula that needs the value of a cell, itself or through others
unfoldable pub all_dependents_lines : Book → List GraphFormula → Standing → List ℕ
all_dependents_lines book formulas s =
    flat_map (numbered_line book formulas) (dependents_at formulas s)
