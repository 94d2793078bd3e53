-- The formulas of a workbook, and those that each of them needs. Formulas are told by their
-- numbers, sheet by sheet, row by row.
use Rattle.std.specs.Prelude.{ℕ, zero, suc, ◌&&◌, nat_le, Bool, false, if◌then◌else◌, List, [], ◌∷◌}
use Rattle.std.specs.Prelude.{map}
use Rattle.std.specs.List.{list_any}
use Rattle.calculation_order.specs.Edges.{dependents_of}
use Rattle.cell_refs.specs.Words.{is_in_area}
use Rattle.cell_refs.specs.declared.dimensions.Dimensions.{Dimensions}
use Rattle.xlsx_graph.specs.Naming.{Found}
use Rattle.xlsx_graph.specs.declared.named.BookArea.{BookArea}
use Rattle.xlsx_graph.specs.declared.named.Standing.{Standing}

-- a formula: its cell, the cells that have its values, its own or those of an array, and what it
-- names
pub record GraphFormula : Type 0 where
  pub cell : Standing
  pub covers : Dimensions
  pub found : Found

-- two areas have a cell in common
abbrev pub do_meet : Dimensions → Dimensions → Bool
do_meet a b =
    (nat_le a.start.0 b.end.0 && nat_le b.start.0 a.end.0)
    && (nat_le a.start.1 b.end.1 && nat_le b.start.1 a.end.1)

-- an area lies on a sheet
abbrev pub has_sheet : BookArea → ℕ → Bool
has_sheet a sheet = nat_le a.first sheet && nat_le sheet a.last

-- a formula asks for a value that another one gives
abbrev pub needs : GraphFormula → GraphFormula → Bool
needs f g =
    list_any (λ a. a.is_valued && (has_sheet a g.cell.sheet && do_meet a.area g.covers))
    f.found.areas

-- the numbers of the formulas that one needs, where they are counted from this on
abbrev pub numbers_needed : ℕ → List GraphFormula → GraphFormula → List ℕ
numbers_needed n [] f = []
numbers_needed n (g ∷ gs) f =
    if needs f g then n ∷ numbers_needed (suc n) gs f else numbers_needed (suc n) gs f

-- for each formula the numbers of those that it needs: the edges of the graph
unfoldable pub needed : List GraphFormula → List (List ℕ)
needed formulas = map (numbers_needed 0 formulas) formulas

-- ---- dependents

-- an area asks for the value of a cell
abbrev pub asks_area : Standing → BookArea → Bool
asks_area s a = a.is_valued && (has_sheet a s.sheet && is_in_area a.area (s.row, s.column))

-- a formula asks for the value of a cell
abbrev pub asks_for : Standing → GraphFormula → Bool
asks_for s f = list_any (asks_area s) f.found.areas

-- the formula of a number asks for the value of a cell
abbrev pub asks_for_cell : Standing → List GraphFormula → ℕ → Bool
asks_for_cell s [] n = false
asks_for_cell s (f ∷ fs) zero = asks_for s f
asks_for_cell s (f ∷ fs) (suc n) = asks_for_cell s fs n

-- the formulas that need the value of a cell, themselves or through others
unfoldable pub dependents_at : List GraphFormula → Standing → List ℕ
dependents_at formulas s = dependents_of (asks_for_cell s formulas) (needed formulas)
