-- What is kept of formulas, apart from where their texts lie in memory.
use Rattle.std.specs.Prelude.{◌≡◌, ℕ, List, Option, None, Some, option_map, string_bytes}
use Rattle.std.specs.BTreeMap.{get}
use Rattle.std.specs.Ordering.{nat_cmp}
use Rattle.std.specs.Rc.{rc_value}
use Rattle.std.specs.declared.alloc.Global.{Global}
use Rattle.std.specs.declared.rc.Rc.{Rc}
use Rattle.cell_refs.specs.declared.dimensions.Dimensions.{Dimensions}
use Rattle.xlsx_formulas.specs.Formula.{Sharing, own, master, derived, FormulaText, GroupFormula}
use Rattle.xlsx_formulas.specs.Formula.{master_of, moved_to}
use Rattle.xlsx_formulas.specs.declared.cell_formula.CellFormula.{CellFormula}
use Rattle.xlsx_formulas.specs.declared.cell_formula.CellFormula.TheVariants as cells
use Rattle.xlsx_formulas.specs.declared.formula.FormulaAttributes.{FormulaAttributes}
use Rattle.xlsx_formulas.specs.declared.formula.FormulaAttributes.TheVariants.{Own, Master, Derived}
use Rattle.xlsx_formulas.specs.declared.formula.Formula.{Formula}
use Rattle.xlsx_formulas.specs.declared.shared_formulas.SharedFormulas.{SharedFormulas}
use Rattle.xlsx_formulas.specs.declared.shared_formulas.Master as kept

-- how a formula that is kept is shared
abbrev pub sharing_seen : FormulaAttributes → Sharing
sharing_seen Own = own
sharing_seen (Master index area) = master index area
sharing_seen (Derived index) = derived index

-- the text and the sharing of a formula that is kept
abbrev pub formula_seen : Formula → FormulaText
formula_seen formula = record {
  sharing = sharing_seen formula.share;
  text = string_bytes formula.text;
}

-- the text and the sharing of a cell's last `f` as it is kept, if the cell has one
abbrev pub last_seen : Option Formula → Option FormulaText
last_seen last = option_map formula_seen last

-- what a cell's last formula, as it is kept, says that it covers
abbrev pub covers_seen : Option Formula → Option Dimensions
covers_seen None = None
covers_seen (Some formula) = formula.covers

-- the formula of a group, which those that are derived from it share
abbrev pub group_seen : Rc kept.Master Global → GroupFormula
group_seen found = record { text = (rc_value found).formula; corner = (rc_value found).corner }

-- the formula that is kept of the group of an index
abbrev pub masters_in : SharedFormulas → ℕ → Option GroupFormula
masters_in masters index = option_map group_seen (get nat_cmp masters.groups index)

-- the formulas that are kept are those of the last masters among these
abbrev pub AreMasters : List FormulaText → SharedFormulas → Type 0
AreMasters earlier masters = (index : ℕ) → masters_in masters index ≡ master_of index earlier

-- the text of a cell's formula: a derived one is that of its group, as it stands at the position
abbrev pub text_of_formula : CellFormula → List ℕ
text_of_formula (cells.Text text) = string_bytes text
text_of_formula (cells.Derived found position) = moved_to position (Some (group_seen found))
