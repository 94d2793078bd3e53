-- The formulas of a sheet's cells. A formula element is seen by those that stand before it in the
-- sheet, the latest first.
use Rattle.std.specs.Prelude.{ℕ, ◌==◌, List, [], ◌∷◌, false, if◌then◌else◌, codes, Option, Some}
use Rattle.std.specs.Prelude.{None, option_and_then, Result, Ok, Err}
use Rattle.std.specs.Str.{bytes_eq}
use Rattle.attr_text.specs.Words.{lookup}
use Rattle.attr_text.specs.declared.fault.AttrFault.{AttrFault}
use Rattle.cell_refs.specs.Words.{area, is_in_area, area_with}
use Rattle.cell_refs.specs.declared.dimensions.Dimensions.{Dimensions}
use Rattle.cell_refs.specs.declared.error.RefError.{RefError}
use Rattle.formula_shift.specs.Words.{moved, offset_between}
use Rattle.part_events.specs.Words.{Tag, Event, Element, children, is_named}
use Rattle.xlsx_sections.specs.Words.{some_answers, with_two, with_three, element_text, number_text}
use Rattle.xlsx_sections.specs.Words.{Refusal, plain, lookup_fault, misplaced, stray_child}
use Rattle.xlsx_sections.specs.Words.{lacks_index, wrong_index, in_element}

-- whose formula an element writes: its cell's alone, that of a group of this index and area, or one
-- of a group's
pub data Sharing : Type 0 where
  own : Sharing
  master : ℕ → Dimensions → Sharing
  derived : ℕ → Sharing

-- the text of a formula, and how it is shared
pub record FormulaText : Type 0 where
  pub sharing : Sharing
  pub text : List ℕ

-- the first formula of a group, by its area
abbrev pub shared_in : ℕ → Result Dimensions RefError → Result Sharing Refusal
shared_in index (Ok range) = Ok (master index range)
shared_in index (Err fault) = Err (plain (misplaced fault))

-- a formula of a group: with an area its first one, else a member
abbrev pub shared_over : ℕ → Option (List ℕ) → Result Sharing Refusal
shared_over index None = Ok (derived index)
shared_over index (Some range) = shared_in index (area range)

-- the sharing of a formula whose group has this number
abbrev pub shared_numbered : Option ℕ → Option (List ℕ) → Result Sharing Refusal
shared_numbered None range = Err (plain wrong_index)
shared_numbered (Some index) range = shared_over index range

-- the sharing of a shared formula, by the texts of its number and its area
abbrev pub shared_by : Option (List ℕ) → Option (List ℕ) → Result Sharing Refusal
shared_by None range = Err (plain lacks_index)
shared_by (Some index) range = shared_numbered (number_text index) range

-- the sharing of a formula, by the texts of its type, its number and its area
abbrev pub sharing_typed :
    Option (List ℕ) → Option (List ℕ) → Option (List ℕ) → Result Sharing Refusal
sharing_typed None index range = Ok own
sharing_typed (Some typ) index range =
    if bytes_eq typ (codes "shared") then shared_by index range else Ok own

-- the sharing of a formula, by what was looked up at its start
abbrev pub sharing_from : Result (List (Option (List ℕ))) AttrFault → Result Sharing Refusal
sharing_from (Ok values) = with_three sharing_typed (Err (plain lacks_index)) values
sharing_from (Err fault) = Err (plain (lookup_fault fault))

-- what the start of an `f` says
abbrev pub sharing_of : Tag → Result Sharing Refusal
sharing_of tag =
    sharing_from (lookup (codes "t" ∷ codes "si" ∷ codes "ref" ∷ []) tag.attributes)

-- the area that a text names, if it names one
abbrev pub area_or_none : Result Dimensions RefError → Option Dimensions
area_or_none (Ok range) = Some range
area_or_none (Err fault) = None

-- the area of an array, by the texts of the type and the area of its formula
abbrev pub covers_typed : Option (List ℕ) → Option (List ℕ) → Option Dimensions
covers_typed None range = None
covers_typed (Some typ) range =
    if bytes_eq typ (codes "array") then option_and_then (λ own. area_or_none (area own)) range
    else None

-- the area of an array, by what was looked up at the start of its formula
abbrev pub covers_from : Result (List (Option (List ℕ))) AttrFault → Option Dimensions
covers_from (Ok values) = with_two covers_typed None values
covers_from (Err fault) = None

-- the area of cells that have the values of a formula, as the start of its `f` says it: that of the
-- `ref` of an array, where this is an area
abbrev pub covers_of : Tag → Option Dimensions
covers_of tag = covers_from (lookup (codes "t" ∷ codes "ref" ∷ []) tag.attributes)

-- The area that a formula covers in the cell at a position: what its start says, where that has the
-- cell, and else the cell alone.
abbrev pub covered : ℕ × ℕ → Option Dimensions → Dimensions
covered position None = area_with position None
covered position (Some range) =
    if is_in_area range position then range else area_with position None

-- a formula by its sharing and its text
abbrev pub shared_text : Sharing → Result (List ℕ) Refusal → Result FormulaText Refusal
shared_text sharing (Ok written) = Ok (record { sharing = sharing; text = written })
shared_text sharing (Err refusal) = Err refusal

-- a formula by its sharing and what stands in it
abbrev pub with_sharing : List Event → Result Sharing Refusal → Result FormulaText Refusal
with_sharing inside (Ok sharing) = shared_text sharing (element_text false inside)
with_sharing inside (Err refusal) = Err refusal

-- an `f`, by its start and what stands in it
abbrev pub formula_text : Tag → List Event → Result FormulaText Refusal
formula_text tag inside = with_sharing inside (sharing_of tag)

-- a formula that is there
abbrev pub some_formula : Result FormulaText Refusal → Result (Option FormulaText) Refusal
some_formula (Ok found) = Ok (Some found)
some_formula (Err refusal) = Err refusal

-- the formula that a child of a cell writes, if it is an `f`, by its start and what stands in it
abbrev pub said_formula : Tag → List Event → Result (Option FormulaText) Refusal
said_formula tag inside =
    if is_named (codes "f" ∷ []) tag then some_formula (formula_text tag inside)
    else (if is_named (codes "v" ∷ []) tag then Ok None
    else (if is_named (codes "is" ∷ []) tag then Ok None else Err (plain stray_child)))

-- the formula that a child of a cell gives
abbrev pub child_formula : Element → Result (Option FormulaText) Refusal
child_formula child = in_element child (said_formula child.tag child.inside)

-- the formulas that a cell's children write, in order
abbrev pub formulas_in : List Event → Result (List FormulaText) Refusal
formulas_in inside = some_answers child_formula (children inside)

-- what the last `f` says that it covers, behind one more child of its cell
abbrev pub covers_with : Option Dimensions → Element → Option Dimensions
covers_with latest child =
    if is_named (codes "f" ∷ []) child.tag then covers_of child.tag else latest

-- what the last `f` says that it covers, behind these children of its cell
abbrev pub covers_along : Option Dimensions → List Element → Option Dimensions
covers_along latest [] = latest
covers_along latest (child ∷ others) = covers_along (covers_with latest child) others

-- what the last `f` of a cell says that it covers
abbrev pub covers_in : List Event → Option Dimensions
covers_in inside = covers_along None (children inside)

-- the formula of a group: its text, and the first written corner of the group's area
pub record GroupFormula : Type 0 where
  pub text : List ℕ
  pub corner : ℕ × ℕ

-- the first formula of the group of this number, if this is it
abbrev pub as_master : ℕ → List ℕ → Sharing → Option GroupFormula
as_master index written own = None
as_master index written (master other range) =
    if other == index then Some (record { text = written; corner = range.start }) else None
as_master index written (derived other) = None

-- what was found, or what is found further on
abbrev pub or_further : Option GroupFormula → Option GroupFormula → Option GroupFormula
or_further (Some found) further = Some found
or_further None further = further

-- looking back, the last master of an index
abbrev pub master_of : ℕ → List FormulaText → Option GroupFormula
master_of index [] = None
master_of index (first ∷ earlier) =
    or_further (as_master index first.text first.sharing) (master_of index earlier)

-- the formula of a group, as it stands at a position; without a master there is none
abbrev pub moved_to : ℕ × ℕ → Option GroupFormula → List ℕ
moved_to position None = []
moved_to position (Some found) = moved found.text (offset_between found.corner position)

-- the text of the formula at a position, by its sharing and the formulas before it
abbrev pub formula_by : List FormulaText → ℕ × ℕ → List ℕ → Sharing → List ℕ
formula_by earlier position written own = written
formula_by earlier position written (master index range) = written
formula_by earlier position written (derived index) = moved_to position (master_of index earlier)

-- the formula of an `f` in the cell at a position, behind these
abbrev pub formula_of : List FormulaText → ℕ × ℕ → FormulaText → List ℕ
formula_of earlier position found = formula_by earlier position found.text found.sharing

-- formulas that were passed, put before those that stood before them, the latest first
abbrev pub behind_formulas : List FormulaText → List FormulaText → List FormulaText
behind_formulas [] earlier = earlier
behind_formulas (found ∷ passed) earlier = behind_formulas passed (found ∷ earlier)

-- the formula of the cell at a position: that of its last `f`, and empty without one
abbrev pub cell_formula : List FormulaText → ℕ × ℕ → List FormulaText → List ℕ
cell_formula earlier position [] = []
cell_formula earlier position (found ∷ []) = formula_of earlier position found
cell_formula earlier position (found ∷ next ∷ others) =
    cell_formula (found ∷ earlier) position (next ∷ others)

-- the formula of the cell at a position, by its last `f` and the formulas before that; empty
-- without one
abbrev pub formula_of_last : List FormulaText → ℕ × ℕ → Option FormulaText → List ℕ
formula_of_last earlier position None = []
formula_of_last earlier position (Some found) = formula_of earlier position found
