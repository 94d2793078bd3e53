-- How the children of a cell are read.
use Rattle.std.specs.Prelude.{◌≡◌, ◌⊎◌, List, [], ◌∷◌, length, true, false, Bool, Option, Some}
use Rattle.std.specs.Prelude.{None, Result, option_map, Ok, Err, OnOk, codes}
use Rattle.std.specs.List.{last_or}
use Rattle.part_events.specs.Words.{Tag, Event, start, Reading, ahead, Element, content, is_named}
use Rattle.cell_data.specs.Words.{CellValue, value_of_data_ref}
use Rattle.cell_data.specs.declared.format.CellFormat.{CellFormat}
use Rattle.cell_data.specs.declared.value.DataRef.{DataRef}
use Rattle.xlsx_error.specs.declared.error.XlsxError.{XlsxError}
use Rattle.xlsx_sections.specs.Words.{or_earlier, PartSection, SectionFails, inside_of, Refusal}
use Rattle.xlsx_values.specs.Words.{kind_of, context_of, CellKind, ValueContext, said_value}
use Rattle.xlsx_values.specs.Words.{value_in, or_nothing}
use Rattle.xlsx_formulas.specs.Words.{FormulaText, said_formula, formulas_in, behind_formulas}
use Rattle.xlsx_formulas.specs.Words.{covers_with, covers_in, AreMasters, last_seen, covers_seen}
use Rattle.xlsx_formulas.specs.declared.shared_formulas.SharedFormulas.{SharedFormulas}
use Rattle.xlsx_cells.specs.Ends.{end_in_child, end_in_children}
use Rattle.xlsx_cells.specs.declared.children.Asked.{Asked}
use Rattle.xlsx_cells.specs.declared.children.CellContents.{CellContents}
use Rattle.xlsx_cells.specs.declared.children.CellStart.{CellStart}
use Rattle.xlsx_cells.specs.declared.children.Wants.{Wants}
use Rattle.xlsx_cells.specs.declared.children.ChildName.{ChildName}
use Rattle.xlsx_cells.specs.declared.children.ChildName.TheVariants.{Formula, Value, Inline, Stray}

-- an element, at whose start a reader stands
pub record StandsAtElement (element : Element) (r : Reading) : Type 0 where
  pub tag : start element.tag ≡ r.source.current
  pub inside : element.inside ≡ content 0 (ahead r)

-- the value that is kept of a child
abbrev pub value_kept : Option DataRef → Option CellValue
value_kept value = option_map value_of_data_ref value

-- what a child is by its name
abbrev pub IsNamedAs : ChildName → Tag → Type 0
IsNamedAs Formula tag = is_named (codes "f" ∷ []) tag ≡ true
IsNamedAs Value tag =
    (is_named (codes "f" ∷ []) tag ≡ false) × (is_named (codes "v" ∷ []) tag ≡ true)
IsNamedAs Inline tag =
    (is_named (codes "f" ∷ []) tag ≡ false) × (is_named (codes "v" ∷ []) tag ≡ false)
    × (is_named (codes "is" ∷ []) tag ≡ true)
IsNamedAs Stray tag =
    (is_named (codes "f" ∷ []) tag ≡ false) × (is_named (codes "v" ∷ []) tag ≡ false)
    × (is_named (codes "is" ∷ []) tag ≡ false)

-- the name of the child that gives the value, in a cell of inline strings or another
abbrev pub value_name : Bool → ChildName
value_name true = Inline
value_name false = Value

-- why a child is refused, by what stands in it
abbrev pub IsChildRefused :
    Wants → ValueContext → CellFormat → CellKind → Tag → PartSection → Refusal → Type 0
IsChildRefused wants context format kind tag s refusal =
    ((wants.values ≡ true) × (said_value context format kind tag (inside_of s) ≡ Err refusal))
    ⊎ ((wants.formulas ≡ true) × (said_formula tag (inside_of s) ≡ Err refusal))

-- when the child at whose start a reader stands can't be read
abbrev pub ChildFails :
    Wants → ValueContext → CellFormat → CellKind → Tag → Reading → Reading → XlsxError → Type 0
ChildFails wants context format kind tag old new error =
    SectionFails (end_in_child wants kind tag) (IsChildRefused wants context format kind tag)
    (length old.names) old new error

-- why what is wanted of a cell's children can't be read
abbrev pub AreChildrenRefused :
    Wants → ValueContext → CellFormat → CellKind → PartSection → Refusal → Type 0
AreChildrenRefused wants context format kind s refusal =
    ((wants.values ≡ true) × (value_in context format kind (inside_of s) ≡ Err refusal))
    ⊎ ((wants.formulas ≡ true) × (formulas_in (inside_of s) ≡ Err refusal))

-- when what stands in the cell at whose start a reader stands can't be read
abbrev pub ContentsFail : Asked → CellStart → Reading → Reading → XlsxError → Type 0
ContentsFail asked begun old new error =
    SectionFails (end_in_children asked.wants (kind_of begun.typ))
    (AreChildrenRefused asked.wants (context_of asked.book) begun.format (kind_of begun.typ))
    (length old.names) old new error

-- the masters and the last formula, before and behind a child
pub record LastStep : Type 0 where
  pub masters : SharedFormulas
  pub last : Option FormulaText

-- the formulas that a cell's step keeps of those that the cell writes: all or none
abbrev pub kept_by : Bool → List FormulaText → List FormulaText
kept_by true written = written
kept_by false written = []

-- the masters that are kept afterwards are those of the formulas before, with these formulas behind
-- them
abbrev pub KeepsMasters : List FormulaText → SharedFormulas → SharedFormulas → Type 0
KeepsMasters kept old new =
    (earlier : List FormulaText) → AreMasters earlier old →
    AreMasters (behind_formulas kept earlier) new

-- the formula of a child `f` was read: it is the last one of its cell, and its master is kept if
-- formulas are
pub record TakesFormula (keeps : Bool) (found : FormulaText) (old new : LastStep) : Type 0 where
  pub last : new.last ≡ Some found
  pub masters : KeepsMasters (kept_by keeps (found ∷ [])) old.masters new.masters

-- what a child of a cell does to the masters and the last formula, by the formula that it writes
abbrev pub StepsFormula : Bool → Option FormulaText → LastStep → LastStep → Type 0
StepsFormula keeps None old new = new ≡ old
StepsFormula keeps (Some found) old new = TakesFormula keeps found old new

-- the formula of a child of a cell was read, if the child writes one
pub record ReadsFormula
    (keeps : Bool) (tag : Tag) (inside : List Event) (old new : LastStep) : Type 0 where
  pub found : Option FormulaText
  pub said : said_formula tag inside ≡ Ok found
  pub steps : StepsFormula keeps found old new

-- the formulas of a cell's children were read: the cell writes these
pub record ReadsCellFormulas
    (keeps : Bool) (inside : List Event) (old : SharedFormulas) (new : LastStep) : Type 0 where
  pub written : List FormulaText
  pub listed : formulas_in inside ≡ Ok written
  pub last : new.last ≡ last_or None written
  pub masters : KeepsMasters (kept_by keeps written) old new.masters

-- the value that a child says, by what is asked for and what the start of its cell says
abbrev pub child_said : Asked → CellStart → Element → Result (Option CellValue) Refusal
child_said asked begun element =
    said_value (context_of asked.book) begun.format (kind_of begun.typ) element.tag element.inside

-- when the child at whose start a reader stands can't be read, by what is wanted of it
abbrev pub ChildFailsBy : Asked → CellStart → Element → Reading → Reading → XlsxError → Type 0
ChildFailsBy asked begun element old new error =
    ChildFails asked.wants (context_of asked.book) begun.format (kind_of begun.typ) element.tag
    old new error

-- What a child leaves of what the children before it said, where it can be read; a reader stands at
-- its start. `before` and `behind` are the masters.
pub record TakesChild
    {A : Type 0} (asked : Asked) (begun : CellStart) (result : Result A XlsxError) (r : Reading)
    (before behind : SharedFormulas) (old new : CellContents) : Type 0 where
  pub value :
      r.source.is_visible ≡ true → asked.wants.values ≡ true → (element : Element) →
      StandsAtElement element r → OnOk result
      (or_earlier (value_kept old.value) (child_said asked begun element)
      ≡ Ok (value_kept new.value))
  pub formula :
      r.source.is_visible ≡ true → asked.wants.formulas ≡ true → (element : Element) →
      StandsAtElement element r → OnOk result
      (ReadsFormula asked.keeps_masters element.tag element.inside
      (record { masters = before; last = last_seen old.formula })
      (record { masters = behind; last = last_seen new.formula }))
  pub covers :
      r.source.is_visible ≡ true → asked.wants.formulas ≡ true → (element : Element) →
      StandsAtElement element r → OnOk result
      (covers_seen new.formula ≡ covers_with (covers_seen old.formula) element)
  pub same : asked.wants.formulas ≡ false → OnOk result (behind ≡ before)
  pub unvalued : asked.wants.values ≡ false → OnOk result (new.value ≡ old.value)
  pub unlisted : asked.wants.formulas ≡ false → OnOk result (new.formula ≡ old.formula)

-- What the children of a cell say, all together; a reader stands at its start.
pub record ReadsContents
    (asked : Asked) (begun : CellStart) (r : Reading) (before behind : SharedFormulas)
    (contents : CellContents) : Type 0 where
  pub value :
      r.source.is_visible ≡ true → asked.wants.values ≡ true →
      value_in (context_of asked.book) begun.format (kind_of begun.typ) (content 0 (ahead r))
      ≡ or_nothing (Ok (value_kept contents.value))
  pub formula :
      r.source.is_visible ≡ true → asked.wants.formulas ≡ true →
      ReadsCellFormulas asked.keeps_masters (content 0 (ahead r)) before
      (record { masters = behind; last = last_seen contents.formula })
  pub covers :
      r.source.is_visible ≡ true → asked.wants.formulas ≡ true →
      covers_seen contents.formula ≡ covers_in (content 0 (ahead r))
  pub same : asked.wants.formulas ≡ false → behind ≡ before
  pub unvalued : asked.wants.values ≡ false → contents.value ≡ None
  pub unlisted : asked.wants.formulas ≡ false → contents.formula ≡ None
