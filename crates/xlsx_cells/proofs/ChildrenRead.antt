-- How the children of a cell are read, and why they are refused.
use Rattle.std.proofs.Common.{◌≡◌, List, [], ◌∷◌, ◌++◌, Bool, true, false, Option, Some, None}
use Rattle.std.proofs.Common.{Result, Ok, Err, refl, sym, subst, ◌∙◌, ap, inl, inr, codes, length}
use Rattle.std.proofs.Common.{◌⊎◌}
use Rattle.std.specs.Prelude.{◌||◌}
use Rattle.std.specs.List.{last_or}
use Rattle.part_events.specs.Words.{Tag, Event, Reading, Element}
use Rattle.xlsx_error.specs.declared.error.XlsxError.{XlsxError}
use Rattle.cell_data.specs.declared.format.CellFormat.{CellFormat}
use Rattle.cell_refs.specs.declared.dimensions.Dimensions.{Dimensions}
use Rattle.xlsx_sections.specs.Words.{or_earlier, some_answers, prepended, ElementReadFails}
use Rattle.xlsx_sections.specs.Words.{IsInsideRefused, PartSection, always, inside_of, Refusal}
use Rattle.xlsx_sections.specs.Words.{plain, stray_child, in_element}
use Rattle.xlsx_sections.proofs.Kept.{some_passed, some_taken, some_refused, all_taken}
use Rattle.xlsx_sections.proofs.Kept.{prepended-nil}
use Rattle.xlsx_sections.proofs.Refused.{refused_by}
use Rattle.xlsx_values.specs.Words.{CellKind, ValueContext, value_element, said_value, end_in_value}
use Rattle.xlsx_formulas.specs.Words.{FormulaText, formula_text, said_formula, some_formula}
use Rattle.xlsx_formulas.specs.Words.{child_formula, formulas_in, behind_formulas, covers_with}
use Rattle.xlsx_formulas.specs.Words.{covers_along, AreMasters}
use Rattle.xlsx_formulas.specs.declared.shared_formulas.SharedFormulas.{SharedFormulas}
use Rattle.xlsx_formulas.proofs.Cells.{behind_further, last_further}
use Rattle.xlsx_cells.specs.Children.{IsNamedAs, IsChildRefused, ChildFails, LastStep, StepsFormula}
use Rattle.xlsx_cells.specs.Children.{ReadsFormula, ReadsCellFormulas, KeepsMasters, kept_by}
use Rattle.xlsx_cells.specs.Ends.{reads_children, end_in_child}
use Rattle.xlsx_cells.specs.declared.children.ChildName.TheVariants.{Formula, Value, Stray}
use Rattle.xlsx_cells.specs.declared.children.Wants.{Wants}

pub formula_fails : (wants : Wants) (context : ValueContext) (format : CellFormat) (kind : CellKind)
    (tag : Tag) (old new : Reading) (error : XlsxError) → IsNamedAs Formula tag
    → wants.formulas ≡ true → ElementReadFails (always (codes "f")) (formula_text tag) old new error
    → ChildFails wants context format kind tag old new error
formula_fails wants context format kind tag old new error named wanted fails =
    refused_by (length old.names) old (always (codes "f")) (end_in_child wants kind tag)
    (IsInsideRefused (formula_text tag)) (IsChildRefused wants context format kind tag) new error
    (λ told. rw (named, wanted) refl)
    (λ told refusal is. inr (wanted, rw named (ap some_formula is))) fails

pub value_fails : (wants : Wants) (context : ValueContext) (format : CellFormat) (kind : CellKind)
    (tag : Tag) (old new : Reading) (error : XlsxError) → IsNamedAs Value tag
    → wants.values ≡ true
    → ElementReadFails (end_in_value kind) (value_element context format kind) old new error
    → ChildFails wants context format kind tag old new error
value_fails wants context format kind tag old new error named wanted fails =
    refused_by (length old.names) old (end_in_value kind) (end_in_child wants kind tag)
    (IsInsideRefused (value_element context format kind))
    (IsChildRefused wants context format kind tag) new error
    (λ told. rw (named.0, named.1, wanted) refl)
    (λ told refusal is. inl (wanted, rw (named.0, named.1) is)) fails

stray_if : (values formulas : Bool) (P Q : Type 0) → (values || formulas) ≡ true → P → Q
    → ((values ≡ true) × P) ⊎ ((formulas ≡ true) × Q)
stray_if true formulas P Q some p q = inl (refl, p)
stray_if false true P Q some p q = inr (refl, q)
stray_if false false P Q some p q = absurd (cc)

pub stray_refused : (wants : Wants) (context : ValueContext) (format : CellFormat) (kind : CellKind)
    (tag : Tag) (s : PartSection) → IsNamedAs Stray tag → reads_children wants ≡ true
    → IsChildRefused wants context format kind tag s (plain stray_child)
stray_refused wants context format kind tag s named some =
    stray_if wants.values wants.formulas
    (said_value context format kind tag (inside_of s) ≡ Err (plain stray_child))
    (said_formula tag (inside_of s) ≡ Err (plain stray_child)) some
    (rw (named.0, named.1, named.2) refl) (rw (named.0, named.1, named.2) refl)

pub or_earlier_in_element : {A : Type 0} (element : Element) (kept next : Option A)
    (said : Result (Option A) Refusal) → or_earlier kept said ≡ Ok next
    → or_earlier kept (in_element element said) ≡ Ok next
or_earlier_in_element element kept next (Ok found) is = is
or_earlier_in_element element kept next (Err refusal) is = absurd (cc)

-- The children of a cell were read but for those that are left: the cell has written these formulas
-- so far. `all` is what all children say.
pub record HasWritten
    (keeps : Bool) (all : Result (List FormulaText) Refusal) (left : List Element)
    (old now : SharedFormulas) (latest : Option FormulaText) : Type 0 where
  pub written : List FormulaText
  pub formulas : prepended written (some_answers child_formula left) ≡ all
  pub last : latest ≡ last_or None written
  pub masters : KeepsMasters (kept_by keeps written) old now

none_kept : (keeps : Bool) → kept_by keeps [] ≡ []
none_kept true = refl
none_kept false = refl

pub written_none : (keeps : Bool) (left : List Element) (first : SharedFormulas)
    → HasWritten keeps (some_answers child_formula left) left first first None
written_none keeps left first = record {
  written = [];
  formulas = prepended-nil (some_answers child_formula left);
  last = refl;
  masters = λ earlier are. rw (none_kept keeps) are;
}

-- one formula was read, and kept where it is to be
pub kept_one : (keeps : Bool) (found : FormulaText) (old new : SharedFormulas) → keeps ≡ true
    → KeepsMasters (found ∷ []) old new → KeepsMasters (kept_by keeps (found ∷ [])) old new
kept_one true found old new is keeps = keeps
kept_one false found old new is keeps = absurd (cc)

pub kept_none_of : (keeps : Bool) (found : FormulaText) (old new : SharedFormulas) → keeps ≡ false
    → new ≡ old → KeepsMasters (kept_by keeps (found ∷ [])) old new
kept_none_of true found old new is same = absurd (cc)
kept_none_of false found old new is same = λ earlier are. rw same are

kept_further : (keeps : Bool) (written earlier : List FormulaText) (found : FormulaText)
    → behind_formulas (kept_by keeps (written ++ found ∷ [])) earlier
    ≡ behind_formulas (kept_by keeps (found ∷ [])) (behind_formulas (kept_by keeps written) earlier)
kept_further true written earlier found = behind_further written earlier found
kept_further false written earlier found = refl

written_by : {keeps : Bool} {all : Result (List FormulaText) Refusal} {left rest : List Element}
    {first : SharedFormulas} {child : Element} (old new : LastStep) (found : Option FormulaText)
    → HasWritten keeps all left first old.masters old.last → left ≡ child ∷ rest
    → child_formula child ≡ Ok found → StepsFormula keeps found old new
    → HasWritten keeps all rest first new.masters new.last
written_by old new None has same is steps = rw steps (record {
  written = has.written;
  formulas = some_passed child_formula has.written same is has.formulas;
  last = has.last;
  masters = has.masters;
})
written_by {keeps = keeps} old new (Some own) has same is steps = record {
  written = has.written ++ own ∷ [];
  formulas = some_taken child_formula has.written same is has.formulas;
  last = steps.last ∙ sym (last_further None has.written own);
  masters = λ earlier are.
      subst (λ (before : List FormulaText). AreMasters before new.masters)
      (sym (kept_further keeps has.written earlier own))
      (steps.masters (behind_formulas (kept_by keeps has.written) earlier)
      (has.masters earlier are));
}

-- a child more
pub written_further : {keeps : Bool} {all : Result (List FormulaText) Refusal}
    {left rest : List Element} {first : SharedFormulas} {child : Element} (old new : LastStep)
    → HasWritten keeps all left first old.masters old.last → left ≡ child ∷ rest
    → ReadsFormula keeps child.tag child.inside old new
    → HasWritten keeps all rest first new.masters new.last
written_further {child = child} old new has same step =
    written_by old new step.found has same (ap (in_element child) step.said) step.steps

pub formulas_refused : {keeps : Bool} {all : Result (List FormulaText) Refusal}
    {left rest : List Element} {first now : SharedFormulas} {last : Option FormulaText}
    {child : Element}
    {refusal : Refusal} → HasWritten keeps all left first now last → left ≡ child ∷ rest
    → child_formula child ≡ Err refusal → all ≡ Err refusal
formulas_refused has same refuses =
    some_refused child_formula has.written same refuses has.formulas

-- all children were read
pub formulas_whole : {keeps : Bool} {inside : List Event} {left : List Element}
    {first : SharedFormulas}
    (new : LastStep) → HasWritten keeps (formulas_in inside) left first new.masters new.last
    → left ≡ [] → ReadsCellFormulas keeps inside first new
formulas_whole new has none = record {
  written = has.written;
  listed = all_taken child_formula has.written none has.formulas;
  last = has.last;
  masters = has.masters;
}

-- what the last formula covers, behind a child more
pub covers_further : (latest next whole : Option Dimensions) (child : Element)
    (left rest : List Element) → left ≡ child ∷ rest → next ≡ covers_with latest child
    → covers_along latest left ≡ whole → covers_along next rest ≡ whole
covers_further latest next whole child left rest same step is = rw step (rw same at is)

-- and behind all of them
pub covers_whole : (latest whole : Option Dimensions) (left : List Element) → left ≡ []
    → covers_along latest left ≡ whole → latest ≡ whole
covers_whole latest whole left none is = rw none at is
