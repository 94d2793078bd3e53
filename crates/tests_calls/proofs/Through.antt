-- Cells that are taken one by one, from the start of the data on.
use Rattle.std.proofs.Common.{List, [], ◌∷◌, ◌++◌, refl, append_assoc}
use Rattle.part_events.specs.Words.{Element}
use Rattle.xlsx_formulas.specs.Words.{FormulaText, behind_formulas}
use Rattle.xlsx_cells.specs.Words.{Mark, cell, behind_marks, NoCell, Stream, StandsBehind}
use Rattle.xlsx_cells.specs.Words.{TakesCell, TakesAll}
use Rattle.tests_calls.specs.Taking.{TakesThrough}

-- These were taken; what is taken from there on is taken with them.
pub record TookThrough {A : Type 0}
    (fact : List FormulaText → A → List Mark → Element → List FormulaText → Type 0)
    (old now : Stream) (cells : List A) : Type 0 where
  pub before : List Mark
  pub earlier : List FormulaText
  pub stands : StandsBehind before earlier now
  pub reaches : TakesThrough fact [] [] old cells now
  pub onward :
      (others : List A) (new : Stream) → TakesThrough fact before earlier now others new →
      TakesThrough fact [] [] old (cells ++ others) new
  pub whole :
      (others : List A) → TakesAll fact before earlier now others →
      TakesAll fact [] [] old (cells ++ others)

pub through_none : {A : Type 0}
    (fact : List FormulaText → A → List Mark → Element → List FormulaText → Type 0)
    (old : Stream) → StandsBehind [] [] old → TookThrough fact old old []
through_none fact old stands = record {
  before = [];
  earlier = [];
  stands = stands;
  reaches = refl;
  onward = λ others new rest. rest;
  whole = λ others rest. rest;
}

-- one cell more
pub through_further : {A : Type 0}
    {fact : List FormulaText → A → List Mark → Element → List FormulaText → Type 0}
    {old mid new : Stream} {cells : List A} (own : A) → (been : TookThrough fact old mid cells)
    → TakesCell NoCell been.before been.earlier mid new (fact been.earlier own)
    → TookThrough fact old new (cells ++ own ∷ [])
through_further {new = new} {cells = cells} own been takes = record {
  before = cell takes.element ∷ behind_marks takes.takes.front.passed been.before;
  earlier = behind_formulas takes.kept been.earlier;
  stands = takes.stands;
  reaches = been.onward (own ∷ []) new (new, takes, refl);
  onward = λ others last rest. rw (append_assoc cells (own ∷ []) others)
      (been.onward (own ∷ others) last (new, takes, rest));
  whole = λ others rest. rw (append_assoc cells (own ∷ []) others)
      (been.whole (own ∷ others) (new, takes, rest));
}
