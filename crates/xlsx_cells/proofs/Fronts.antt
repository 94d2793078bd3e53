-- Marks and events that were passed, and what is refused behind them.
use Rattle.std.proofs.Common.{◌≡◌, ℕ, List, [], ◌∷◌, ◌++◌, append_assoc, Option, Result, Ok, Err}
use Rattle.std.proofs.Common.{refl, sym, ◌∙◌, ap, subst, inl, inr}
use Rattle.part_events.specs.Words.{Event, start, end, Element, unclosed}
use Rattle.xlsx_sections.specs.Words.{Refusal}
use Rattle.xlsx_cells.specs.Finding.{BehindRow, IsMarkRefused, PassesTo, TakesElement, LacksCell}
use Rattle.xlsx_cells.specs.Finding.{open_mark}
use Rattle.xlsx_cells.specs.Marks.{Mark, row_start, row_end, cell, is_cell_start, marks}
use Rattle.xlsx_cells.specs.Marks.{behind_marks}
use Rattle.xlsx_cells.specs.Position.{row_named, PassesMarks, IsPlaced, NoCell}

pub behind_append : (first second before : List Mark) → behind_marks (first ++ second) before
    ≡ behind_marks second (behind_marks first before)
behind_append [] second before = refl
behind_append (mark ∷ first) second before = behind_append first second (mark ∷ before)

pub passes_both : (passes : List Mark → Element → Type 0) (first second before : List Mark)
    → PassesMarks passes before first → PassesMarks passes (behind_marks first before) second
    → PassesMarks passes before (first ++ second)
passes_both passes [] second before own more = more
passes_both passes (row_start tag ∷ first) second before own more =
    (own.0, passes_both passes first second (row_start tag ∷ before) own.1 more)
passes_both passes (row_end ∷ first) second before own more =
    passes_both passes first second (row_end ∷ before) own more
passes_both passes (cell element ∷ first) second before own more =
    (own.0, passes_both passes first second (cell element ∷ before) own.1 more)

pub passes_weaker : {one more : List Mark → Element → Type 0}
    → ((before : List Mark) (element : Element) → one before element → more before element)
    → (passed before : List Mark) → PassesMarks one before passed → PassesMarks more before passed
passes_weaker weaker [] before is = is
passes_weaker weaker (row_start tag ∷ passed) before is =
    (is.0, passes_weaker weaker passed (row_start tag ∷ before) is.1)
passes_weaker weaker (row_end ∷ passed) before is =
    passes_weaker weaker passed (row_end ∷ before) is
passes_weaker weaker (cell element ∷ passed) before is =
    (weaker before element is.0, passes_weaker weaker passed (cell element ∷ before) is.1)

-- what is refused behind marks that were passed
refused_behind : (passes : List Mark → Element → Type 0)
    (refused : List Mark → Element → Refusal → Type 0) (passed before others : List Mark)
    (refusal : Refusal) → PassesMarks passes before passed
    → IsMarkRefused passes refused (behind_marks passed before) others refusal
    → IsMarkRefused passes refused before (passed ++ others) refusal
refused_behind passes refused [] before others refusal own is = is
refused_behind passes refused (row_start tag ∷ passed) before others refusal own is =
    rw own.0.1
    (refused_behind passes refused passed (row_start tag ∷ before) others refusal own.1 is)
refused_behind passes refused (row_end ∷ passed) before others refusal own is =
    refused_behind passes refused passed (row_end ∷ before) others refusal own is
refused_behind passes refused (cell element ∷ passed) before others refusal own is = inr (
  own.0,
  refused_behind passes refused passed (cell element ∷ before) others refusal own.1 is,
)

row_weaker : {P Q : Type 0} (row : Result (Option ℕ) Refusal) (refusal : Refusal) → (P → Q)
    → BehindRow row refusal P → BehindRow row refusal Q
row_weaker (Ok row) refusal weaker is = weaker is
row_weaker (Err own) refusal weaker is = is

pub mark_weaker : {one more : List Mark → Element → Type 0}
    {after before : List Mark → Element → Refusal → Type 0}
    → ((own : List Mark) (element : Element) → one own element → more own element)
    → ((own : List Mark) (element : Element) (refusal : Refusal)
    → after own element refusal → before own element refusal)
    → (behind others : List Mark) (refusal : Refusal)
    → IsMarkRefused one after behind others refusal
    → IsMarkRefused more before behind others refusal
mark_weaker passes weaker behind [] refusal is = absurd is
mark_weaker passes weaker behind (row_start tag ∷ others) refusal is =
    row_weaker (row_named tag) refusal
    (mark_weaker passes weaker (row_start tag ∷ behind) others refusal) is
mark_weaker passes weaker behind (row_end ∷ others) refusal is =
    mark_weaker passes weaker (row_end ∷ behind) others refusal is
mark_weaker passes weaker behind (cell element ∷ others) refusal (inl own) =
    inl (weaker behind element refusal own)
mark_weaker passes weaker behind (cell element ∷ others) refusal (inr further) =
    inr (
      passes behind element further.0,
      mark_weaker passes weaker (cell element ∷ behind) others refusal further.1,
    )

-- ---- marks with their events

abbrev pub front_none : (passes : List Mark → Element → Type 0) (before : List Mark)
    (events : List Event)
    → PassesTo passes before events events
front_none passes before events =
    record { passed = []; fact = record {}; marks = refl; taken = []; events = refl }

abbrev pub front_joined : {passes : List Mark → Element → Type 0} {before : List Mark}
    {old mid new : List Event} → (first : PassesTo passes before old mid)
    → PassesTo passes (behind_marks first.passed before) mid new → PassesTo passes before old new
front_joined {passes = passes} {before = before} {new = new} first second = record {
  passed = first.passed ++ second.passed;
  fact = passes_both passes first.passed second.passed before first.fact second.fact;
  marks = first.marks ∙ ap (λ (others : List Mark). first.passed ++ others) second.marks
      ∙ sym (append_assoc first.passed second.passed (marks new));
  taken = first.taken ++ second.taken;
  events = first.events ∙ ap (λ (others : List Event). first.taken ++ others) second.events
      ∙ sym (append_assoc first.taken second.taken new);
}

abbrev pub front_same : {passes : List Mark → Element → Type 0} {before : List Mark}
    {old mid new : List Event} → PassesTo passes before old mid → mid ≡ new
    → PassesTo passes before old new
front_same front same = record {
  passed = front.passed;
  fact = front.fact;
  marks = front.marks ∙ ap (λ (events : List Event). front.passed ++ marks events) same;
  taken = front.taken;
  events = front.events ∙ ap (λ (events : List Event). front.taken ++ events) same;
}

abbrev pub front_weaker : {one more : List Mark → Element → Type 0} {before : List Mark}
    {old new : List Event}
    → ((own : List Mark) (element : Element) → one own element → more own element)
    → PassesTo one before old new → PassesTo more before old new
front_weaker {before = before} weaker front = record {
  passed = front.passed;
  fact = passes_weaker weaker front.passed before front.fact;
  marks = front.marks;
  taken = front.taken;
  events = front.events;
}

-- over a cell that was taken and passes
abbrev pub front_over : {passes : List Mark → Element → Type 0} {before : List Mark}
    {element : Element}
    {old new : List Event} → (takes : TakesElement passes before element old new)
    → passes (behind_marks takes.front.passed before) element → PassesTo passes before old new
front_over {element = element} {new = new} takes is =
    let own = end takes.name ∷ [] in
    front_joined takes.front (record {
      passed = cell element ∷ [];
      fact = (is, record {});
      marks = takes.next;
      taken = start element.tag ∷ (element.inside ++ own);
      events = ap (λ (events : List Event). start element.tag ∷ events)
          (sym (append_assoc element.inside own new));
    })

-- a cell that is taken behind others that were passed
abbrev pub taken_behind : {passes : List Mark → Element → Type 0} {before : List Mark}
    {element : Element}
    {old mid new : List Event} → (front : PassesTo passes before old mid)
    → TakesElement passes (behind_marks front.passed before) element mid new
    → TakesElement passes before element old new
taken_behind front takes = record {
  name = takes.name;
  front = front_joined front takes.front;
  next = takes.next;
  place = takes.place;
}

abbrev pub taken_weaker : {one more : List Mark → Element → Type 0} {before : List Mark}
    {element : Element} {old new : List Event}
    → ((own : List Mark) (other : Element) → one own other → more own other)
    → TakesElement one before element old new → TakesElement more before element old new
taken_weaker weaker takes = record {
  name = takes.name;
  front = front_weaker weaker takes.front;
  next = takes.next;
  place = takes.place;
}

pub refused_behind_front : {passes : List Mark → Element → Type 0} {before : List Mark}
    {old new : List Event} (refused : List Mark → Element → Refusal → Type 0) (refusal : Refusal)
    → (front : PassesTo passes before old new)
    → IsMarkRefused passes refused (behind_marks front.passed before) (marks new) refusal
    → IsMarkRefused passes refused before (marks old) refusal
refused_behind_front {passes = passes} {before = before} {new = new} refused refusal front is =
    subst (λ (all : List Mark). IsMarkRefused passes refused before all refusal) (sym front.marks)
    (refused_behind passes refused front.passed before (marks new) refusal front.fact is)

pub no_cell : (before : List Mark) (element : Element) → NoCell before element
    → IsPlaced before element
no_cell before element is = absurd is

-- what is refused behind a cell that was taken
pub refused_further : {before : List Mark} {element : Element} {old new : List Event}
    (refused : List Mark → Element → Refusal → Type 0) (refusal : Refusal)
    → (takes : TakesElement NoCell before element old new)
    → IsPlaced (behind_marks takes.front.passed before) element
    → IsMarkRefused IsPlaced refused (cell element ∷ behind_marks takes.front.passed before)
    (marks new) refusal
    → IsMarkRefused IsPlaced refused before (marks old) refusal
refused_further {before = before} {element = element} {new = new} refused refusal takes placed is =
    refused_behind_front refused refusal (front_over (taken_weaker no_cell takes) placed)
    (subst (λ (own : List Mark). IsMarkRefused IsPlaced refused own (marks new) refusal)
    (sym (behind_append takes.front.passed (cell element ∷ []) before)) is)

-- all marks are passed where those behind the front are
pub passes_all : {passes : List Mark → Element → Type 0} {before : List Mark}
    {old new : List Event} → (front : PassesTo passes before old new)
    → PassesMarks passes (behind_marks front.passed before) (marks new)
    → PassesMarks passes before (marks old)
passes_all {passes = passes} {before = before} {new = new} front rest =
    subst (PassesMarks passes before) (sym front.marks)
    (passes_both passes front.passed (marks new) before front.fact rest)

-- no cell is left behind them, but one that is left open
pub lacks_behind : {passes : List Mark → Element → Type 0} {before : List Mark}
    {old new : List Event} → (front : PassesTo passes before old new)
    → unclosed is_cell_start new ≡ unclosed is_cell_start old
    → LacksCell passes (behind_marks front.passed before) new → LacksCell passes before old
lacks_behind {passes = passes} {before = before} {new = new} front same lacks = record {
  passed = front.passed ++ lacks.passed;
  fact = passes_both passes front.passed lacks.passed before front.fact lacks.fact;
  marks = front.marks ∙ ap (λ (others : List Mark). front.passed ++ others) lacks.marks
      ∙ sym (append_assoc front.passed lacks.passed (open_mark (unclosed is_cell_start new)))
      ∙ ap (λ (found : Option Element). (front.passed ++ lacks.passed) ++ open_mark found) same;
}

pub lacks_weaker : {one more : List Mark → Element → Type 0} {before : List Mark}
    {inside : List Event}
    → ((own : List Mark) (element : Element) → one own element → more own element)
    → LacksCell one before inside → LacksCell more before inside
lacks_weaker {before = before} weaker lacks = record {
  passed = lacks.passed;
  fact = passes_weaker weaker lacks.passed before lacks.fact;
  marks = lacks.marks;
}
