use Rattle.std.proofs.Common.{◌∷◌, List, ◌∙◌, subst, inl, inr}
use Rattle.xlsx_values.specs.Words.{ValueContext}
use Rattle.xlsx_formulas.specs.Words.{FormulaText, behind_formulas}
use Rattle.xlsx_cells.specs.Words.{stream_by, context_by, IsValued, IsValuedFormula, cell}
use Rattle.xlsx_cells.specs.Words.{behind_marks, NoCell, TakesCell, StandsBehind, PassesCell}
use Rattle.tests_calls.proofs.taking.two_taken.Goals as goal

pub returns-clause-takes : goal.returns-clause-takes
returns-clause-takes g c = λ told before earlier kept.
    let old = stream_by c.args.reader.now in
    let mid = stream_by c.next_cell.new.self in
    let new = stream_by c.next_cell_with_formula.new.self in
    let context = context_by c.args.reader.now in
    let first : TakesCell NoCell before earlier old mid (IsValued context c.in-Some.first) =
    rw c.in-Some.is at (c.in_ok-first.ensures.takes told before earlier kept) in
    let behind = cell first.element ∷ behind_marks first.takes.front.passed before in
    let stands : StandsBehind behind earlier mid =
    subst (λ (own : List FormulaText). StandsBehind behind (behind_formulas own earlier) mid)
    first.holds.none first.stands in
    let second : TakesCell NoCell behind earlier mid new
    (IsValuedFormula (context_by c.next_cell.new.self) earlier c.in-Some-2.second) =
    rw c.in-Some-2.is at (c.in_ok-second.ensures.takes
    (c.in_ok-first.ensures.step.reads.moves.parts.is_visible ∙ told) behind earlier stands) in
    record {
      mid = mid;
      first = first;
      second = subst (λ (own : ValueContext). TakesCell NoCell behind earlier mid new
          (IsValuedFormula own earlier c.in-Some-2.second)) c.in_ok-first.ensures.hold.context
          second;
    }

pub returns-in_default-clause-none : goal.returns-in_default-clause-none
returns-in_default-clause-none g c = λ told before earlier kept.
    inl (rw c.in_default.is at (c.in_ok-first.ensures.takes told before earlier kept))

pub returns-in_default-2-clause-none : goal.returns-in_default-2-clause-none
returns-in_default-2-clause-none g c = λ told before earlier kept.
    let old = stream_by c.args.reader.now in
    let mid = stream_by c.next_cell.new.self in
    let own = c.in-Some.first in
    let first :
    TakesCell NoCell before earlier old mid (IsValued (context_by c.args.reader.now) own) =
    rw c.in-Some.is at (c.in_ok-first.ensures.takes told before earlier kept) in
    let passes : PassesCell own.pos old mid =
    rw c.in-Some.is at c.in_ok-first.ensures.step.stands in
    let behind = cell first.element ∷ behind_marks first.takes.front.passed before in
    let stands : StandsBehind behind earlier mid =
    subst (λ (kept : List FormulaText). StandsBehind behind (behind_formulas kept earlier) mid)
    first.holds.none first.stands in
    inr (
      mid,
      own,
      first,
      (rw c.in_default-2.is at (c.in_ok-second.ensures.takes
          (c.in_ok-first.ensures.step.reads.moves.parts.is_visible ∙ told) behind earlier stands))
          passes.goes_on.done,
    )
