use Rattle.std.proofs.Common.{◌≡◌, ◌∷◌, ◌+◌, ◌<◌, ℕ, List, None, Ok, Err, ap, ◌∙◌, arith}
use Rattle.std.proofs.lemmas.Result.{IfOk-weaker, IfErr-weaker, err_from_is_err_and}
use Rattle.cell_refs.specs.declared.TheConstants.{MAX_ROWS, MAX_COLUMNS}
use Rattle.part_events.specs.Words.{tag_of, Element}
use Rattle.xlsx_sections.specs.Words.{Refusal}
use Rattle.xlsx_cells.specs.Counting.{AreKept, IsRefused}
use Rattle.xlsx_cells.specs.Marks.{Mark, cell}
use Rattle.xlsx_cells.specs.Position.{or_implied, position_named, row_counter, column_counter}
use Rattle.xlsx_cells.specs.Position.{cell_position, implied_position}
use Rattle.xlsx_cells.proofs.CountersMoved.{column_counter_unnamed, implied_refused}
use Rattle.xlsx_cells.proofs.Refusing.{is_refused_weaker}
use Rattle.xlsx_cells.proofs.counters.Counters.position.Goals as goal

pub returns-in_err-position-clause-err : goal.returns-in_err-position-clause-err
returns-in_err-position-clause-err c =
    let tag = tag_of c.args.tag in
    let p = err_from_is_err_and c.from_residual.result c.from_residual.ensures.1 in
    rw (p.1, p.2)
    (is_refused_weaker (λ (refusal : Refusal). position_named tag ≡ Err refusal)
    (λ (refusal : Refusal). (before : List Mark) → AreKept before c.args.self
    → cell_position before tag ≡ Err refusal) c.in_err-position.field-0.0
    (λ refusal is before kept. ap (or_implied before) is) c.in_err-position.ensures.err)

pub returns-in-None-clause-behind : goal.returns-in-None-clause-behind
returns-in-None-clause-behind c =
    let unnamed : position_named (tag_of c.args.tag) ≡ Ok None =
    c.in_ok-position.ensures.ok ∙ ap Ok c.in-None.is in
    IfOk-weaker c.implied_position.result
    (λ position. (position ≡ (c.args.self.row, c.args.self.column))
    × (c.args.self.row < MAX_ROWS) × (c.args.self.column < MAX_COLUMNS))
    (λ position. (before : List Mark) (element : Element) → AreKept before c.args.self
    → element.tag ≡ tag_of c.args.tag
    → column_counter 0 (cell element ∷ before) ≡ position.1 + 1)
    (λ position same before element kept is.
    omega (
      arith,
      column_counter_unnamed element before (ap position_named is ∙ unnamed),
      kept.column,
      same.2,
      ap (λ (p : ℕ × ℕ). p.1) same.0,
    ))
    c.implied_position.ensures.same

pub returns-in-None-clause-err : goal.returns-in-None-clause-err
returns-in-None-clause-err c =
    let tag = tag_of c.args.tag in
    let unnamed : position_named tag ≡ Ok None =
    c.in_ok-position.ensures.ok ∙ ap Ok c.in-None.is in
    IfErr-weaker c.implied_position.result
    (IsRefused (λ (refusal : Refusal).
    implied_position c.args.self.row c.args.self.column ≡ Err refusal))
    (IsRefused (λ (refusal : Refusal). (before : List Mark) → AreKept before c.args.self
    → cell_position before tag ≡ Err refusal))
    (λ error refuses. is_refused_weaker (λ (refusal : Refusal).
    implied_position c.args.self.row c.args.self.column ≡ Err refusal)
    (λ (refusal : Refusal). (before : List Mark) → AreKept before c.args.self
    → cell_position before tag ≡ Err refusal) error
    (λ refusal is before kept. ap (or_implied before) unnamed
    ∙ implied_refused c.args.self.row c.args.self.column (row_counter 0 before)
    (column_counter 0 before) refusal kept.row kept.column is) refuses)
    c.implied_position.ensures.err
