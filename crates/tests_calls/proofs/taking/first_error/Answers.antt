use Rattle.std.proofs.Common.{◌++◌, ◌∷◌, [], refl, sym, ◌∙◌, subst}
use Rattle.std.proofs.lemmas.Result.{err_from_is_err_and}
use Rattle.xlsx_values.specs.Words.{ValueContext}
use Rattle.xlsx_cells.specs.Words.{stream_by, context_by, IsValued, values_alone, NoCell}
use Rattle.xlsx_cells.specs.Words.{PassesCell, TakesCell, EndsData, NextCellFails}
use Rattle.xlsx_cells.proofs.WholeReadings.{took_none, took_further, took_refused, told_still}
use Rattle.tests_calls.proofs.FirstErrors.{values_and_one, none_further, error_found, no_error_left}
use Rattle.tests_calls.proofs.Through.{through_none, through_further}
use Rattle.tests_calls.proofs.taking.first_error.Goals as goal

pub cells-init : goal.cells-init
cells-init g c =
    let old = stream_by c.args.reader.now in
    let context = context_by c.args.reader.now in
    record {
      hold = refl;
      took = (
        [],
        refl,
        took_none values_alone context old c.requires.going c.requires.fresh,
        λ told. through_none (λ kept. IsValued context) old c.requires.fresh,
      );
    }

pub cells-preserved : goal.cells-preserved
cells-preserved g c =
    let mid = stream_by c.cells.reader in
    let new = stream_by c.next_cell.new.self in
    let now = c.cells.invariant in
    let (sound, none, took, through) = now.took in
    let own = c.in-Some.cell in
    let stands : PassesCell own.pos mid new = rw c.in-Some.is at c.in_ok-cell.ensures.step.stands in
    record {
      hold = c.in_ok-cell.ensures.hold.context ∙ now.hold;
      took = (
        sound ++ own ∷ [],
        none_further sound own none (sym c.is_error.ensures ∙ c.if-is_error.false),
        took_further took stands (λ told.
            let been = took.taken told in
            let takes : TakesCell NoCell been.before been.earlier mid new
            (IsValued (context_by c.cells.reader) own) =
            rw c.in-Some.is at (c.in_ok-cell.ensures.takes (told_still took told) been.before
            been.earlier been.stands) in
            values_and_one sound own been
            (subst (λ (context : ValueContext). TakesCell NoCell been.before been.earlier mid new
            (IsValued context own)) now.hold takes)),
        λ told.
            let been = through told in
            let takes : TakesCell NoCell been.before been.earlier mid new
            (IsValued (context_by c.cells.reader) own) =
            rw c.in-Some.is at (c.in_ok-cell.ensures.takes (told_still took told) been.before
            been.earlier been.stands) in
            through_further own been
            (subst (λ (context : ValueContext). TakesCell NoCell been.before been.earlier mid new
            (IsValued context own)) now.hold takes),
      );
    }

pub returns-then-is_error-clause-found : goal.returns-then-is_error-clause-found
returns-then-is_error-clause-found g c = λ told.
    let mid = stream_by c.cells.reader in
    let new = stream_by c.next_cell.new.self in
    let now = c.cells.invariant in
    let (sound, none, took, through) = now.took in
    let own = c.in-Some.cell in
    let been = took.taken told in
    let takes : TakesCell NoCell been.before been.earlier mid new
    (IsValued (context_by c.cells.reader) own) =
    rw c.in-Some.is at (c.in_ok-cell.ensures.takes (told_still took told) been.before
    been.earlier been.stands) in
    error_found sound own (values_and_one sound own been
    (subst (λ (context : ValueContext). TakesCell NoCell been.before been.earlier mid new
    (IsValued context own)) now.hold takes)) none
    (sym c.is_error.ensures ∙ c.if-is_error.true)

pub returns-then-is_error-clause-stops : goal.returns-then-is_error-clause-stops
returns-then-is_error-clause-stops g c = λ told.
    let mid = stream_by c.cells.reader in
    let new = stream_by c.next_cell.new.self in
    let now = c.cells.invariant in
    let (sound, none, took, through) = now.took in
    let own = c.in-Some.cell in
    let been = through told in
    let takes : TakesCell NoCell been.before been.earlier mid new
    (IsValued (context_by c.cells.reader) own) =
    rw c.in-Some.is at (c.in_ok-cell.ensures.takes (told_still took told) been.before
    been.earlier been.stands) in
    let last = through_further own been
    (subst (λ (context : ValueContext). TakesCell NoCell been.before been.earlier mid new
    (IsValued context own)) now.hold takes) in
    (sound, none, sym c.is_error.ensures ∙ c.if-is_error.true, last.reaches)

pub returns-clause-found : goal.returns-clause-found
returns-clause-found g c = λ told.
    let mid = stream_by c.cells.reader in
    let new = stream_by c.next_cell.new.self in
    let now = c.cells.invariant in
    let (sound, none, took, through) = now.took in
    let been = took.taken told in
    let ends : EndsData NoCell been.before mid new = rw c.in_default.is at
    (c.in_ok-cell.ensures.takes (told_still took told) been.before been.earlier been.stands)
    took.going.done in
    no_error_left sound been none ends

pub returns-in_err-cell-clause-err : goal.returns-in_err-cell-clause-err
returns-in_err-cell-clause-err g c =
    let mid = stream_by c.cells.reader in
    let new = stream_by c.next_cell.new.self in
    let error = c.in_err-cell.field-0.0 in
    let now = c.cells.invariant in
    let (sound, none, took, through) = now.took in
    let p = err_from_is_err_and c.from_residual.result c.from_residual.ensures.1 in
    rw (p.1, p.2) (took_refused new error took
    (subst (λ (context : ValueContext). NextCellFails values_alone context mid new.reading error)
    now.hold c.in_err-cell.ensures.err))

pub returns-in_err-cell-clause-before : goal.returns-in_err-cell-clause-before
returns-in_err-cell-clause-before g c = λ told.
    let mid = stream_by c.cells.reader in
    let new = stream_by c.next_cell.new.self in
    let error = c.in_err-cell.field-0.0 in
    let now = c.cells.invariant in
    let (sound, none, took, through) = now.took in
    let p = err_from_is_err_and c.from_residual.result c.from_residual.ensures.1 in
    rw (p.1, p.2) (
      sound,
      mid,
      none,
      (through told).reaches,
      subst (λ (context : ValueContext). NextCellFails values_alone context mid new.reading error)
          now.hold c.in_err-cell.ensures.err,
    )
