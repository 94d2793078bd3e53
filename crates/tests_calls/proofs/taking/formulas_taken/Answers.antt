use Rattle.std.proofs.Common.{◌≡◌, ℕ, List, Ok, ◌∷◌, [], map, refl, sym, ap, ◌∙◌, subst, append-nil}
use Rattle.std.proofs.lemmas.List.{map-append}
use Rattle.std.proofs.lemmas.Result.{err_from_is_err_and}
use Rattle.cell_data.specs.Words.{CellValue}
use Rattle.xlsx_values.specs.Words.{ValueContext, cell_value}
use Rattle.xlsx_cells.specs.Words.{stream_by, context_by, values_and_formulas, IsValuedFormula}
use Rattle.xlsx_cells.specs.Words.{NoCell, formula_value_entry, PassesCell, TakesCell, EndsData}
use Rattle.xlsx_cells.specs.Words.{NextCellFails}
use Rattle.xlsx_cells.proofs.WholeReadings.{ValuesTaken, values_further, values_whole, took_none}
use Rattle.xlsx_cells.proofs.WholeReadings.{took_further, took_refused, told_still}
use Rattle.tests_calls.proofs.Through.{through_none, through_further}
use Rattle.tests_calls.proofs.taking.formulas_taken.Goals as goal

pub cells-init : goal.cells-init
cells-init g c =
    let old = stream_by c.args.reader.now in
    let context = context_by c.args.reader.now in
    record {
      hold = refl;
      took = rw c.new-cells.ensures.items
          (took_none values_and_formulas context old c.requires.going c.requires.fresh);
      through = λ told. rw c.new-cells.ensures.items
          (through_none (IsValuedFormula context) old c.requires.fresh);
    }

pub cells-preserved : goal.cells-preserved
cells-preserved g c =
    let old = stream_by c.args.reader.now in
    let mid = stream_by c.cells.reader in
    let new = stream_by c.next_cell_with_formula.new.self in
    let now = c.cells.invariant in
    let own = c.in-Some.cell in
    let stands : PassesCell own.pos mid new = rw c.in-Some.is at c.in_ok-cell.ensures.step.stands in
    record {
      hold = c.in_ok-cell.ensures.hold.context ∙ now.hold;
      took = took_further now.took stands (λ told.
          let been = now.took.taken told in
          let takes : TakesCell NoCell been.before been.earlier mid new
          (IsValuedFormula (context_by c.cells.reader) been.earlier own) =
          rw c.in-Some.is at (c.in_ok-cell.ensures.takes (told_still now.took told) been.before
          been.earlier been.stands) in
          subst (λ (entries : List ((ℕ × ℕ) × CellValue)). ValuesTaken values_and_formulas
          (context_by c.args.reader.now) old new entries)
          (sym (ap (map formula_value_entry) c.in_ok-push.ensures.items
          ∙ map-append formula_value_entry c.cells.cells.items (own ∷ [])))
          (values_further (formula_value_entry own) been takes
          (λ before element kept is. (
            is.placed,
            subst (λ (context : ValueContext). cell_value context element.tag element.inside
                ≡ Ok (formula_value_entry own).1) now.hold is.valued,
          ))));
      through = λ told.
          let been = now.through told in
          let takes : TakesCell NoCell been.before been.earlier mid new
          (IsValuedFormula (context_by c.cells.reader) been.earlier own) =
          rw c.in-Some.is at (c.in_ok-cell.ensures.takes (told_still now.took told) been.before
          been.earlier been.stands) in
          rw c.in_ok-push.ensures.items (through_further own been
          (subst (λ (context : ValueContext). TakesCell NoCell been.before been.earlier mid new
          (IsValuedFormula context been.earlier own)) now.hold takes));
    }

pub returns-clause-values : goal.returns-clause-values
returns-clause-values g c = λ told.
    let mid = stream_by c.cells.reader in
    let new = stream_by c.next_cell_with_formula.new.self in
    let now = c.cells.invariant in
    let been = now.took.taken told in
    let ends : EndsData NoCell been.before mid new = rw c.in_default.is at
    (c.in_ok-cell.ensures.takes (told_still now.took told) been.before been.earlier been.stands)
    now.took.going.done in
    values_whole been ends

pub returns-clause-formulas : goal.returns-clause-formulas
returns-clause-formulas g c = λ told.
    let mid = stream_by c.cells.reader in
    let new = stream_by c.next_cell_with_formula.new.self in
    let now = c.cells.invariant in
    let been = now.through told in
    let ends : EndsData NoCell been.before mid new = rw c.in_default.is at
    (c.in_ok-cell.ensures.takes (told_still now.took told) been.before been.earlier been.stands)
    now.took.going.done in
    rw (sym (append-nil c.cells.cells.items)) (been.whole [] (new, ends))

pub returns-in_err-cell-clause-err : goal.returns-in_err-cell-clause-err
returns-in_err-cell-clause-err g c =
    let mid = stream_by c.cells.reader in
    let new = stream_by c.next_cell_with_formula.new.self in
    let error = c.in_err-cell.field-0.0 in
    let now = c.cells.invariant in
    let p = err_from_is_err_and c.from_residual.result c.from_residual.ensures.1 in
    rw (p.1, p.2) (took_refused new error now.took
    (subst (λ (context : ValueContext). NextCellFails values_and_formulas context mid
    new.reading error)
    now.hold c.in_err-cell.ensures.err))
