use Rattle.std.proofs.Common.{◌∙◌, ap, ℕ, Vec, Global}
use Rattle.std.proofs.lemmas.Result.{err_from_is_err_and}
use Rattle.xlsx_pivots.specs.Words.{pivots_kept, PivotsCause}
use Rattle.xlsx_commands.proofs.SheetsOpened.{listing_is_listed}
use Rattle.xlsx_commands.proofs.pivot_lines.pivot_lines.Goals as goal

pub returns-in_err-pivots-clause-err : goal.returns-in_err-pivots-clause-err
returns-in_err-pivots-clause-err c =
    let handed = err_from_is_err_and c.from_residual.result c.from_residual.ensures.1 in
    rw (handed.1, handed.2)
    (listing_is_listed PivotsCause c.args.package.parts c.in_err-pivots.field-0.0
    c.in_err-pivots.ensures.err)

pub returns-clause-ok : goal.returns-clause-ok
returns-clause-ok c = record {
  pivots = pivots_kept c.in_ok-pivots.pivots;
  has = c.in_ok-pivots.ensures.ok;
  listed = ap (λ (own : Vec ℕ Global). own.items) c.into_bytes.ensures.value
      ∙ c.in_ok-lines_of_pivots.ensures;
}
