use Rattle.std.proofs.lemmas.Result.{err_from_is_err_and}
use Rattle.std.proofs.Common.{◌∙◌, ap, ℕ, Vec, Global}
use Rattle.xlsx_core.specs.Words.{loaded_tables}
use Rattle.xlsx_tables.specs.Tables.{TablesCause}
use Rattle.xlsx_commands.proofs.SheetsOpened.{listing_is_listed}
use Rattle.xlsx_commands.proofs.table_lines.table_lines.Goals as goal

pub returns-in_err-xlsx-clause-err : goal.returns-in_err-xlsx-clause-err
returns-in_err-xlsx-clause-err c =
    let handed = err_from_is_err_and c.from_residual.result c.from_residual.ensures.1 in
    rw (handed.1, handed.2)
    (listing_is_listed TablesCause c.args.package.parts c.in_err-xlsx.field-0.0
    c.in_err-xlsx.ensures.err)

pub returns-clause-ok : goal.returns-clause-ok
returns-clause-ok c =
    let opened = c.in_ok-xlsx.ensures.ok in
    record {
      tables = loaded_tables c.in_ok-xlsx.xlsx;
      has = record { opening = opened.opening; opens = opened.opens; taken = opened.taken };
      listed = ap (λ (own : Vec ℕ Global). own.items) c.into_bytes.ensures.value
          ∙ c.in_ok-lines_of_tables.ensures;
    }
