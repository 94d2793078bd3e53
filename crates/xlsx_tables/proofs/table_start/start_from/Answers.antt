use Rattle.std.proofs.Common.{◌≡◌, Ok, rules, string_bytes}
use Rattle.std.specs.Option.{option_copied}
use Rattle.cell_refs.specs.Words.{area}
use Rattle.xlsx_sections.specs.Words.{placed, decoded_at}
use Rattle.xlsx_sections.proofs.Failing.{given_back}
use Rattle.xlsx_tables.specs.TableParts.{rows_counted}
use Rattle.xlsx_tables.proofs.AreasInside.{area_inside, data_inside}
use Rattle.xlsx_tables.proofs.TablesRead.{name_fails, headers_fail, totals_fail}
use Rattle.xlsx_tables.proofs.table_start.start_from.Goals as goal

pub returns-in_err-name-clause-err : goal.returns-in_err-name-clause-err
returns-in_err-name-clause-err c =
    given_back _ c.from_residual.result c.from_residual.ensures.1
    (λ behind. name_fails c.args.at behind (decoded_at behind c.args.name.now)
    (placed (area c.args.reference.now)) (rows_counted 1 (option_copied c.args.headers))
    (rows_counted 0 (option_copied c.args.totals)) c.in_err-name.field-0.0
    (c.in_err-name.ensures.err behind))

pub returns-in_err-headers-clause-err : goal.returns-in_err-headers-clause-err
returns-in_err-headers-clause-err c =
    given_back _ c.from_residual-in_err-headers.result c.from_residual-in_err-headers.ensures.1
    (λ behind.
    let there : area c.args.reference.now ≡ Ok c.in_ok-area.area = search rules in
    rw (c.in_ok-name.ensures.ok behind, there)
    (headers_fail c.args.at behind (string_bytes c.in_ok-name.name) c.in_ok-area.area
    (rows_counted 1 (option_copied c.args.headers)) (rows_counted 0 (option_copied c.args.totals))
    c.in_err-headers.field-0.0 (c.in_err-headers.ensures.err c.args.at behind)))

pub returns-in_err-totals-clause-err : goal.returns-in_err-totals-clause-err
returns-in_err-totals-clause-err c =
    given_back _ c.from_residual-in_err-totals.result c.from_residual-in_err-totals.ensures.1
    (λ behind.
    let there : area c.args.reference.now ≡ Ok c.in_ok-area.area = search rules in
    rw (c.in_ok-name.ensures.ok behind, there, c.in_ok-headers.ensures.ok)
    (totals_fail c.args.at behind (string_bytes c.in_ok-name.name) c.in_ok-area.area
    c.in_ok-headers.headers (rows_counted 0 (option_copied c.args.totals))
    c.in_err-totals.field-0.0 (c.in_err-totals.ensures.err c.args.at behind)))

pub returns-clause-inside : goal.returns-clause-inside
returns-clause-inside c =
    let there : area c.args.reference.now ≡ Ok c.in_ok-area.area = search rules in
    rw c.data_area.ensures
    (data_inside c.in_ok-headers.headers c.in_ok-totals.totals c.in_ok-area.area
    (area_inside c.args.reference.now c.in_ok-area.area there))
