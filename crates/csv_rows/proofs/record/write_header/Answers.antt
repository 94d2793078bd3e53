use Rattle.std.proofs.Common.{◌++◌, subst, sym}
use Rattle.std.proofs.lemmas.Result.{on_ok_weaker}
use Rattle.csv_rows.proofs.RowFields.{header_is_record}
use Rattle.csv_rows.specs.RowSteps.{IsBetweenRecords}
use Rattle.csv_rows.proofs.record.write_header.Goals as goal

pub returns : goal.returns
returns c =
    on_ok_weaker c.write_names.result (λ takes options before between.
    let text = header_is_record options c.args.names.now c.is_empty.result c.is_empty.ensures
    c.if-is_empty.false in
    subst (λ text. IsBetweenRecords options (before ++ text) c.write_names.new.writer) (sym text)
    (takes options before between)) c.write_names.ensures
