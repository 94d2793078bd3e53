use Rattle.std.proofs.Common.{◌++◌, ◌+◌, ◌≤◌, ◌-◌, ◌^◌, subst, arith, rules}
use Rattle.std.proofs.lemmas.List.{take_all}
use Rattle.std.proofs.lemmas.Result.{on_ok_weaker}
use Rattle.csv_rows.proofs.RecordSteps.{record_begun}
use Rattle.csv_rows.proofs.RowFields.{name_taken}
use Rattle.csv.specs.Writing.{row_text}
use Rattle.csv_rows.specs.RowsText.{header_fields, writer_of}
use Rattle.csv_rows.specs.RowSteps.{IsBetweenRecords}
use Rattle.csv_rows.proofs.record.write_names.Goals as goal

pub names-init : goal.names-init
names-init c = λ options before between. record_begun options before c.args.writer.now between

pub names-preserved : goal.names-preserved
names-preserved c = λ options before between.
    let fits : c.names.i + 1 ≤ 2 ^ 64 - 1 = search rules in
    name_taken c.args.names.now c.names.i c.index-names-i.result c.index-names-i.result
    c.as_bytes.result.now options before c.names.writer c.write_bytes.new.writer c.names-test.true
    (omega (arith, fits)) (search rules) c.as_bytes.ensures.value
    (c.in_ok-write_bytes.ensures options)
    (c.names.invariant options before between)

pub returns : goal.returns
returns c =
    on_ok_weaker c.end_record.result (λ ends options before between.
    subst (λ names. IsBetweenRecords options
    (before ++ row_text (writer_of options) (header_fields names)) c.end_record.new.writer)
    (take_all c.names.i c.args.names.now c.names-test.false)
    (ends options before _ (c.names.invariant options before between))) c.end_record.ensures
