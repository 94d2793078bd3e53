use Rattle.std.proofs.Common.{rules, ◌≡◌, ◌∙◌, ◌++◌, ◌∷◌, [], ap, sym, map, subst}
use Rattle.std.proofs.lemmas.List.{map-append}
use Rattle.std.proofs.lemmas.Result.{on_ok_weaker}
use Rattle.cell_data.specs.Words.{row_left}
use Rattle.cell_data.proofs.Placing.{one_further}
use Rattle.csv.specs.Writing.{row_text}
use Rattle.csv_rows.specs.RowsText.{data_field, writer_of}
use Rattle.csv_rows.specs.RowSteps.{IsInRecord, IsBetweenRecords}
use Rattle.csv_rows.proofs.RecordSteps.{record_begun}
use Rattle.csv_rows.proofs.RowFields.{shown, value_taken, all_given}
use Rattle.csv_rows.proofs.rows.write_row.Goals as goal

pub loop-value-init : goal.loop-value-init
loop-value-init c =
    let whole : row_left c.into_iter-value-iterator.result ≡ row_left c.args.row = search rules in
    record {
      taken = λ before between. record_begun c.args.options.now before c.args.writer.now between;
      whole = whole;
    }

pub loop-value-preserved : goal.loop-value-preserved
loop-value-preserved c =
    let values = map shown c.loop-value.yielded in
    let more = map-append shown c.loop-value.yielded (c.in-Some.value ∷ []) in
    record {
      taken = λ before between.
          subst (λ vs. IsInRecord c.args.options.now before
          (map (data_field c.args.options.now) vs) c.write_value.new.writer) (sym more)
          (value_taken c.args.row values (row_left c.loop-value.value-iterator)
          (row_left c.next.new.self) c.in-Some.value.now c.args.options.now before
          c.loop-value.writer
          c.write_value.new.writer c.in-Some.ensures.steps c.loop-value.invariant.whole
          c.in_ok-write_value.ensures (c.loop-value.invariant.taken before between));
      whole = ap (λ vs. vs ++ row_left c.next.new.self) more
          ∙ one_further values c.in-Some.value.now _ _ _ c.in-Some.ensures.steps
          c.loop-value.invariant.whole;
    }

pub returns : goal.returns
returns c =
    let none : row_left c.loop-value.value-iterator ≡ [] =
    search (rules, c.in-None.ensures.steps.0) in
    let all = all_given (map shown c.loop-value.yielded) (row_left c.loop-value.value-iterator)
    (row_left c.args.row) none c.loop-value.invariant.whole in
    on_ok_weaker c.end_record.result (λ ends before between.
    subst (λ values. IsBetweenRecords c.args.options.now (before
    ++ row_text (writer_of c.args.options.now) (map (data_field c.args.options.now) values))
    c.end_record.new.writer) all
    (ends c.args.options.now before _ (c.loop-value.invariant.taken before between)))
    c.end_record.ensures
