use Rattle.std.proofs.Common.{rules, ◌≡◌, ◌∙◌, ◌++◌, ◌∷◌, [], ap, sym, map, subst}
use Rattle.std.proofs.lemmas.List.{map-append}
use Rattle.std.specs.List.{flat_map}
use Rattle.cell_data.specs.Words.{row_items, row_left, rows_left}
use Rattle.cell_data.specs.declared.value.Data.{Data}
use Rattle.cell_data.proofs.Placing.{one_further}
use Rattle.csv_rows.specs.RowsText.{record_text}
use Rattle.csv_rows.specs.RowSteps.{IsBetweenRecords}
use Rattle.csv_rows.proofs.RowFields.{record_taken, all_given}
use Rattle.csv_rows.proofs.rows.write_rows.Goals as goal

pub loop-row-preserved : goal.loop-row-preserved
loop-row-preserved c =
    let given = map (row_left {X = Data}) c.loop-row.yielded in
    let own = row_left c.in-Some.row in
    let more = map-append (row_left {X = Data}) c.loop-row.yielded (c.in-Some.row ∷ []) in
    record {
      taken = λ before between.
          subst (λ rows. IsBetweenRecords c.args.options.now
          (before ++ flat_map (record_text c.args.options.now) rows) c.write_row.new.writer)
          (sym more)
          (record_taken given own c.args.options.now before c.loop-row.writer c.write_row.new.writer
          c.in_ok-write_row.ensures (c.loop-row.invariant.taken before between));
      whole = ap (λ rows. rows ++ rows_left c.next.new.self) more
          ∙ one_further given own _ _ _ c.in-Some.ensures.steps c.loop-row.invariant.whole;
    }

pub returns : goal.returns
returns c = λ before between.
    let none : rows_left c.loop-row.row-iterator ≡ [] =
    search (rules, c.in-None.ensures.steps.0) in
    let all = all_given (map (row_left {X = Data}) c.loop-row.yielded)
    (rows_left c.loop-row.row-iterator) (row_items c.args.range.now) none
    c.loop-row.invariant.whole in
    subst (λ rows. IsBetweenRecords c.args.options.now
    (before ++ flat_map (record_text c.args.options.now) rows) c.loop-row.writer) all
    (c.loop-row.invariant.taken before between)
