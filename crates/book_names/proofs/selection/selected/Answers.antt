use Rattle.std.proofs.Common.{◌∙◌, sym, rules}
use Rattle.book_names.specs.Told.{part_told, table_told}
use Rattle.book_names.specs.declared.rows.RowSpan.TheVariants.{Unsaid}
use Rattle.book_names.proofs.Selecting.{begun, no_part, by_columns, no_rows, rows_end, no_comma}
use Rattle.book_names.proofs.Selecting.{next_part}
use Rattle.book_names.proofs.selection.selected.Goals as goal

pub loop-part-init : goal.loop-part-init
loop-part-init c = record {
  utf8 = search rules;
  selects = begun (table_told c.args.table.now) c.args.row Unsaid c.args.text.now;
}

pub returns-then-not-begins_with : goal.returns-then-not-begins_with
returns-then-not-begins_with c =
    c.columns_from.ensures
    ∙ by_columns _ _ _ _ _ c.loop-part.invariant.selects (part_told c.in-Some.part)
    (sym c.in-Some.ensures.value) (sym c.if-not-begins_with.ensures)

pub returns-in_err-rows : goal.returns-in_err-rows
returns-in_err-rows c =
    rw c.from_residual.ensures (no_rows _ _ _ _ _ c.loop-part.invariant.selects
    (part_told c.in-Some.part) (sym c.in-Some.ensures.value) (sym c.if-not-begins_with.ensures)
    (sym c.in_err-rows.ensures))

pub returns-then-is_empty : goal.returns-then-is_empty
returns-then-is_empty c =
    rows_end _ _ _ _ _ c.loop-part.invariant.selects (part_told c.in-Some.part)
    (sym c.in-Some.ensures.value) (sym c.if-not-begins_with.ensures) c.in_ok-rows.rows
    (sym c.in_ok-rows.ensures) (sym c.if-is_empty.ensures)

pub returns-then-not-begins_with-2 : goal.returns-then-not-begins_with-2
returns-then-not-begins_with-2 c =
    no_comma _ _ _ _ _ c.loop-part.invariant.selects (part_told c.in-Some.part)
    (sym c.in-Some.ensures.value) (sym c.if-not-begins_with.ensures) c.in_ok-rows.rows
    (sym c.in_ok-rows.ensures) (sym c.if-is_empty.ensures) (sym c.if-not-begins_with-2.ensures)

pub loop-part-preserved : goal.loop-part-preserved
loop-part-preserved c = record {
  utf8 = search rules;
  selects = next_part _ _ _ _ _ c.loop-part.invariant.selects (part_told c.in-Some.part)
      (sym c.in-Some.ensures.value) (sym c.if-not-begins_with.ensures) c.in_ok-rows.rows
      (sym c.in_ok-rows.ensures) c.behind_first-rest.result.now c.behind_first-rest.ensures
      c.in-Some.ensures.shorter (sym c.if-is_empty.ensures)
      (sym c.if-not-begins_with-2.ensures);
}

pub returns : goal.returns
returns c =
    no_part _ _ _ _ _ c.loop-part.invariant.selects (sym c.in_default.ensures.value)
