use Rattle.std.proofs.Common.{◌∙◌, ap, sym}
use Rattle.std.specs.Option.{option_copied, option_map}
use Rattle.std.specs.Prelude.{None}
use Rattle.std.proofs.lemmas.Result.{on_ok_weaker}
use Rattle.cell_data.specs.Words.{value_of_data}
use Rattle.cell_data.proofs.Stepping.{meant, next_splits}
use Rattle.sorted_cells.specs.Words.{placed_left}
use Rattle.written_markup.specs.Words.{with_events}
use Rattle.xlsx_writer.specs.Writing.{data_left, forms_left, written_of}
use Rattle.xlsx_writer.proofs.Rows.{shorter, some_taken, goes_on_with, data_ends}
use Rattle.xlsx_writer.proofs.sheet.push_rows.Goals as goal

pub positions-smaller : goal.positions-smaller
positions-smaller c =
    shorter c.in-Some.position (placed_left c.positions.values_left)
    (placed_left c.next_at-value.new.self) (forms_left c.positions.formulas_left)
    (forms_left c.next_at-formula.new.self) c.in-Some.ensures c.next_at-value.ensures.left
    c.next_at-formula.ensures.left

pub positions-preserved : goal.positions-preserved
positions-preserved c =
    let p = c.in-Some.position in
    let value = option_copied c.next_at-value.result in
    let formula = option_map written_of c.next_at-formula.result in
    let values = placed_left c.positions.values_left in
    let forms = forms_left c.positions.formulas_left in
    let vs = placed_left c.next_at-value.new.self in
    let fs = forms_left c.next_at-formula.new.self in
    let known = c.positions.invariant in
    let splits_v =
    next_splits p value values vs known.values_order c.in-Some.ensures.before_values
    c.next_at-value.ensures.value c.next_at-value.ensures.left in
    let splits_f =
    next_splits p formula forms fs known.formulas_order c.in-Some.ensures.before_formulas
    c.next_at-formula.ensures.value c.next_at-formula.ensures.left in
    let some =
    some_taken p values forms value formula c.in-Some.ensures c.next_at-value.ensures.value
    c.next_at-formula.ensures.value in
    record {
      rows = goes_on_with c.args.form c.positions.builder c.enter_row.new.builder
          c.push_cell.new.builder
          c.positions.row p value formula values vs forms fs
          (with_events c.args.builder.now (data_left c.args.form None
          (meant value_of_data (placed_left c.args.values)) (forms_left c.args.formulas)))
          splits_v splits_f some c.in_ok-enter_row.ensures c.in_ok-push_cell.ensures known.rows;
      values_order = splits_v.order;
      formulas_order = splits_f.order;
      sheet = c.next_at-formula.ensures.left_fits known.sheet;
    }

pub returns : goal.returns
returns c =
    let builder = c.positions.builder in
    let row = c.positions.row in
    let none = c.in_default.ensures in
    let ended =
    (λ i. data_left c.args.form row (meant value_of_data (none.0 i)) (none.1 i))
    ∙ data_ends c.args.form row in
    on_ok_weaker c.leave_row.result
    (λ left. left ∙ ap (with_events builder) (sym ended) ∙ c.positions.invariant.rows)
    c.leave_row.ensures
