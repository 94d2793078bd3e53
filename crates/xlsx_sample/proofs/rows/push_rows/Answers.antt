use Rattle.std.proofs.Common.{◌≡◌, ◌∙◌, ℕ, suc, ◌+◌, ap, sym, add-one}
use Rattle.written_markup.specs.Words.{with_events}
use Rattle.xlsx_sample.specs.Sample.{row_element, first_rows}
use Rattle.written_markup.proofs.Drafted.{joined_step}
use Rattle.xlsx_sample.proofs.rows.push_rows.Goals as goal

pub loop-above-preserved : goal.loop-above-preserved
loop-above-preserved c =
    let rows = c.args.rows in
    let above = c.loop-above.above in
    let next : above + 1 ≡ suc above = add-one above in
    let row : c.push_row.new.builder ≡ with_events c.loop-above.builder
    (row_element rows (suc above)) =
    c.in_ok-push_row.ensures
    ∙ ap (λ (n : ℕ). with_events c.loop-above.builder (row_element rows n)) next in
    joined_step c.args.builder.now c.loop-above.builder c.push_row.new.builder
    (first_rows rows above)
    (row_element rows (suc above)) c.loop-above.invariant row
    ∙ ap (λ (n : ℕ). with_events c.args.builder.now (first_rows rows n)) (sym next)
