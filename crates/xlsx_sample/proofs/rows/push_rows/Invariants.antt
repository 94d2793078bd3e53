use Rattle.std.proofs.Common.{◌≡◌}
use Rattle.written_markup.specs.Words.{with_events}
use Rattle.xlsx_sample.specs.Sample.{first_rows}
use Rattle.xlsx_sample.proofs.rows.push_rows.Given as goal

abbrev pub invariant-loop-above : goal.invariant-loop-above
invariant-loop-above l = l.builder ≡ with_events l.fn.builder (first_rows l.rows l.above)
