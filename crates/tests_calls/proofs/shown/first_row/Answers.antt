use Rattle.std.proofs.Common.{refl}
use Rattle.xlsx_pivots.specs.Words.{pivots_kept, paths_of}
use Rattle.xlsx_pivot_cache.specs.Words.{rows_by, row_kept, TakesRow}
use Rattle.tests_calls.proofs.FirstAnswers.{first_row_is}
use Rattle.tests_calls.proofs.shown.first_row.Goals as goal

pub returns-in-Some : goal.returns-in-Some
returns-in-Some g c = λ told.
    let pivots = pivots_kept c.in_ok-pivots.pivots in
    let asked = c.in_ok-pivots.ensures.answers in
    let old = rows_by c.in_ok-rows.rows in
    let new = rows_by c.next.new.self in
    let row = row_kept c.in_ok-row-in-Some.field-0.items in
    let takes : TakesRow row old new =
    rw c.in_ok-row-in-Some.was at c.in-Some.ensures.steps.1.row in (
      pivots,
      asked.said told,
      first_row_is c.args.xlsx.now.xml.source c.pivot_tables.new.self.xml.source c.args.sheet.now
          c.args.name.now row pivots (paths_of pivots c.args.sheet.now c.args.name.now) old new
          told asked.uses.parts refl c.in_ok-rows.ensures.opens takes,
    )
