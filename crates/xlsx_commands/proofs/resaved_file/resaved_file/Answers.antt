use Rattle.std.proofs.Common.{ap, sym}
use Rattle.part_events.specs.Words.{Contents}
use Rattle.xlsx_core.specs.Words.{SheetCause}
use Rattle.xlsx_commands.proofs.FilesMade.{file_made, file_refused}
use Rattle.xlsx_commands.proofs.resaved_file.resaved_file.Goals as goal

pub returns-clause-ok : goal.returns-clause-ok
returns-clause-ok c =
    let reading = c.in_ok-reading.reading in
    let writable = c.sheets_that_are_read_can_be_written.ensures.ranges c.args.package.parts
    c.args.name.now reading.styles reading c.in_ok-reading.ensures.ok
    c.in_ok-reading.ensures.ranges in
    file_made c.args.package.parts c.args.name.now reading.values reading.formulas reading.styles
    c.in_ok-reading.ensures.ok (sym c.if-has_zero_left.ensures) c.in_ok-written.written.parts
    (ap (λ (held : Contents). held.parts) c.in_ok-written.ensures) writable c.utf8.name
    c.file_of.result c.file_of.ensures.file c.file_of.ensures.size

pub returns-clause-err : goal.returns-clause-err
returns-clause-err c =
    let reading = c.in_ok-reading.reading in
    file_refused c.args.package.parts c.args.name.now reading.values reading.formulas
    reading.styles c.in_ok-reading.ensures.ok (sym c.if-has_zero_left.ensures)
    c.in_ok-written.written.parts
    (ap (λ (held : Contents). held.parts) c.in_ok-written.ensures)
    (SheetCause c.args.package.parts c.args.name.now) c.file_of.result c.file_of.ensures.err
