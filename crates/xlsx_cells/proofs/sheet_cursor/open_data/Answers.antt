use Rattle.std.proofs.Common.{◌≡◌, true, ◌∙◌}
use Rattle.std.proofs.lemmas.Result.{err_from_is_err_and}
use Rattle.part_events.specs.Words.{Opens}
use Rattle.xlsx_sections.proofs.SectionsRead.{section_entered}
use Rattle.xlsx_cells.specs.Stream.{stream}
use Rattle.xlsx_cells.proofs.HeadRead.{tells_weaker}
use Rattle.xlsx_cells.proofs.SheetEntered.{data_entered, part_taken}
use Rattle.xlsx_cells.proofs.sheet_cursor.open_data.Goals as goal

pub returns-clause-enters : goal.returns-clause-enters
returns-clause-enters g c =
    let old = c.args.xml.now.source in
    let opened = c.open.new.self in
    let opening : old.is_visible ≡ true → Opens c.args.path.now true old opened.source =
    λ told. rw c.if-not-branch.false at (c.in_ok-open.ensures.opens told) in
    let still : old.is_visible ≡ true → opened.source.is_visible ≡ true =
    λ told. c.open.ensures.keeps.is_visible ∙ told in
    let entered = c.in_ok-dimensions in
    data_entered opened (stream c.enter_data.new.xml c.new-sheet.result)
    (section_entered c.if-not-branch.false c.open.ensures.keeps c.in_ok-open.ensures.counts
    c.in_ok-open.ensures.opens c.in_ok-open.ensures.reader.at entered.ensures.reads
    entered.ensures.element entered.ensures.found)
    c.new-sheet.ensures.base c.new-sheet.ensures.counters c.new-sheet.ensures.masters
    c.new-sheet.ensures.done c.new-sheet.ensures.failed
    (λ told. (opening told).past) (λ told. entered.ensures.reads.stays.part (still told))
    (λ told. entered.ensures.dimensions (still told))

pub returns-in_err-dimensions-clause-lacks : goal.returns-in_err-dimensions-clause-lacks
returns-in_err-dimensions-clause-lacks g c = λ told.
    let p = err_from_is_err_and c.from_residual-in_err-dimensions.result
    c.from_residual-in_err-dimensions.ensures.1 in
    rw (p.1, p.2)
    (tells_weaker c.in_err-dimensions.field-0.0
    (part_taken c.if-not-branch.false c.in_ok-open.ensures.counts c.in_ok-open.ensures.opens
    c.in_ok-open.ensures.reader.at c.in_err-dimensions.ensures.reads.moves told)
    (c.in_err-dimensions.ensures.lacks (c.open.ensures.keeps.is_visible ∙ told)))
