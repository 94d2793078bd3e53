use Rattle.std.proofs.Common.{◌∙◌}
use Rattle.xlsx_core.proofs.BookRead.{book_answers, book_cells, opening_answers}
use Rattle.xlsx_core.proofs.as_read.read_cells.Goals as goal

pub returns-in-Ok-clause-answers : goal.returns-in-Ok-clause-answers
returns-in-Ok-clause-answers g c =
    let xlsx = c.in-Ok.xlsx in
    let name = c.args.name.now in
    let old = g.P.Package.state c.args.package in
    let mid = xlsx.xml.source in
    let new = g.P.Package.state c.into_cells.result.package in
    let from = c.in-Ok.ensures.uses in
    let cells = c.into_cells in
    book_answers _ xlsx name cells.result.result old mid new from c.in-Ok.ensures.opens
    (λ told. book_cells xlsx name old mid new from.parts c.in-Ok.ensures.opens
    cells.result.result told cells.ensures.shared
    (cells.ensures.reads (from.parts.is_visible ∙ told)))
    cells.ensures.uses cells.ensures.to_end cells.ensures.err cells.ensures.kind

pub returns-in-Err-clause-answers : goal.returns-in-Err-clause-answers
returns-in-Err-clause-answers g c =
    opening_answers _ c.args.name.now (g.P.Package.state c.args.package)
    (g.P.Package.state c.in-Err.field-0.package) c.in-Err.field-0.error c.in-Err.ensures.uses
    c.in-Err.ensures.err c.in-Err.ensures.kind
