use Rattle.std.proofs.Common.{◌∙◌}
use Rattle.xlsx_core.proofs.BookRead.{book_answers, opening_answers}
use Rattle.xlsx_core.proofs.ShownRead.{book_shows}
use Rattle.xlsx_core.proofs.shown_sheet.read_sheet_shown.Goals as goal

pub returns-in-Ok-clause-answers : goal.returns-in-Ok-clause-answers
returns-in-Ok-clause-answers g c =
    let xlsx = c.in-Ok.xlsx in
    let name = c.args.name.now in
    let old = g.P.Package.state c.args.package in
    let mid = xlsx.xml.source in
    let new = c.shown_values.new.self.xml.source in
    let from = c.in-Ok.ensures.uses in
    let shown = c.shown_values in
    rw c.into_package.ensures
    (book_answers _ xlsx name shown.result old mid new from c.in-Ok.ensures.opens
    (λ told. book_shows xlsx name old mid shown.result from.parts (c.in-Ok.ensures.opens told)
    (shown.ensures.shows (from.parts.is_visible ∙ told)))
    shown.ensures.uses shown.ensures.to_end shown.ensures.err shown.ensures.kind)

pub returns-in-Err-clause-answers : goal.returns-in-Err-clause-answers
returns-in-Err-clause-answers g c =
    opening_answers _ c.args.name.now (g.P.Package.state c.args.package)
    (g.P.Package.state c.in-Err.field-0.package) c.in-Err.field-0.error c.in-Err.ensures.uses
    c.in-Err.ensures.err c.in-Err.ensures.kind
