use Rattle.std.proofs.Common.{◌≡◌, ◌∙◌, List, IfOk, arith, subst}
use Rattle.part_events.specs.Words.{Part, Uses}
use Rattle.xlsx_error.specs.declared.error.XlsxError.TheVariants.{Io}
use Rattle.xlsx_workbook.specs.Words.{workbook_part}
use Rattle.xlsx_open.specs.Opening.{workbook_events, book_events, scopes_at}
use Rattle.xlsx_open.specs.SharedParts.{shared_events}
use Rattle.part_events.proofs.Uses.{uses_behind}
use Rattle.xlsx_open.proofs.opening.open_at.Goals as goal

pub returns-clause-uses : goal.returns-clause-uses
returns-clause-uses g c =
    let old = c.args.xml.now.source in
    let mid = c.read_shared.new.xml.source in
    let new = c.open_workbook.new.xml.source in
    let path = c.args.path.now in
    let result = c.open_workbook.result in
    let first = c.in_ok-shared.ensures.uses in
    uses_behind Io result (shared_events old.parts path) (workbook_events old.parts path)
    (book_events old.parts path) old mid new (omega arith) first
    (subst (λ (parts : List Part). Uses (workbook_events parts path) Io result mid new)
    first.parts.parts c.open_workbook.ensures.uses)

pub returns-clause-scopes : goal.returns-clause-scopes
returns-clause-scopes g c = λ told.
    let same = c.in_ok-shared.ensures.uses.parts in
    let part = workbook_part c.args.path.now in
    subst (λ (parts : List Part). IfOk c.open_workbook.result
    (λ o. o.scopes.items ≡ scopes_at parts part)) same.parts
    (c.open_workbook.ensures.scopes (same.is_visible ∙ told))
