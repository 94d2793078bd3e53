use Rattle.std.proofs.Common.{◌≡◌, ℕ, List, true, ◌∙◌, ap, subst, string_bytes}
use Rattle.std.specs.Arc.{arc_str_bytes}
use Rattle.std.specs.Prelude.{OnOk}
use Rattle.std.proofs.lemmas.Result.{err_from_is_err_and, IfOk-weaker, IfErr-weaker}
use Rattle.part_events.specs.Words.{Part, Uses}
use Rattle.xlsx_error.specs.declared.error.XlsxError.TheVariants.{Io}
use Rattle.xlsx_relationships.specs.Words.{folder_of}
use Rattle.xlsx_open.specs.Opening.{Opening, HoldsOpening, OpensAs, OpeningFails, LiesIn, BookOpens}
use Rattle.xlsx_open.specs.Opening.{BookFails, book_events, TakesBook, scopes_at, HasScopes}
use Rattle.xlsx_workbook.specs.Words.{workbook_part}
use Rattle.xlsx_open.proofs.Openings.{root_fails, opens_as, book_fails, opens_package}
use Rattle.xlsx_open.proofs.opening.open.Goals as goal

pub returns-in_err-path-clause-err : goal.returns-in_err-path-clause-err
returns-in_err-path-clause-err g c =
    let p = err_from_is_err_and c.from_residual.result c.from_residual.ensures.1 in
    rw (p.1, p.2) (root_fails c.args.xml.now.source
    c.read_path.new.xml.source c.in_err-path.field-0.0
    c.in_err-path.ensures.err)

pub returns-clause-uses : goal.returns-clause-uses
returns-clause-uses g c =
    let old = c.args.xml.now.source in
    let mid = c.read_path.new.xml.source in
    let new = c.open_at.new.xml.source in
    opens_package c.open_at.result old mid new (string_bytes c.in_ok-path.path)
    c.in_ok-path.ensures.uses c.in_ok-path.ensures.path c.in_ok-path.ensures.to_end
    (subst (λ (own : List ℕ). Uses (book_events mid.parts own) Io c.open_at.result mid new)
    c.as_str.ensures.value c.open_at.ensures.uses)
    (subst (λ (own : List ℕ). mid.is_visible ≡ true →
    OnOk c.open_at.result (TakesBook mid.parts own mid.taken new.taken))
    c.as_str.ensures.value c.open_at.ensures.to_end)

pub returns-clause-opens : goal.returns-clause-opens
returns-clause-opens g c = λ told.
    let old = c.args.xml.now.source in
    let mid = c.read_path.new.xml.source in
    let path = string_bytes c.in_ok-path.path in
    let same = c.in_ok-path.ensures.uses.parts in
    IfOk-weaker c.open_at.result (λ o. (opening : Opening)
    × HoldsOpening o.metadata o.paths.items o.shared o.is_1904 opening
    × BookOpens mid.parts c.as_str.result.now opening) (λ o. (opening : Opening)
    × HoldsOpening o.metadata o.paths.items o.shared o.is_1904 opening
    × OpensAs old.parts opening)
    (λ o found. (
      found.0,
      found.1,
      opens_as old mid path found.0 same (c.in_ok-path.ensures.path told)
          (subst (λ (own : List ℕ). BookOpens mid.parts own found.0) c.as_str.ensures.value
          found.2),
    ))
    (c.open_at.ensures.opened (same.is_visible ∙ told))

pub returns-clause-err : goal.returns-clause-err
returns-clause-err g c =
    let old = c.args.xml.now.source in
    let mid = c.read_path.new.xml.source in
    let new = c.open_at.new.xml.source in
    let path = string_bytes c.in_ok-path.path in
    let uses = c.in_ok-path.ensures.uses in
    IfErr-weaker c.open_at.result (BookFails c.as_str.result.now mid new) (OpeningFails old new)
    (λ e fails. book_fails old mid new path e uses.parts c.in_ok-path.ensures.path
    (subst (λ (own : List ℕ). BookFails own mid new e) c.as_str.ensures.value fails))
    c.open_at.ensures.err

pub returns-clause-folder : goal.returns-clause-folder
returns-clause-folder g c = λ told.
    let old = c.args.xml.now.source in
    let path = string_bytes c.in_ok-path.path in
    IfOk-weaker c.open_at.result (λ o. arc_str_bytes o.folder ≡ folder_of c.as_str.result.now)
    (λ o. LiesIn old.parts (arc_str_bytes o.folder))
    (λ o is. (path, c.in_ok-path.ensures.path told, is ∙ ap folder_of c.as_str.ensures.value))
    c.open_at.ensures.folder

pub returns-clause-scopes : goal.returns-clause-scopes
returns-clause-scopes g c = λ told.
    let old = c.args.xml.now.source in
    let mid = c.read_path.new.xml.source in
    let path = string_bytes c.in_ok-path.path in
    let same = c.in_ok-path.ensures.uses.parts in
    IfOk-weaker c.open_at.result
    (λ o. o.scopes.items ≡ scopes_at mid.parts (workbook_part c.as_str.result.now))
    (λ o. HasScopes old.parts o.scopes.items)
    (λ o is. (
      path,
      c.in_ok-path.ensures.path told,
      is ∙ ap (λ (own : List ℕ). scopes_at mid.parts (workbook_part own)) c.as_str.ensures.value
          ∙ ap (λ (parts : List Part). scopes_at parts (workbook_part path)) same.parts,
    ))
    (c.open_at.ensures.scopes (same.is_visible ∙ told))
