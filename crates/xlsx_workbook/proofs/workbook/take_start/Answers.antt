use Rattle.std.proofs.Common.{◌≡◌, ◌∷◌, ℕ, List, length, true, false, refl, rules}
use Rattle.std.proofs.lemmas.Result.{err_from_is_err_and, IfErr-weaker}
use Rattle.std.specs.Arc.{arc_str_bytes}
use Rattle.part_events.specs.Words.{Event, start, tag_of}
use Rattle.xlsx_sections.specs.Words.{RefusedAt, ElementFails, placed_at}
use Rattle.xlsx_sections.proofs.Refused.{refused_at_weaker}
use Rattle.xlsx_relationships.specs.Words.{related_by_id}
use Rattle.xlsx_workbook.specs.Sheets.{is_sheet, is_properties, sheet_of, epoch_in}
use Rattle.xlsx_workbook.specs.Workbook.{AreSheetsRefused}
use Rattle.xlsx_workbook.proofs.Contents.{sheet_refused, epoch_refused}
use Rattle.xlsx_workbook.proofs.workbook.take_start.Goals as goal

pub returns-then-eq-clause-err : goal.returns-then-eq-clause-err
returns-then-eq-clause-err c =
    let folder = arc_str_bytes c.args.places.folder.now in
    let related = related_by_id c.args.places.relationships.now in
    let tag = tag_of c.args.tag in
    let sheet : is_sheet tag ≡ true = search rules in
    IfErr-weaker c.push_sheet.result (λ e. (behind : ℕ)
    → ElementFails (sheet_of folder related (placed_at tag behind)) c.args.at behind e)
    (λ e. (others : List Event)
    → RefusedAt (AreSheetsRefused folder related c.args.found.now (start tag ∷ others))
    c.args.at (length others) e)
    (λ e fails others. refused_at_weaker c.args.at (length others) _ _ e
    (λ refusal is. sheet_refused folder related tag refusal c.args.found.now others sheet is)
    (fails (length others)))
    c.push_sheet.ensures.err

pub returns-in_err-keep_epoch-clause-err : goal.returns-in_err-keep_epoch-clause-err
returns-in_err-keep_epoch-clause-err c =
    let tag = tag_of c.args.tag in
    let properties : is_properties tag ≡ true = search rules in
    let p = err_from_is_err_and c.from_residual.result c.from_residual.ensures.1 in
    rw (p.1, p.2) (λ others. epoch_refused (arc_str_bytes c.args.places.folder.now)
    (related_by_id c.args.places.relationships.now) tag _ c.args.found.now others properties
    (c.in_err-keep_epoch.ensures.err (length others)))

pub returns-in_ok-keep_epoch-clause-ok : goal.returns-in_ok-keep_epoch-clause-ok
returns-in_ok-keep_epoch-clause-ok c = λ others.
    let tag = tag_of c.args.tag in
    let properties : is_properties tag ≡ true = search rules in
    let no_sheet : is_sheet tag ≡ false = search rules in
    record {
      sheets = rw no_sheet refl;
      epoch = rw properties (c.in_ok-keep_epoch.ensures.ok (length others) (epoch_in others));
    }
