use Rattle.std.proofs.Common.{◌≡◌, ℕ, [], codes, option_map, string_bytes, rules}
use Rattle.std.specs.Prelude.{unwrap_or}
use Rattle.std.specs.Option.{option_copied}
use Rattle.std.proofs.lemmas.Result.{err_from_is_err_and, IfErr-weaker}
use Rattle.std.specs.Arc.{arc_str_bytes}
use Rattle.part_events.specs.Words.{tag_of}
use Rattle.xlsx_sections.specs.Words.{ElementFails, placed_at, decoded_at}
use Rattle.xlsx_relationships.specs.Words.{relationship_of, related_by_id}
use Rattle.xlsx_workbook.specs.Sheets.{sheet_of, named_sheet, related_sheet}
use Rattle.xlsx_workbook.proofs.WorkbookErrors.{named_sheet_fails}
use Rattle.xlsx_workbook.proofs.sheet_element.sheet_of.Goals as goal

pub returns-in_err-name-2-clause-err : goal.returns-in_err-name-2-clause-err
returns-in_err-name-2-clause-err c =
    let p = err_from_is_err_and c.from_residual-in_err-name-2.result
    c.from_residual-in_err-name-2.ensures.1 in
    let folder = arc_str_bytes c.args.folder.now in
    let related = related_by_id c.args.relationships.now in
    let id = unwrap_or (option_copied c.in_ok-id.id) [] in
    let state = unwrap_or (option_copied c.in_ok-name.state) (codes "visible") in
    rw (p.1, p.2) (λ behind.
    let decoded = decoded_at behind c.text_or.result.now in
    let same : sheet_of folder related (placed_at (tag_of c.args.tag) behind)
    ≡ named_sheet folder related id state decoded = search rules in
    rw same (named_sheet_fails folder related id state c.args.at behind decoded
    c.in_err-name-2.field-0.0 (c.in_err-name-2.ensures.err behind)))

pub returns-clause-err : goal.returns-clause-err
returns-clause-err c =
    let folder = arc_str_bytes c.args.folder.now in
    let related = related_by_id c.args.relationships.now in
    let given = related_sheet folder (string_bytes c.in_ok-name-2.name) c.in-Some.visible
    (option_map relationship_of (option_copied c.find_relationship-related.result)) in
    IfErr-weaker c.related_sheet.result (λ e. (at behind : ℕ)
    → ElementFails given at behind e) (λ e. (behind : ℕ)
    → ElementFails (sheet_of folder related (placed_at (tag_of c.args.tag) behind)) c.args.at
    behind e)
    (λ e fails behind.
    let same : sheet_of folder related (placed_at (tag_of c.args.tag) behind) ≡ given =
    search rules in
    rw same (fails c.args.at behind))
    c.related_sheet.ensures.err
