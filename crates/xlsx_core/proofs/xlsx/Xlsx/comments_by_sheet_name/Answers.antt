use Rattle.std.proofs.Common.{Vec, Global, inl, map}
use Rattle.std.proofs.lemmas.Result.{err_from_is_err_and}
use Rattle.xlsx_comments.specs.CommentParts.{comments_kept}
use Rattle.xlsx_comments.specs.Comments.{AreSheetCommentsError, sheet_comments_look}
use Rattle.xlsx_comments.specs.declared.comment.Comments.{Comments}
use Rattle.xlsx_core.specs.Worksheets.{path_of}
use Rattle.xlsx_core.proofs.NamedSheets.{path_refused}
use Rattle.xlsx_core.proofs.xlsx.Xlsx.comments_by_sheet_name.Goals as goal

pub returns-in_err-path-clause-answers : goal.returns-in_err-path-clause-answers
returns-in_err-path-clause-answers g c =
    let xlsx = c.args.self.now in
    let name = c.args.name.now in
    let p = err_from_is_err_and c.from_residual.result c.from_residual.ensures.1 in
    rw (p.1, p.2)
    (path_refused AreSheetCommentsError sheet_comments_look
    (λ (all : Vec Comments Global). map comments_kept all.items) xlsx.xml.source name
    (path_of xlsx name) c.in_err-path.field-0.0 (inl tt) c.in_err-path.ensures.err)

pub returns-clause-answers : goal.returns-clause-answers
returns-clause-answers g c =
    rw c.in_ok-path.ensures.path
    (rw c.as_str.ensures.value at c.read_sheet_comments.ensures.answers)
