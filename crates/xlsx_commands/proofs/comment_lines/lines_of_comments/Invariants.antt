use Rattle.std.proofs.Common.{◌≡◌, ◌++◌, drop, map, string_bytes}
use Rattle.xlsx_comments.specs.CommentParts.{comments_kept}
use Rattle.xlsx_commands.specs.SheetLists.{comment_lines}
use Rattle.xlsx_commands.proofs.comment_lines.lines_of_comments.Given as goal

abbrev pub invariant-loop-part : goal.invariant-loop-part
invariant-loop-part l =
    string_bytes l.out ++ comment_lines l.form (map comments_kept (drop l.part-index l.all))
    ≡ comment_lines l.form (map comments_kept l.all)
