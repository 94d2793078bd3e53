use Rattle.std.proofs.Common.{◌≡◌, ◌++◌, drop, map, string_bytes}
use Rattle.std.specs.List.{flat_map}
use Rattle.xlsx_comments.specs.CommentParts.{comment_kept, comments_kept}
use Rattle.xlsx_commands.specs.SheetLists.{line_of_comment, part_lines}
use Rattle.xlsx_commands.proofs.comment_lines.push_part.Given as goal

abbrev pub invariant-loop-comment : goal.invariant-loop-comment
invariant-loop-comment l =
    string_bytes l.out
    ++ flat_map (line_of_comment l.form (comments_kept l.part))
    (map comment_kept (drop l.comment-index l.comments))
    ≡ string_bytes l.fn.out ++ part_lines l.form (comments_kept l.part)
