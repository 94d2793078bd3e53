use Rattle.std.proofs.Common.{◌≡◌, ◌++◌, drop, map, string_bytes}
use Rattle.std.specs.List.{flat_map}
use Rattle.xlsx_comments.specs.CommentParts.{CommentSaid, comment_kept, comments_kept}
use Rattle.tests_calls.specs.Shown.{comment_texts_in}
use Rattle.tests_calls.proofs.shown.comment_texts.Given as goal

abbrev pub invariant-loop-comment : goal.invariant-loop-comment
invariant-loop-comment g l =
    map string_bytes l.texts.items
    ++ map (λ (own : CommentSaid). own.text)
    (map comment_kept (drop l.comment-index l.comment-items))
    ≡ map string_bytes l.initial.texts.items
    ++ map (λ (own : CommentSaid). own.text) (map comment_kept l.comment-items)

abbrev pub invariant-loop-part : goal.invariant-loop-part
invariant-loop-part g l =
    map string_bytes l.texts.items
    ++ flat_map comment_texts_in (map comments_kept (drop l.part-index l.part-items))
    ≡ flat_map comment_texts_in (map comments_kept l.part-items)
