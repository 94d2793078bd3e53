use Rattle.std.proofs.Common.{◌≡◌, get_or, sym, ap, ◌∙◌, arith}
use Rattle.std.proofs.lemmas.Str.{IsCharBoundary-after_ascii}
use Rattle.book_names.proofs.parts.first_part.Goals as goal

pub split_at-requires-2 : goal.split_at-requires-2
split_at-requires-2 c =
    let text = c.behind_first-text.result.now in
    let end = c.in_ok-end.end in
    let there = c.in_ok-end.ensures.there in
    let bracket : get_or text end 0 ≡ 93 =
    ap (λ bytes. get_or bytes end 0) (sym c.as_bytes.ensures.value) ∙ there.1 in
    IsCharBoundary-after_ascii text end c.behind_first-text.utf8
    (omega (arith, there.0, c.as_bytes.ensures.len)) (omega (arith, bracket))
