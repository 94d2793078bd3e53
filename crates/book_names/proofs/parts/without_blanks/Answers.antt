use Rattle.std.proofs.Common.{◌≡◌, ap, ◌∙◌, arith}
use Rattle.std.specs.List.{suffix_len}
use Rattle.std.proofs.lemmas.List.Sums.{suffix_len-le-length}
use Rattle.formula_tokens.specs.Tokens.{is_blank_byte}
use Rattle.book_names.proofs.Blanks.{end_boundary}
use Rattle.book_names.proofs.parts.without_blanks.Goals as goal

pub overflow_sub-text : goal.overflow_sub-text
overflow_sub-text c =
    let text = c.behind_blanks-text.result.now in
    let counted : c.end_blanks.result ≡ suffix_len is_blank_byte text =
    c.end_blanks.ensures ∙ ap (suffix_len is_blank_byte) c.as_bytes.ensures.value in
    omega (arith, counted, suffix_len-le-length is_blank_byte text)

pub split_at-requires : goal.split_at-requires
split_at-requires c =
    end_boundary c.behind_blanks-text.result.now c.end_blanks.result
    (c.end_blanks.ensures ∙ ap (suffix_len is_blank_byte) c.as_bytes.ensures.value)
