use Rattle.std.proofs.Common.{◌-◌, length, List, ℕ, sym, ◌∙◌, ap, subst}
use Rattle.std.specs.List.{prefix_len, suffix_len}
use Rattle.std.specs.Str.{IsCharBoundary}
use Rattle.xlsx_strings.specs.Strings.{is_blank}
use Rattle.xlsx_strings.proofs.Texts.{cut_behind_blanks, cut_before_blanks}
use Rattle.xlsx_strings.proofs.trim.trimmed.Goals as goal

pub range_from-behind-requires : goal.range_from-behind-requires
range_from-behind-requires c =
    let text = c.args.text.now in
    λ _. subst (IsCharBoundary text)
    (sym (c.leading_blanks.ensures ∙ ap (prefix_len is_blank) c.as_bytes.ensures.value))
    (cut_behind_blanks text c.utf8.text)

pub range-requires-clause-end_boundary : goal.range-requires-clause-end_boundary
range-requires-clause-end_boundary c =
    let behind = c.range_from-behind.result.now in
    subst (IsCharBoundary behind)
    (sym (c.kept_len.ensures
    ∙ ap (λ (text : List ℕ). length text - suffix_len is_blank text) c.as_bytes-2.ensures.value))
    (cut_before_blanks behind)
