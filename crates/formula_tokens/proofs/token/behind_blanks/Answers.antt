use Rattle.std.proofs.Common.{ap, ◌∙◌}
use Rattle.std.specs.List.{prefix_len}
use Rattle.formula_tokens.specs.Tokens.{is_blank_byte}
use Rattle.formula_tokens.proofs.Cutting.{blank_boundary}
use Rattle.formula_tokens.proofs.token.behind_blanks.Goals as goal

pub split_at-requires : goal.split_at-requires
split_at-requires c =
    blank_boundary c.args.text.now c.blank_size.result c.utf8.text
    (c.blank_size.ensures ∙ ap (prefix_len is_blank_byte) c.as_bytes.ensures.value)
