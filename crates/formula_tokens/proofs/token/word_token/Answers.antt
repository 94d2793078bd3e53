use Rattle.std.proofs.Common.{ap, ◌∙◌}
use Rattle.std.specs.List.{prefix_len}
use Rattle.formula_tokens.specs.Tokens.{is_name_byte}
use Rattle.formula_tokens.proofs.Cutting.{name_boundary}
use Rattle.formula_tokens.proofs.token.word_token.Goals as goal

pub split_at-requires : goal.split_at-requires
split_at-requires c =
    name_boundary c.args.text.now c.name_size.result
    (c.name_size.ensures ∙ ap (prefix_len is_name_byte) c.as_bytes.ensures.value)
