use Rattle.std.proofs.Common.{sym}
use Rattle.formula_tokens.proofs.Cutting.{word_first, token_first}
use Rattle.formula_tokens.specs.Told.{token_text}
use Rattle.formula_tokens.proofs.token.first_token.Goals as goal

pub returns-then-is_name_byte : goal.returns-then-is_name_byte
returns-then-is_name_byte c =
    word_first c.args.text.now c.args.first c.requires c.word_token.result.0.now
    c.word_token.result.1.now (sym c.if-is_name_byte.ensures)
    c.word_token.ensures.word c.word_token.ensures.behind

pub returns : goal.returns
returns c =
    token_first c.args.text.now c.args.first c.requires c.around.result.1.now
    c.token_behind.result.1.now (token_text c.token_behind.result.0) c.around.ensures.behind
    (sym c.if-is_name_byte.ensures)
    c.token_behind.ensures
