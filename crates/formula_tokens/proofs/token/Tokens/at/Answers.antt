use Rattle.formula_tokens.specs.Told.{tokens_left}
use Rattle.formula_tokens.proofs.Cutting.{taken_at}
use Rattle.formula_tokens.proofs.token.Tokens.at.Goals as goal

pub returns : goal.returns
returns c =
    taken_at (tokens_left c.args.self) (tokens_left c.behind.result) (tokens_left c.next.new.self)
    c.args.place c.next.result c.behind.ensures c.next.ensures.steps
