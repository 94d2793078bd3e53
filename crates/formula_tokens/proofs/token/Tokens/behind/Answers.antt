use Rattle.formula_tokens.specs.Told.{tokens_left}
use Rattle.formula_tokens.proofs.Cutting.{one_more}
use Rattle.formula_tokens.proofs.token.Tokens.behind.Goals as goal

pub loop-preserved : goal.loop-preserved
loop-preserved c =
    one_more (tokens_left c.args.self) (tokens_left c.loop.left) (tokens_left c.next.new.self)
    c.loop.counter c.next.result c.loop.invariant c.next.ensures.steps
