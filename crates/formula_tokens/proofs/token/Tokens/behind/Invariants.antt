use Rattle.std.proofs.Common.{◌≡◌, drop}
use Rattle.formula_tokens.specs.Told.{tokens_left}
use Rattle.formula_tokens.proofs.token.Tokens.behind.Given as goal

abbrev pub invariant-loop : goal.invariant-loop
invariant-loop l = tokens_left l.left ≡ drop l.counter (tokens_left l.fn.self)
