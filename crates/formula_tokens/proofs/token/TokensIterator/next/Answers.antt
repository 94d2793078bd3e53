use Rattle.std.proofs.Common.{◌≡◌, [], ap, ◌∙◌}
use Rattle.std.specs.List.{slice_get}
use Rattle.formula_tokens.specs.Tokens.{tokens}
use Rattle.formula_tokens.proofs.Cutting.{none_left}
use Rattle.formula_tokens.proofs.token.TokensIterator.next.Goals as goal

pub returns-in_err-first-clause-steps : goal.returns-in_err-first-clause-steps
returns-in_err-first-clause-steps c =
    let none : tokens c.args.self.now.rest.now ≡ [] =
    none_left c.args.self.now.rest.now (c.in_err-first.ensures.value
    ∙ ap (λ bytes. slice_get bytes 0) c.as_bytes.ensures.value) in
    rw c.from_residual.ensures (none, none)
