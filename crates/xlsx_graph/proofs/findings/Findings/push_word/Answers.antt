use Rattle.std.proofs.Common.{rules, refl}
use Rattle.xlsx_graph.proofs.Extending.{extends_same, on_refusal}
use Rattle.xlsx_graph.proofs.findings.Findings.push_word.Goals as goal

pub returns-then-self-eq0-clause-front : goal.returns-then-self-eq0-clause-front
returns-then-self-eq0-clause-front c = extends_same c.args.self.now c.args.self.now refl refl refl

pub returns-in_err-text-clause-front : goal.returns-in_err-text-clause-front
returns-in_err-text-clause-front c =
    on_refusal c.from_residual.result _
    (extends_same c.args.self.now _ (search rules) (search rules) (search rules))

pub returns-in_err-push-clause-front : goal.returns-in_err-push-clause-front
returns-in_err-push-clause-front c =
    on_refusal _ _ (extends_same c.args.self.now _ (search rules) (search rules) (search rules))
