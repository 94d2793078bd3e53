use Rattle.std.proofs.Common.{rules, refl}
use Rattle.xlsx_graph.proofs.Extending.{extends_same, on_refusal}
use Rattle.xlsx_graph.proofs.findings.Findings.push_area.Goals as goal

pub returns-then-self-behind_first-clause-front : goal.returns-then-self-behind_first-clause-front
returns-then-self-behind_first-clause-front c =
    extends_same c.args.self.now c.args.self.now refl refl refl

pub returns-in_err-push-clause-front : goal.returns-in_err-push-clause-front
returns-in_err-push-clause-front c =
    on_refusal c.from_residual.result _
    (extends_same c.args.self.now _ (search rules) (search rules) (search rules))
