use Rattle.std.proofs.Common.{rules}
use Rattle.xlsx_graph.proofs.Ranging.{adds_alone}
use Rattle.xlsx_graph.proofs.findings.Findings.ask_place.Goals as goal

pub returns : goal.returns
returns c kept f begins adds =
    adds_alone kept c.args.self.now _ c.args.start f begins adds (search rules) (search rules)
    (search rules) (search rules) (search rules)
