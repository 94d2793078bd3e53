use Rattle.xlsx_relationships.proofs.RelatedRead.{behind_dots_is}
use Rattle.xlsx_relationships.proofs.targets.behind_dots.Goals as goal

pub returns : goal.returns
returns c = behind_dots_is c.args.target.now c.strip_prefix.result c.strip_prefix.ensures.cases
