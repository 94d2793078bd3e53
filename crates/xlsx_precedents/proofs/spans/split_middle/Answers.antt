use Rattle.std.proofs.Common.{rules}
use Rattle.xlsx_precedents.proofs.Halving.{halves_of}
use Rattle.xlsx_precedents.proofs.spans.split_middle.Goals as goal

pub returns-clause-searched : goal.returns-clause-searched
returns-clause-searched c = halves_of c.args.spans.now _ (search rules)
