use Rattle.xlsx_check.proofs.Agreeing.{spells}
use Rattle.xlsx_check.proofs.laws.trees_are_spelled_as_their_tokens.Goals as goal

pub returns : goal.returns
returns c = spells
