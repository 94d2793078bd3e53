use Rattle.std.proofs.Common.{length}
use Rattle.xlsx_precedents.proofs.spans.+push_halved.Given as goal

abbrev pub decreases-push_halved : goal.decreases-push_halved
decreases-push_halved l = length l.sorted.now
