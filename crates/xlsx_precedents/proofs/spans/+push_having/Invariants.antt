use Rattle.std.proofs.Common.{length}
use Rattle.xlsx_precedents.proofs.spans.+push_having.Given as goal

abbrev pub decreases-push_having : goal.decreases-push_having
decreases-push_having g l = length l.spans.now
