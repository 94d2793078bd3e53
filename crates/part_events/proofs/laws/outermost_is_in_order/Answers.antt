use Rattle.std.proofs.Common.{refl}
use Rattle.part_events.proofs.Outermost.{outermost-wanted, outermost-unwanted, outermost-other}
use Rattle.part_events.proofs.laws.outermost_is_in_order.Goals as goal

pub returns : goal.returns
returns c = record {
  nothing = λ wanted. refl;
  wanted = outermost-wanted;
  unwanted = outermost-unwanted;
  other = outermost-other;
}
