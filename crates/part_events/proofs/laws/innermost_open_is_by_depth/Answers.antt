use Rattle.part_events.proofs.LookingBack.{innermost_is_last, last_is_innermost}
use Rattle.part_events.proofs.laws.innermost_open_is_by_depth.Goals as goal

pub returns : goal.returns
returns c = λ past opening is. (
  innermost_is_last past opening is,
  last_is_innermost past opening is,
)
