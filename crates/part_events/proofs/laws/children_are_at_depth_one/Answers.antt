use Rattle.part_events.proofs.Outermost.{children_at_depth_one}
use Rattle.part_events.proofs.laws.children_are_at_depth_one.Goals as goal

pub returns : goal.returns
returns c = children_at_depth_one
