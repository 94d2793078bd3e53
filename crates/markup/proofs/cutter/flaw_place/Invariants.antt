use Rattle.std.proofs.Common.{◌≡◌, length}
use Rattle.markup.specs.Cutting.{IsCutting, events_left}
use Rattle.markup.specs.Markup.{flaw_place, flaw_behind}
use Rattle.markup.proofs.cutter.flaw_place.Given as goal

abbrev pub invariant-events : goal.invariant-events
invariant-events l = record {
  cutting : IsCutting l.text l.cutter;
  ahead : flaw_place l.text ≡ flaw_behind l.text l.cutter.at;
}

abbrev pub decreases-events : goal.decreases-events
decreases-events l = length (events_left l.text l.cutter)
