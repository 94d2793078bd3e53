use Rattle.std.proofs.Common.{ap}
use Rattle.part_events.specs.Reading.{Reading}
use Rattle.part_events.proofs.reader.XlReader.holds_package.Goals as goal

pub returns : goal.returns
returns g c = (c.self.inside.package, ap (λ (r : Reading). r.source) c.self.view_is)
