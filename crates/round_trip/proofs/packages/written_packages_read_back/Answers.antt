use Rattle.round_trip.proofs.WholeRead.{ranges_read_as}
use Rattle.round_trip.proofs.packages.written_packages_read_back.Goals as goal

pub returns : goal.returns
returns c = ranges_read_as
