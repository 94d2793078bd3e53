-- A package that tells no content: what is left of the state of the package in it.
use Rattle.std.specs.Prelude.{[], false}
use Rattle.part_events.specs.Package.{PackageState}

-- the state of a package that doesn't tell its content
abbrev pub quiet : PackageState → PackageState
quiet inner = record inner { is_visible = false; parts = []; past = []; rest = [] }
