use Rattle.std.proofs.Common.{◌≡◌, take, string_bytes}
use Rattle.part_events.specs.Words.{part_at}
use Rattle.package_file.specs.PackageFile.{part_bytes}
use Rattle.package_file.proofs.package_file.part_text.Given as goal

abbrev pub invariant-loop-event : goal.invariant-loop-event
invariant-loop-event l =
    string_bytes l.text ≡ part_bytes (take l.event (part_at l.package.parts l.part).events)
