use Rattle.std.proofs.Common.{◌≡◌, ◌++◌, take, drop}
use Rattle.part_events.specs.Package.{folded}
use Rattle.part_events.proofs.part_names.fold.Given as goal

abbrev pub invariant-loop-byte : goal.invariant-loop-byte
invariant-loop-byte l =
    l.name ≡ folded (take l.byte-index l.fn.name) ++ drop l.byte-index l.fn.name
