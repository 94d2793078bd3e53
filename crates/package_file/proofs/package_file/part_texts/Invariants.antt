use Rattle.std.proofs.Common.{◌≡◌, take, map, string_bytes}
use Rattle.package_file.specs.PackageFile.{part_bytes}
use Rattle.package_file.proofs.package_file.part_texts.Given as goal

abbrev pub invariant-loop-part : goal.invariant-loop-part
invariant-loop-part l =
    map string_bytes l.texts.items
    ≡ map (λ part. part_bytes part.events) (take l.part l.package.parts)
