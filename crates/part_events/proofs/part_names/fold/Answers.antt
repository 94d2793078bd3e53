use Rattle.std.proofs.Common.{rules, get_or}
use Rattle.std.proofs.lemmas.List.Edits.{map_over_more}
use Rattle.part_events.specs.Package.{folded_byte}
use Rattle.part_events.proofs.part_names.fold.Goals as goal

pub loop-byte-preserved : goal.loop-byte-preserved
loop-byte-preserved c =
    rw c.folded_byte.ensures (map_over_more folded_byte c.args.name.now c.loop-byte.name
    c.loop-byte.byte-index (get_or c.loop-byte.name c.loop-byte.byte-index 0)
    c.loop-byte-test.true c.loop-byte.invariant (search rules))
