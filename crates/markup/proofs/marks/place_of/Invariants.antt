use Rattle.std.proofs.Common.{◌≡◌, drop}
use Rattle.markup.specs.Marks.{first_place_of}
use Rattle.markup.proofs.Places.{shifted}
use Rattle.markup.proofs.marks.place_of.Given as goal

abbrev pub invariant-loop-at : goal.invariant-loop-at
invariant-loop-at l =
    first_place_of l.needle l.bytes ≡ shifted l.at (first_place_of l.needle (drop l.at l.bytes))
