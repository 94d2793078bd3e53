use Rattle.std.proofs.Common.{◌≡◌, ◌++◌, string_bytes}
use Rattle.shown_text.specs.FractionPlaces.{spaces}
use Rattle.shown_text.proofs.fractions.push_spaces.Given as goal

abbrev pub invariant-loop : goal.invariant-loop
invariant-loop l = string_bytes l.out ≡ string_bytes l.initial.out ++ spaces l.counter
