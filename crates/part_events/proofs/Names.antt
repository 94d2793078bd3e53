-- Comparing names byte by byte.
use Rattle.std.proofs.Common.{ℕ, List, drop, Bool}
use Rattle.std.specs.Str.{bytes_eq}
use Rattle.part_events.specs.Package.{folded}

-- whether what is left of two names is the same
abbrev pub same_from : ℕ → List ℕ → List ℕ → Bool
same_from place a b = bytes_eq (folded (drop place a)) (folded (drop place b))
