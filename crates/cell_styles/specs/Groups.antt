-- Groups of equal neighbours.
use Rattle.std.specs.Prelude.{ℕ, ◌+◌, ◌==◌, if◌then◌else◌, List, [], ◌∷◌}

-- how many groups of equal neighbours a list has
abbrev pub group_count : List ℕ → ℕ
group_count [] = 0
group_count (x ∷ []) = 1
group_count (x ∷ y ∷ rest) = (if x == y then 0 else 1) + group_count (y ∷ rest)
