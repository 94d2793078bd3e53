-- The last of some entries, and what comes after it.
use Rattle.std.specs.Prelude.{Bool, true, List, [], ◌∷◌, Option, Some, None}
use Rattle.std.specs.declared.cmp.Ordering.{Ordering}
use Rattle.std.specs.Ordering.{is_lt}

-- the key of the last entry, if there is one
abbrev pub last_key : {K X : Type 0} → List (K × X) → Option K
last_key [] = None
last_key (entry ∷ []) = Some entry.0
last_key (entry ∷ next ∷ entries) = last_key (next ∷ entries)

-- a key is greater than the last one, if there is one
abbrev pub comes_after : {K : Type 0} → (K → K → Ordering) → Option K → K → Bool
comes_after cmp None key = true
comes_after cmp (Some last) key = is_lt (cmp last key)
